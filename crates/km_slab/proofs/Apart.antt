use Rattle.std.proofs.Common.{◌≡◌, ℕ, ◌+◌, ◌*◌, ◌<◌, ◌≤◌, true, false, List, get_or, Option, Some, sym, ap, ◌∙◌, subst, arith, ◌⊎◌, inl, inr, mul-le-mul_left}
use Rattle.std.specs.List.{All}
use Rattle.std.proofs.lemmas.Bool.{both_ways, cases_lt}
use Rattle.km_model.specs.Memory.{base}
use Rattle.km_model.specs.Placement.{Allocation, page_start, page_of, is_slab_block}
use Rattle.km_pages.specs.declared.runs.Run.{Run}
use Rattle.km_pages.specs.Laid.{IsLaid, AreLaid}
use Rattle.km_pages.proofs.Touching.{begins_in}
use Rattle.km_pages.proofs.Laying.{same_run}
use Rattle.km_slab.specs.Blocks.{Sheets, class_at, is_live, slot_start, IsSlot, AreBlocks, Fits}
use Rattle.km_slab.proofs.Slots.{page_of_slot}
use Rattle.km_slab.proofs.Places.{slab_there, some_number}
use Rattle.km_slab.proofs.Growing.{slab_run}

-- two slots of a class in a page have no byte in common
slots_apart : (a class i j : ℕ) → i < j → a + class * i + class ≤ a + class * j
slots_apart a class i j less =
    let m : class * (i + 1) ≤ class * j = mul-le-mul_left class (omega (arith, less)) in
    let more : class * (i + 1) ≡ class * i + class = omega arith in
    omega (arith, m, more)

-- a free slot and a live allocation have none either
pub slot_apart : (sheets : Sheets) (pages : List (Option Run)) (used : List Allocation) (class p i : ℕ) → 0 < class → class * (i + 1) ≤ 4096 → class_at sheets p ≡ Some class → is_live sheets p i ≡ false
    → Fits sheets pages → AreLaid pages used → AreBlocks sheets used → All (λ (x : Allocation). (x.start + x.size ≤ slot_start class p i) ⊎ (slot_start class p i + class ≤ x.start)) used
slot_apart sheets pages used class p i some room at dead fits laid blocks k d lt =
    of_one (get_or used k d) (laid.each k d lt) (blocks.slots k d lt) where
      inside : (x : Allocation) → IsLaid pages x → (is_slab_block x ≡ true → IsSlot sheets x.size x.start) → page_of x.start ≡ p → (x.start + x.size ≤ slot_start class p i) ⊎ (slot_start class p i + class ≤ x.start)
      inside x l slot page =
          let s = slot (slab_there sheets pages class p x fits at l page) in
          let same : s.page ≡ p = sym (page_of_slot base x.size s.page s.place l.inside.some s.fits) ∙ ap page_of (sym s.start) ∙ page in
          let is : x.size ≡ class = some_number x.size class (sym (subst (λ q. class_at sheets q ≡ Some x.size) same s.class) ∙ at) in
          let start : x.start ≡ slot_start class p s.place = s.start ∙ ap (λ n. slot_start n s.page s.place) is ∙ ap (λ q. slot_start class q s.place) same in
          elim (cases_lt s.place i) [
            | inl less ↦ inl (let m = slots_apart (page_start p) class s.place i less in omega (arith, m, is, start))
            | inr more ↦ elim (cases_lt i s.place) [
              | inl less ↦ inr (let m = slots_apart (page_start p) class i s.place less in omega (arith, m, start))
              | inr few ↦
                  let one : s.place ≡ i = omega (arith, more, few) in
                  absurd (both_ways (is_live sheets p i) dead (subst (λ n. is_live sheets p n ≡ true) one (subst (λ q. is_live sheets q s.place ≡ true) same s.live)))
            ]
          ]

      of_one : (x : Allocation) → IsLaid pages x → (is_slab_block x ≡ true → IsSlot sheets x.size x.start) → (x.start + x.size ≤ slot_start class p i) ⊎ (slot_start class p i + class ≤ x.start)
      of_one x l slot =
          let in_ = l.inside in
          let low = in_.low in let high = in_.high in
          let begin = begins_in l.run x in_ in
          let more : class * (i + 1) ≡ class * i + class = omega arith in
          elim (cases_lt p (l.run.first + l.run.len)) [
            | inr less ↦ inl (omega (arith, less, high))
            | inl before ↦ elim (cases_lt p l.run.first) [
              | inl beyond ↦ inr (omega (arith, beyond, low, more, room))
              | inr within ↦
                  let r = slab_run sheets pages class p fits at in
                  let is : l.run ≡ r.run = same_run pages p l.run r.run (l.has p within before) r.is in
                  let first : l.run.first ≡ p = ap (λ (s : Run). s.first) is ∙ r.first in
                  let len : l.run.len ≡ 1 = ap (λ (s : Run). s.len) is ∙ r.len in
                  inside x l slot (omega (arith, begin, first, len))
            ]
          ]
