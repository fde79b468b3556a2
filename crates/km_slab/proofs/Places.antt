use Rattle.std.proofs.Common.{◌≡◌, ℕ, zero, suc, ◌+◌, ◌-◌, ◌*◌, ◌/◌, ◌<◌, ◌≤◌, Bool, true, false, not, ◌&&◌, ◌==◌, List, [], ◌∷◌, find, cond, Option, Some, None, option_map, if◌then◌else◌, refl, sym, ap, ◌∙◌, subst, arith, inl, inr, mul-le-mul_left, div-mul-le_self}
use Rattle.std.specs.List.{list_any, All}
use Rattle.std.proofs.lemmas.Bool.{cases_Bool, and_parts, or_cases, not_from_false, eqb-true, both_ways, false_from_ne_true, cases_lt}
use Rattle.km_model.specs.Memory.{base}
use Rattle.km_model.specs.Placement.{Allocation, page_start, page_of, page_behind, is_slab_block, is_slab_page, is_taken, slots_from, slot_in, slot_from, free_slot}
use Rattle.km_pages.specs.declared.runs.Run.{Run}
use Rattle.km_pages.specs.declared.runs.Use.{Use}
use Rattle.km_pages.specs.declared.runs.Use.TheVariants.{Slab}
use Rattle.km_pages.specs.Uses.{same_use}
use Rattle.km_pages.specs.Runs.{run_with, length_if}
use Rattle.km_pages.specs.Laid.{IsIn, IsLaid, AreLaid}
use Rattle.km_pages.proofs.Touching.{passing, begins_in}
use Rattle.km_pages.proofs.Laying.{slab_use}
use Rattle.km_slab.specs.Blocks.{Sheets, class_at, is_live, slot_start, IsSlot, AreBlocks, Fits, IsFreeAt, IsFull}
use Rattle.km_slab.proofs.Slots.{any_weaker, page_of_slot, slab_page, live_taken}

pub some_number : (a b : ℕ) → Some a ≡ Some b → a ≡ b
some_number a b e = cc

pub cancelled : (class i j : ℕ) → 0 < class → class * i ≡ class * j → i ≡ j
cancelled class i j some e = elim (cases_lt i j) [
  | inl less ↦ absurd (lower class i j some less e)
  | inr more ↦ elim (cases_lt j i) [ inl less ↦ absurd (lower class j i some less (sym e)) | inr same ↦ omega (arith, more, same) ]
] where
  lower : (class i j : ℕ) → 0 < class → i < j → class * i ≡ class * j → ⊥
  lower class i j some less e =
      let d : i + 1 + (j - i - 1) ≡ j = omega (arith, less) in
      let m : class * (i + 1 + (j - i - 1)) ≡ class * i + class + class * (j - i - 1) = omega arith in
      let k : class * (i + 1 + (j - i - 1)) ≡ class * j = ap (λ n. class * n) d in
      omega (arith, some, e, m, k)

pub place_of_slot : (b class p i j : ℕ) → 0 < class → b + 4096 * p + class * i ≡ b + 4096 * p + class * j → i ≡ j
place_of_slot b class p i j some e = cancelled class i j some (omega (arith, e))

-- a run that is found has the use that was asked for
pub kind_found : (kind : Use) (run : Run) (p n : ℕ) → length_if kind p (Some run) ≡ Some n → same_use run.kind kind ≡ true
kind_found kind run p n e = by_test (same_use run.kind kind) (run.first == p) e where
  by_test : (a b : Bool) → (if a && b then Some run.len else None) ≡ Some n → a ≡ true
  by_test true b e = refl
  by_test false b e = absurd cc

-- what begins where a slot does is the block of that slot
pub slot_live : (sheets : Sheets) (class p i : ℕ) (x : Allocation) → 0 < class → 0 < x.size → class_at sheets p ≡ Some class → IsSlot sheets x.size x.start
    → page_of x.start ≡ p → x.start ≡ slot_start class p i → is_live sheets p i ≡ true
slot_live sheets class p i x some full at s page start =
    let same : s.page ≡ p = sym (page_of_slot base x.size s.page s.place full s.fits) ∙ ap page_of (sym s.start) ∙ page in
    let size : x.size ≡ class = some_number x.size class (sym (subst (λ q. class_at sheets q ≡ Some x.size) same s.class) ∙ at) in
    let began : x.start ≡ slot_start class p s.place = subst (λ n. x.start ≡ slot_start n p s.place) size (subst (λ q. x.start ≡ slot_start x.size q s.place) same s.start) in
    let place : s.place ≡ i = place_of_slot base class p s.place i some (sym began ∙ start) in
    subst (λ j. is_live sheets p j ≡ true) place (subst (λ q. is_live sheets q s.place ≡ true) same s.live)

-- what begins in a slab page is a slab block
pub slab_there : (sheets : Sheets) (pages : List (Option Run)) (class p : ℕ) (x : Allocation) → Fits sheets pages → class_at sheets p ≡ Some class → IsLaid pages x → page_of x.start ≡ p → is_slab_block x ≡ true
slab_there sheets pages class p x fits at l page =
    let inside = l.inside in
    let r = begins_in l.run x inside in
    let here : run_with pages p ≡ Some l.run = subst (λ q. run_with pages q ≡ Some l.run) page (l.has (page_of x.start) r.0 r.1) in
    sym (slab_use x) ∙ ap (λ u. same_use u Slab) (sym inside.its_use) ∙ kind_found Slab l.run p 1 (ap (length_if Slab p) (sym here) ∙ fits.runs p ∙ ap (option_map (λ _. 1)) at)

-- a slot is live where it is taken
pub taken_live : (sheets : Sheets) (pages : List (Option Run)) (used : List Allocation) (class p i : ℕ) → AreLaid pages used → AreBlocks sheets used → Fits sheets pages
    → 0 < class → class * (i + 1) ≤ 4096 → class_at sheets p ≡ Some class → is_taken used (slot_start class p i) ≡ true → is_live sheets p i ≡ true
taken_live sheets pages used class p i laid blocks fits some within at h =
    let Both = λ (x : Allocation). IsLaid pages x × (is_slab_block x ≡ true → IsSlot sheets x.size x.start) in
    let both : All Both used = λ k d lt. (laid.each k d lt, blocks.slots k d lt) in
    let x = passing Both (λ (x : Allocation). x.start == slot_start class p i) used both h in
    let start = eqb-true x.0.start (slot_start class p i) x.2 in
    let page : page_of x.0.start ≡ p = ap page_of start ∙ page_of_slot base class p i some within in
    let l = x.1.0 in
    slot_live sheets class p i x.0 some l.inside.some at (x.1.1 (slab_there sheets pages class p x.0 fits at l page)) page start

-- the first slot of a page that passes
first_slot : (test : ℕ → Bool) (class left a i : ℕ) → i < left → ((j : ℕ) → j < i → test (a + class * j) ≡ false) → test (a + class * i) ≡ true → find test (slots_from class left a) ≡ Some (a + class * i)
first_slot test class zero a i lt none here = absurd (omega (arith, lt))
first_slot test class (suc left) a zero lt none here =
    let e : a + class * 0 ≡ a = omega arith in
    ap (λ b. cond b (Some a) (find test (slots_from class left (a + class)))) (subst (λ s. test s ≡ true) e here) ∙ ap Some (sym e)
first_slot test class (suc left) a (suc i) lt none here =
    let e : a + class * 0 ≡ a = omega arith in
    let next : (j : ℕ) → a + class + class * j ≡ a + class * suc j = λ j. omega arith in
    ap (λ b. cond b (Some a) (find test (slots_from class left (a + class)))) (subst (λ s. test s ≡ false) e (none 0 (omega arith)))
    ∙ first_slot test class left (a + class) i (omega (arith, lt)) (λ j less. subst (λ s. test s ≡ false) (sym (next j)) (none (suc j) (omega (arith, less)))) (subst (λ s. test s ≡ true) (sym (next i)) here)
    ∙ ap Some (next i)

no_slot : (test : ℕ → Bool) (class left a : ℕ) → ((j : ℕ) → j < left → test (a + class * j) ≡ false) → find test (slots_from class left a) ≡ None
no_slot test class zero a none = refl
no_slot test class (suc left) a none =
    let e : a + class * 0 ≡ a = omega arith in
    ap (λ b. cond b (Some a) (find test (slots_from class left (a + class)))) (subst (λ s. test s ≡ false) e (none 0 (omega arith)))
    ∙ no_slot test class left (a + class) (λ j less. let next : a + class + class * j ≡ a + class * suc j = omega arith in subst (λ s. test s ≡ false) (sym next) (none (suc j) (omega (arith, less))))

pub slot_within : (class i : ℕ) → 0 < class → i < 4096 / class → class * (i + 1) ≤ 4096
slot_within class i some lt =
    let le : class * (i + 1) ≤ class * (4096 / class) = mul-le-mul_left class (omega (arith, lt)) in
    let all : 4096 / class * class ≤ 4096 = div-mul-le_self 4096 class in
    omega (arith, le, all)

slot_found : (sheets : Sheets) (pages : List (Option Run)) (used : List Allocation) (class p i : ℕ) → AreLaid pages used → AreBlocks sheets used → Fits sheets pages → 0 < class
    → IsFreeAt sheets class p i → slot_in used class p ≡ Some (slot_start class p i)
slot_found sheets pages used class p i laid blocks fits some free =
    let test = λ (a : ℕ). not (is_taken used a) in
    ap (λ b. if b then find test (slots_from class (4096 / class) (page_start p)) else None) (slab_page sheets pages used class p blocks fits some free.0)
    ∙ first_slot test class (4096 / class) (page_start p) i free.1
    (λ j less. ap not (live_taken sheets used class p j blocks free.0 (let f = free.1 in omega (arith, f, less)) (free.3 j less)))
    (not_from_false (is_taken used (slot_start class p i)) (false_from_ne_true (is_taken used (slot_start class p i)) (λ h.
    both_ways (is_live sheets p i) free.2 (taken_live sheets pages used class p i laid blocks fits some (slot_within class i some free.1) free.0 h))))

-- a page of slab blocks is a slab page of their class
class_there : (sheets : Sheets) (used : List Allocation) (class p : ℕ) → AreBlocks sheets used → All (λ (x : Allocation). 0 < x.size) used → is_slab_page used class p ≡ true → class_at sheets p ≡ Some class
class_there sheets used class p blocks full h =
    let Both = λ (x : Allocation). (0 < x.size) × (is_slab_block x ≡ true → IsSlot sheets x.size x.start) in
    let both : All Both used = λ k d lt. (full k d lt, blocks.slots k d lt) in
    let x = passing Both (λ (x : Allocation). is_slab_block x && x.size == class && page_of x.start == p) used both h in
    let outer = and_parts (is_slab_block x.0 && x.0.size == class) (page_of x.0.start == p) x.2 in
    let inner = and_parts (is_slab_block x.0) (x.0.size == class) outer.0 in
    let s = x.1.1 inner.0 in
    let same : s.page ≡ p = sym (page_of_slot base x.0.size s.page s.place x.1.0 s.fits) ∙ ap page_of (sym s.start) ∙ eqb-true (page_of x.0.start) p outer.1 in
    subst (λ n. class_at sheets p ≡ Some n) (eqb-true x.0.size class inner.1) (subst (λ q. class_at sheets q ≡ Some x.0.size) same s.class)

slot_none : (sheets : Sheets) (used : List Allocation) (class p : ℕ) → AreBlocks sheets used → All (λ (x : Allocation). 0 < x.size) used → IsFull sheets class p → slot_in used class p ≡ None
slot_none sheets used class p blocks full none =
    let test = λ (a : ℕ). not (is_taken used a) in
    elim (cases_Bool (is_slab_page used class p)) [
      | inl found ↦
          let at = class_there sheets used class p blocks full found in
          ap (λ b. if b then find test (slots_from class (4096 / class) (page_start p)) else None) found
          ∙ no_slot test class (4096 / class) (page_start p) (λ j less. ap not (live_taken sheets used class p j blocks at less (none at j less)))
      | inr other ↦ ap (λ b. if b then find test (slots_from class (4096 / class) (page_start p)) else None) other
    ]

-- the first page with a slot
from_found : (used : List Allocation) (class left q p a : ℕ) → q ≤ p → p < q + left → slot_in used class p ≡ Some a → ((r : ℕ) → q ≤ r → r < p → slot_in used class r ≡ None) → slot_from used class left q ≡ Some a
from_found used class zero q p a le lt here none = absurd (omega (arith, le, lt))
from_found used class (suc left) q p a le lt here none =
    let Shape = λ (o : Option ℕ). elim o as (λ _. Option ℕ) [ Some b ↦ Some b | None ↦ slot_from used class left (q + 1) ] in
    elim (cases_lt q p) [
      | inl less ↦ ap Shape (none q (omega arith) less) ∙ from_found used class left (q + 1) p a (omega (arith, less)) (omega (arith, lt)) here (λ r more. none r (omega (arith, more)))
      | inr more ↦ let same : q ≡ p = omega (arith, le, more) in ap Shape (ap (slot_in used class) same ∙ here)
    ]

from_none : (used : List Allocation) (class left q : ℕ) → ((r : ℕ) → slot_in used class r ≡ None) → slot_from used class left q ≡ None
from_none used class zero q none = refl
from_none used class (suc left) q none =
    ap (λ (o : Option ℕ). elim o as (λ _. Option ℕ) [ Some b ↦ Some b | None ↦ slot_from used class left (q + 1) ]) (none q) ∙ from_none used class left (q + 1) none

page_before : (b start size : ℕ) → 0 < size → b ≤ start → (start - b) / 4096 < (start + size + 4095 - b) / 4096
page_before b start size some low = omega (arith, some, low)

abbrev IsPlaced : Allocation → Type 0
IsPlaced x = (0 < x.size) × (base ≤ x.start)

behind : (used : List Allocation) (p : ℕ) → All IsPlaced used → list_any (λ (x : Allocation). page_of x.start == p) used ≡ true → p < page_behind used
behind [] p all h = absurd cc
behind (x ∷ used) p all h =
    elim (or_cases (page_of x.start == p) (list_any (λ (y : Allocation). page_of y.start == p) used) h) [
      | inl here ↦
          let at = all 0 x (omega arith) in
          let low = page_before base x.start x.size at.0 at.1 in
          let same = eqb-true (page_of x.start) p here in
          omega (arith, low, same)
      | inr there ↦ let rest = behind used p (λ k d lt. all (suc k) d (omega (arith, lt))) there in omega (arith, rest)
    ]

placed_inside : (run : Run) (x : Allocation) → IsIn run x → IsPlaced x
placed_inside run x i = (i.some, (let a = i.low in omega (arith, a)))

placed : (pages : List (Option Run)) (used : List Allocation) → AreLaid pages used → All IsPlaced used
placed pages used laid = λ k d lt. let l = laid.each k d lt in placed_inside l.run _ l.inside

-- where a block of a class is placed: in the lowest free slot of the lowest page that has one
pub free_slot_found : (sheets : Sheets) (pages : List (Option Run)) (used : List Allocation) (class p i : ℕ) → AreLaid pages used → AreBlocks sheets used → Fits sheets pages → 0 < class
    → IsFreeAt sheets class p i → ((q : ℕ) → q < p → IsFull sheets class q) → free_slot used class ≡ Some (slot_start class p i)
free_slot_found sheets pages used class p i laid blocks fits some free none =
    let all = placed pages used laid in
    let full : All (λ (x : Allocation). 0 < x.size) used = λ k d lt. (all k d lt).0 in
    let page = slab_page sheets pages used class p blocks fits some free.0 in
    let there = any_weaker (λ (x : Allocation). is_slab_block x && x.size == class && page_of x.start == p) (λ (x : Allocation). page_of x.start == p) used
    (λ x h. (and_parts (is_slab_block x && x.size == class) (page_of x.start == p) h).1) page in
    from_found used class (page_behind used) 0 p (slot_start class p i) (omega arith) (let b = behind used p all there in omega (arith, b))
    (slot_found sheets pages used class p i laid blocks fits some free) (λ r le lt. slot_none sheets used class r blocks full (none r lt))

pub free_slot_none : (sheets : Sheets) (pages : List (Option Run)) (used : List Allocation) (class : ℕ) → AreLaid pages used → AreBlocks sheets used
    → ((q : ℕ) → IsFull sheets class q) → free_slot used class ≡ None
free_slot_none sheets pages used class laid blocks none =
    let all = placed pages used laid in
    from_none used class (page_behind used) 0 (λ r. slot_none sheets used class r blocks (λ k d lt. (all k d lt).0) (none r))
