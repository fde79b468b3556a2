use Rattle.std.proofs.Common.{◌≡◌, ℕ, suc, ◌+◌, ◌-◌, ◌*◌, ◌/◌, ◌<◌, ◌≤◌, Bool, true, ◌&&◌, ◌==◌, List, [], ◌∷◌, Option, Some, ap, ◌∙◌, arith, inl, inr}
use Rattle.std.specs.List.{list_any, All}
use Rattle.std.proofs.Math.Nat.{le-div_iff_mul-le}
use Rattle.std.proofs.lemmas.Bool.{and_parts, and_from, or_cases, or_left, or_right, eqb-true, eq-eqb}
use Rattle.km_model.specs.Memory.{base}
use Rattle.km_model.specs.Placement.{Allocation, page_of, is_slab_block, is_slab_page, is_taken}
use Rattle.km_pages.specs.declared.runs.Run.{Run}
use Rattle.km_slab.specs.Blocks.{Sheets, class_at, is_live, slot_start, is_slot, AreBlocks, Fits}

-- what passes one test passes another
pub any_in : {X : Type 0} (t u : X → Bool) (xs : List X) → All (λ x. t x ≡ true → u x ≡ true) xs → list_any t xs ≡ true → list_any u xs ≡ true
any_in t u [] all h = h
any_in t u (x ∷ xs) all h =
    elim (or_cases (t x) (list_any t xs) h) [
      | inl here ↦ or_left (u x) (list_any u xs) (all 0 x (omega arith) here)
      | inr there ↦ or_right (u x) (list_any u xs) (any_in t u xs (λ k d lt. all (suc k) d (omega (arith, lt))) there)
    ]

pub any_weaker : {X : Type 0} (t u : X → Bool) (xs : List X) → ((x : X) → t x ≡ true → u x ≡ true) → list_any t xs ≡ true → list_any u xs ≡ true
any_weaker t u xs f = any_in t u xs (λ k d lt. f _)

-- a slot lies in its page
pub page_of_slot : (b class p i : ℕ) → 0 < class → class * (i + 1) ≤ 4096 → (b + 4096 * p + class * i - b) / 4096 ≡ p
page_of_slot b class p i some fits =
    let more : class * (i + 1) ≡ class * i + class = omega arith in
    omega (arith, more, some, fits)

-- a slot that lies in its page is one of its slots
pub place_fits : (class i : ℕ) → 0 < class → class * (i + 1) ≤ 4096 → i < 4096 / class
place_fits class i some fits =
    let d : i + 1 ≤ 4096 / class = (le-div_iff_mul-le some).1 (omega (arith, fits)) in
    omega (arith, d)

pub slot_parts : (class a : ℕ) (x : Allocation) → is_slot class a x ≡ true → (is_slab_block x ≡ true) × (x.size ≡ class) × (x.start ≡ a)
slot_parts class a x h =
    let outer = and_parts (is_slab_block x && x.size == class) (x.start == a) h in
    let inner = and_parts (is_slab_block x) (x.size == class) outer.0 in
    (inner.0, eqb-true x.size class inner.1, eqb-true x.start a outer.1)

-- a page of a class, among the live allocations
pub slab_page : (sheets : Sheets) (pages : List (Option Run)) (used : List Allocation) (class p : ℕ) → AreBlocks sheets used → Fits sheets pages → 0 < class → class_at sheets p ≡ Some class → is_slab_page used class p ≡ true
slab_page sheets pages used class p blocks fits some at =
    let i = fits.some p class at in
    any_weaker (is_slot class (slot_start class p i.0)) (λ (x : Allocation). is_slab_block x && x.size == class && page_of x.start == p) used
    (λ x h.
    let k = slot_parts class (slot_start class p i.0) x h in
    and_from (is_slab_block x && x.size == class) (page_of x.start == p) (and_from (is_slab_block x) (x.size == class) k.0 (eq-eqb x.size class k.1))
    (eq-eqb (page_of x.start) p (ap page_of k.2 ∙ page_of_slot base class p i.0 some i.1))) (blocks.live p class i.0 at (place_fits class i.0 some i.1) i.2)

-- a slot is taken where it is live
pub live_taken : (sheets : Sheets) (used : List Allocation) (class p i : ℕ) → AreBlocks sheets used → class_at sheets p ≡ Some class → i < 4096 / class → is_live sheets p i ≡ true → is_taken used (slot_start class p i) ≡ true
live_taken sheets used class p i blocks at fits live =
    any_weaker (is_slot class (slot_start class p i)) (λ (x : Allocation). x.start == slot_start class p i) used
    (λ x h. (and_parts (is_slab_block x && x.size == class) (x.start == slot_start class p i) h).1) (blocks.live p class i at fits live)
