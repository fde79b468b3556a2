use Rattle.std.proofs.Common.{◌≡◌, ℕ, ◌+◌, ◌-◌, ◌*◌, ◌/◌, ◌%◌, ◌<◌, ◌≤◌, true, List, length, slice_index_or, Option, Some, None, ap, ◌∙◌, subst, arith, div-mul-le_self, mul-le-mul_left, ltb-true}
use Rattle.std.proofs.Math.Nat.{mul-div_cancel_left, mul-mod_right}
use Rattle.km_model.specs.Memory.{base}
use Rattle.km_model.specs.Placement.{page_start, page_of}
use Rattle.km_marks.specs.Sets.{has}
use Rattle.km_slab.specs.Blocks.{AreMarks, has_place}
use Rattle.km_slab.proofs.Slots.{page_of_slot}
use Rattle.km_slab.proofs.Places.{slot_within}
use Rattle.km_slab.proofs.Changing.{slab_within}

-- a byte of a page is in one of at most 512 slots
pub few_slots : (class inside : ℕ) → 8 ≤ class → inside < 4096 → inside / class < 512
few_slots class inside some lt =
    let all = div-mul-le_self inside class in
    let m : inside / class * 8 ≤ inside / class * class = mul-le-mul_left (inside / class) some in
    omega (arith, all, m, lt)

in_page : (b class p i start : ℕ) → start ≡ b + 4096 * p + class * i → class * (i + 1) ≤ 4096 → 0 < class → (start - b) % 4096 ≡ class * i
in_page b class p i start e fits some =
    let more : class * (i + 1) ≡ class * i + class = omega arith in
    omega (arith, e, more, fits, some)

-- where a live slot begins
pub record Begins (classes : List (Option ℕ)) (class p i start : ℕ) : Type 0 where
  pub some : 8 ≤ class
  pub low : base ≤ start
  pub page : (start - base) / 4096 ≡ p
  pub within : p < length classes
  pub inside : (start - base) % 4096 ≡ class * i

pub live_begins : (classes : List (Option ℕ)) (free live opened : List ℕ) (row class p i start : ℕ) → AreMarks classes free live opened row
    → slice_index_or classes p None ≡ Some class → i < 512 → start ≡ page_start p + class * i → has live (512 * p + i) ≡ true → Begins classes class p i start
live_begins classes free live opened row class p i start marks at small e here =
    let size = (marks.sizes p class at).0 in
    let place : i < 4096 / class = ltb-true i (4096 / class) (subst (λ o. has_place o i ≡ true) at (marks.live_in p i small here)) in
    let some : 0 < class = omega (arith, size) in
    let fits = slot_within class i some place in
    record {
      some = size;
      low = omega (arith, e);
      page = ap page_of e ∙ page_of_slot base class p i some fits;
      within = slab_within classes p class at;
      inside = in_page base class p i start e fits some;
    }

-- what is told of a byte where a slot of the class begins
pub slot_told : (class i inside : ℕ) → 8 ≤ class → inside ≡ class * i → (inside / class ≡ i) × (inside % class ≡ 0)
slot_told class i inside some e =
    (ap (λ n. n / class) e ∙ mul-div_cancel_left i (omega (arith, some)), ap (λ n. n % class) e ∙ mul-mod_right class i)
