use Rattle.std.proofs.Common.{◌≡◌, ℕ, ◌+◌, ◌*◌, ◌/◌, ◌<◌, ◌≤◌, true, false, not, List, length, slice_index_or, Option, Some, None, sym, ap, ◌∙◌, subst, arith, inl, inr, mul-le-mul_right, ltb-true, lt-ltb}
use Rattle.std.proofs.lemmas.Bool.{cases_Bool, and_parts, and_from, both_ways, not-true, not_from_false, cases_lt}
use Rattle.std.proofs.lemmas.List.{get_or_past}
use Rattle.km_marks.specs.Sets.{has}
use Rattle.km_slab.specs.Blocks.{AreMarks, HasFree, IsFull, IsSize, has_place}
use Rattle.km_slab.proofs.Places.{slot_within}

-- a page has at most 512 slots
pub place_small : (class i : ℕ) → 8 ≤ class → i < 4096 / class → i < 512
place_small class i some lt =
    let w = slot_within class i (omega (arith, some)) lt in
    let m : 8 * (i + 1) ≤ class * (i + 1) = mul-le-mul_right (i + 1) some in
    omega (arith, w, m)

pub no_class : (o : Option ℕ) (class : ℕ) → o ≡ None → o ≡ Some class → ⊥
no_class o class a b = cc

-- a page whose mark stands has a free slot
pub marked : (classes : List (Option ℕ)) (free live opened : List ℕ) (row class p : ℕ) → AreMarks classes free live opened row → IsSize class → p < 64 * row
    → has opened (64 * (row * (class / 8)) + p) ≡ true → HasFree (record { classes = classes; live = live }) class p
marked classes free live opened row class p marks size lt h =
    let o = marks.open_has p (class / 8) lt h in
    let at : slice_index_or classes p None ≡ Some class = o.0 ∙ ap Some size.2 in
    let f = and_parts (has_place (slice_index_or classes p None) o.1) (not (has live (512 * p + o.1))) (sym (marks.free_is p o.1 o.2) ∙ o.3) in
    (at, o.1, ltb-true o.1 (4096 / class) (subst (λ x. has_place x o.1 ≡ true) at f.0), not-true (has live (512 * p + o.1)) f.1)

-- one whose mark does not stand is full
pub unmarked : (classes : List (Option ℕ)) (free live opened : List ℕ) (row class p : ℕ) → AreMarks classes free live opened row → IsSize class
    → (p < 64 * row → has opened (64 * (row * (class / 8)) + p) ≡ false) → IsFull (record { classes = classes; live = live }) class p
unmarked classes free live opened row class p marks size none at j lt =
    let small = place_small class j size.0 lt in
    elim (cases_lt p (length classes)) [
      | inl less ↦ elim (cases_Bool (has live (512 * p + j))) [
        | inl here ↦ here
        | inr there ↦
            let r = marks.rows in
            let f = marks.free_is p j small ∙ and_from (has_place (slice_index_or classes p None) j) (not (has live (512 * p + j)))
            (ap (λ x. has_place x j) at ∙ lt-ltb j (4096 / class) lt) (not_from_false (has live (512 * p + j)) there) in
            absurd (both_ways (has opened (64 * (row * (class / 8)) + p)) (none (omega (arith, r, less))) (marks.open_all p class j at small f))
      ]
      | inr more ↦ absurd (no_class (slice_index_or classes p None) class (get_or_past classes p None more) at)
    ]
