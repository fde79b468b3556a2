use Rattle.std.proofs.Common.{◌≡◌, ◌≢◌, ℕ, ◌+◌, ◌*◌, ◌/◌, ◌<◌, ◌≤◌, Bool, true, false, not, ◌&&◌, ◌||◌, ◌==◌, nat_le, nat_lt, List, length, slice_index_or, slice_set, Option, Some, None, refl, sym, ap, ◌∙◌, subst, arith, inl, inr, mul-le-mul_left, mul-le-mul_right, div-mul-le_self, ltb-true, lt-ltb, leb-true}
use Rattle.std.proofs.lemmas.Bool.{and_parts, or_cases, or_left, or_right, both_ways, false_from_ne_true, cases_lt, le-leb, eqb-true, eq-eqb, cases_eq}
use Rattle.std.proofs.lemmas.Nat.{le-div}
use Rattle.std.proofs.lemmas.List.{get_or-set_same, get_or-set_other, length-set}
use Rattle.km_marks.specs.Sets.{has}
use Rattle.km_slab.specs.Blocks.{AreMarks, IsSize, has_place}
use Rattle.km_slab.proofs.Rows.{no_class}
use Rattle.km_slab.proofs.Places.{some_number}

-- a mark is in one row
less_row : (row k h p q : ℕ) → k < h → p < 64 * row → 64 * (row * k) + p ≡ 64 * (row * h) + q → ⊥
less_row row k h p q less lt e = let m : row * (k + 1) ≤ row * h = mul-le-mul_left row (omega (arith, less)) in omega (arith, m, lt, e)

pub one_row : (row k h p q : ℕ) → p < 64 * row → q < 64 * row → 64 * (row * k) + p ≡ 64 * (row * h) + q → (k ≡ h) × (p ≡ q)
one_row row k h p q a b e = elim (cases_lt k h) [
  | inl less ↦ absurd (less_row row k h p q less a e)
  | inr more ↦ elim (cases_lt h k) [
    | inl less ↦ absurd (less_row row h k q p less b (sym e))
    | inr other ↦ let same : k ≡ h = omega (arith, more, other) in (same, (let m : row * k ≡ row * h = ap (λ n. row * n) same in omega (arith, e, m)))
  ]
]

-- the range of a page's slots
lt_same : (a i n : ℕ) → nat_lt (a + i) (a + n) ≡ nat_lt i n
lt_same a i n = grind (arith, lt-ltb, le-leb)

pub page_range : (page i n : ℕ) → (nat_le (512 * page) (512 * page + i) && nat_lt (512 * page + i) (512 * page + n)) ≡ nat_lt i n
page_range page i n = ap (λ b. b && nat_lt (512 * page + i) (512 * page + n)) (le-leb (512 * page) (512 * page + i) (omega arith)) ∙ lt_same (512 * page) i n

pub other_range : (page p i n : ℕ) → p ≢ page → i < 512 → n ≤ 512 → (nat_le (512 * page) (512 * p + i) && nat_lt (512 * p + i) (512 * page + n)) ≡ false
other_range page p i n ne lt few = false_from_ne_true (nat_le (512 * page) (512 * p + i) && nat_lt (512 * p + i) (512 * page + n)) (λ h.
    let k = and_parts (nat_le (512 * page) (512 * p + i)) (nat_lt (512 * p + i) (512 * page + n)) h in
    let a = leb-true (512 * page) (512 * p + i) k.0 in let b = ltb-true (512 * p + i) (512 * page + n) k.1 in
    ne (omega (arith, a, b, lt, few)))

pub record Taken (classes : List (Option ℕ)) (free live opened new_free new_open : List ℕ) (row class page : ℕ) : Type 0 where
  pub old : AreMarks classes free live opened row
  pub size : IsSize class
  pub within : page < length classes
  pub no_slab : slice_index_or classes page None ≡ None
  pub words : length new_free ≡ length free
  pub open_words : length new_open ≡ length opened
  pub filled : (j : ℕ) → has new_free j ≡ (nat_le (512 * page) j && nat_lt j (512 * page + 4096 / class) || has free j)
  pub marked : (j : ℕ) → has new_open j ≡ (j == 64 * (row * (class / 8)) + page || has opened j)

pub some_slots : (class : ℕ) → 8 ≤ class → class ≤ 4096 → (1 ≤ 4096 / class) × (4096 / class ≤ 512)
some_slots class low high =
    let a : class * (4096 / class) ≤ 4096 = (let m : 4096 / class * class ≤ 4096 = div-mul-le_self 4096 class in omega (arith, m)) in
    let b : 8 * (4096 / class) ≤ class * (4096 / class) = mul-le-mul_right (4096 / class) low in
    (le-div 1 4096 class (omega (arith, low)) (omega (arith, high)), omega (arith, a, b))

pub same_or : (a b : Bool) → a ≡ false → (a || b) ≡ b
same_or a b e = ap (λ x. x || b) e

or_none : (a b : Bool) → b ≡ false → (a || b) ≡ a
or_none true b e = refl
or_none false b e = e

-- a page that becomes a slab page
pub taken_marks : (classes : List (Option ℕ)) (free live opened new_free new_open : List ℕ) (row class page : ℕ) → Taken classes free live opened new_free new_open row class page
    → AreMarks (slice_set classes page (Some class)) new_free live new_open row
taken_marks classes free live opened new_free new_open row class page t =
    let old = t.old in
    let count : length (slice_set classes page (Some class)) ≡ length classes = length-set classes page (Some class) in
    let few = some_slots class t.size.0 t.size.1 in
    let rows = old.rows in
    let inside = t.within in
    let here : slice_index_or (slice_set classes page (Some class)) page None ≡ Some class = get_or-set_same classes page (Some class) None t.within in
    let other : (p : ℕ) → p ≢ page → slice_index_or (slice_set classes page (Some class)) p None ≡ slice_index_or classes p None = λ p ne. get_or-set_other classes page p (Some class) None ne in
    let free_here : (i : ℕ) → i < 512 → has new_free (512 * page + i) ≡ nat_lt i (4096 / class) = λ i lt.
    t.filled (512 * page + i)
    ∙ or_none (nat_le (512 * page) (512 * page + i) && nat_lt (512 * page + i) (512 * page + 4096 / class)) (has free (512 * page + i))
    (old.free_is page i lt ∙ ap (λ o. has_place o i && not (has live (512 * page + i))) t.no_slab)
    ∙ page_range page i (4096 / class) in
    let free_other : (p i : ℕ) → p ≢ page → i < 512 → has new_free (512 * p + i) ≡ has free (512 * p + i) = λ p i ne lt.
    t.filled (512 * p + i) ∙ same_or (nat_le (512 * page) (512 * p + i) && nat_lt (512 * p + i) (512 * page + 4096 / class)) (has free (512 * p + i)) (other_range page p i (4096 / class) ne lt few.1) in
    let dead : (i : ℕ) → i < 512 → has live (512 * page + i) ≡ false = λ i lt. false_from_ne_true (has live (512 * page + i)) (λ h.
    both_ways (has_place (slice_index_or classes page None) i) (ap (λ o. has_place o i) t.no_slab) (old.live_in page i lt h)) in
    record {
      short = subst (λ n. n < 4294967296) (sym count) old.short;
      free_words = (let a = t.words in let b = old.free_words in omega (arith, a, b, count));
      live_words = (let b = old.live_words in omega (arith, b, count));
      rows = rows ∙ ap (λ n. n / 64 + 1) (sym count);
      open_words = t.open_words ∙ old.open_words;
      sizes = λ p cl at. elim (cases_eq p page) [
        | inl same ↦ subst IsSize (some_number class cl (sym here ∙ subst (λ q. slice_index_or (slice_set classes page (Some class)) q None ≡ Some cl) same at)) t.size
        | inr ne ↦ old.sizes p cl (sym (other p ne) ∙ at)
      ];
      free_is = λ p i lt. elim (cases_eq p page) [
        | inl same ↦ subst (λ q. has new_free (512 * q + i) ≡ (has_place (slice_index_or (slice_set classes page (Some class)) q None) i && not (has live (512 * q + i)))) (sym same)
            (free_here i lt ∙ sym (and_true (nat_lt i (4096 / class)) (not (has live (512 * page + i))) (ap not (dead i lt))) ∙ ap (λ o. has_place o i && not (has live (512 * page + i))) (sym here))
        | inr ne ↦ free_other p i ne lt ∙ old.free_is p i lt ∙ ap (λ o. has_place o i && not (has live (512 * p + i))) (sym (other p ne))
      ];
      live_in = λ p i lt h. elim (cases_eq p page) [
        | inl same ↦ absurd (both_ways (has live (512 * page + i)) (dead i lt) (subst (λ q. has live (512 * q + i) ≡ true) same h))
        | inr ne ↦ ap (λ o. has_place o i) (other p ne) ∙ old.live_in p i lt h
      ];
      open_has = λ p k lt h. elim (or_cases (64 * (row * k) + p == 64 * (row * (class / 8)) + page) (has opened (64 * (row * k) + p)) (sym (t.marked (64 * (row * k) + p)) ∙ h)) [
        | inl mark ↦
            let one = one_row row k (class / 8) p page lt (omega (arith, rows, inside)) (eqb-true (64 * (row * k) + p) (64 * (row * (class / 8)) + page) mark) in
            let at : slice_index_or (slice_set classes page (Some class)) p None ≡ Some (8 * k) =
            ap (λ q. slice_index_or (slice_set classes page (Some class)) q None) one.1 ∙ here ∙ ap Some (sym t.size.2 ∙ ap (λ n. 8 * n) (sym one.0)) in
            (at, 0, omega arith, subst (λ q. has new_free (512 * q + 0) ≡ true) (sym one.1) (free_here 0 (omega arith) ∙ lt-ltb 0 (4096 / class) (let f = few.0 in omega (arith, f))))
        | inr mark ↦
            let o = old.open_has p k lt mark in
            let ne : p ≢ page = λ same. no_class (slice_index_or classes page None) (8 * k) t.no_slab (subst (λ q. slice_index_or classes q None ≡ Some (8 * k)) same o.0) in
            (other p ne ∙ o.0, o.1, o.2, free_other p o.1 ne o.2 ∙ o.3)
      ];
      open_all = λ p cl i at lt f. t.marked (64 * (row * (cl / 8)) + p) ∙ elim (cases_eq p page) [
        | inl same ↦
            let size : cl ≡ class = sym (some_number class cl (sym here ∙ subst (λ q. slice_index_or (slice_set classes page (Some class)) q None ≡ Some cl) same at)) in
            or_left (64 * (row * (cl / 8)) + p == 64 * (row * (class / 8)) + page) (has opened (64 * (row * (cl / 8)) + p))
            (eq-eqb (64 * (row * (cl / 8)) + p) (64 * (row * (class / 8)) + page) (ap (λ n. 64 * (row * (n / 8)) + p) size ∙ ap (λ q. 64 * (row * (class / 8)) + q) same))
        | inr ne ↦ or_right (64 * (row * (cl / 8)) + p == 64 * (row * (class / 8)) + page) (has opened (64 * (row * (cl / 8)) + p))
            (old.open_all p cl i (sym (other p ne) ∙ at) lt (sym (free_other p i ne lt) ∙ f))
      ];
    } where
      and_true : (a b : Bool) → b ≡ true → (a && b) ≡ a
      and_true true b e = e
      and_true false b e = refl
