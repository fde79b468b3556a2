use Rattle.std.proofs.Common.{◌≡◌, ℕ, zero, suc, ◌+◌, ◌-◌, ◌<◌, ◌≤◌, Bool, true, false, nat_le, List, length, Option, Some, None, if◌then◌else◌, refl, subst, arith, inl, inr, leb-true}
use Rattle.std.proofs.lemmas.Bool.{and_parts, and_from, cases_lt, le-leb, lt-leb, both_ways, false_from_ne_true}
use Rattle.std.proofs.lemmas.List.{get_or_past}
use Rattle.km_pages.specs.declared.runs.Run.{Run}
use Rattle.km_pages.specs.Runs.{is_free, are_free, lowest_free, first_fit}
use Rattle.km_model.specs.Placement.{least_from}
use Rattle.km_model.proofs.Pages.{least_passes}

-- the least number that passes
pub least_is : (test : ℕ → Bool) (left n m : ℕ) → ((q : ℕ) → n ≤ q → q < m → test q ≡ false) → test m ≡ true → n ≤ m → m ≤ n + left → least_from test left n ≡ m
least_is test zero n m below h low high = omega (arith, low, high)
least_is test (suc left) n m below h low high =
    let Goal = λ (q : Bool). test n ≡ q → elim q as (λ _. ℕ) [ true ↦ n | false ↦ least_from test left (n + 1) ] ≡ m in
    elim (test n) as Goal [
      | true ↦ λ e. elim (cases_lt n m) [ inl less ↦ absurd (both_ways (test n) (below n (omega arith) less) e) | inr more ↦ omega (arith, low, more) ]
      | false ↦ λ e. elim (cases_lt n m) [
        | inl less ↦ least_is test left (n + 1) m (λ q le lt. below q (omega (arith, le)) lt) h (omega (arith, less)) (omega (arith, high))
        | inr more ↦ absurd (both_ways (test m) (subst (λ k. test k ≡ false) (let same : n ≡ m = omega (arith, low, more) in same) e) h)
      ]
    ] refl

-- none below it passes
pub least_before : (test : ℕ → Bool) (left n q : ℕ) → n ≤ q → q < least_from test left n → test q ≡ false
least_before test zero n q low high = absurd (omega (arith, low, high))
least_before test (suc left) n q low high =
    let Goal = λ (b : Bool). test n ≡ b → q < elim b as (λ _. ℕ) [ true ↦ n | false ↦ least_from test left (n + 1) ] → test q ≡ false in
    elim (test n) as Goal [
      | true ↦ λ e lt. absurd (omega (arith, low, lt))
      | false ↦ λ e lt. elim (cases_lt n q) [
        | inl less ↦ least_before test left (n + 1) q (omega (arith, less)) lt
        | inr more ↦ subst (λ k. test k ≡ false) (let same : n ≡ q = omega (arith, low, more) in same) e
      ]
    ] refl high

pub least_end : (test : ℕ → Bool) (left n : ℕ) → least_from test left n ≤ n + left
least_end test zero n = omega arith
least_end test (suc left) n =
    elim (test n) as (λ b. elim b as (λ _. ℕ) [ true ↦ n | false ↦ least_from test left (n + 1) ] ≤ n + suc left) [
      | true ↦ omega arith
      | false ↦ omega (arith, least_end test left (n + 1))
    ]

-- pages that are free one by one, and one that isn't
pub are_free_from : (pages : List (Option Run)) (n p : ℕ) → ((q : ℕ) → p ≤ q → q < p + n → is_free pages q ≡ true) → are_free pages n p ≡ true
are_free_from pages zero p f = refl
are_free_from pages (suc n) p f =
    and_from (is_free pages p) (are_free pages n (p + 1)) (f p (omega arith) (omega arith))
    (are_free_from pages n (p + 1) (λ q le lt. f q (omega (arith, le)) (omega (arith, lt))))

pub are_free_at : (pages : List (Option Run)) (n p q : ℕ) → are_free pages n p ≡ true → p ≤ q → q < p + n → is_free pages q ≡ true
are_free_at pages zero p q h le lt = absurd (omega (arith, le, lt))
are_free_at pages (suc n) p q h le lt =
    let parts = and_parts (is_free pages p) (are_free pages n (p + 1)) h in
    elim (cases_lt p q) [
      | inl less ↦ are_free_at pages n (p + 1) q parts.1 (omega (arith, less)) (omega (arith, lt))
      | inr more ↦ subst (λ k. is_free pages k ≡ true) (let same : p ≡ q = omega (arith, le, more) in same) parts.0
    ]

pub blocked : (pages : List (Option Run)) (n p q : ℕ) → is_free pages q ≡ false → p ≤ q → q < p + n → are_free pages n p ≡ false
blocked pages n p q h le lt = false_from_ne_true (are_free pages n p) (λ e. both_ways (is_free pages q) h (are_free_at pages n p q e le lt))

-- pages behind the memory are free
pub free_behind : (pages : List (Option Run)) (p : ℕ) → length pages ≤ p → is_free pages p ≡ true
free_behind pages p le = rw (get_or_past pages p None le)

pub lowest_is_free : (pages : List (Option Run)) (n : ℕ) → are_free pages n (lowest_free pages n) ≡ true
lowest_is_free pages n =
    least_passes (are_free pages n) (length pages) 0
    (are_free_from pages n (0 + length pages) (λ q le lt. free_behind pages q (omega (arith, le))))

-- the first fit, and none
pub first_fit_is : (pages : List (Option Run)) (n p : ℕ) → are_free pages n p ≡ true → p + n ≤ length pages → ((q : ℕ) → q < p → are_free pages n q ≡ false) → first_fit pages n ≡ Some p
first_fit_is pages n p free room before =
    let lowest : lowest_free pages n ≡ p = least_is (are_free pages n) (length pages) 0 p (λ q le lt. before q lt) free (omega arith) (omega (arith, room)) in
    rw lowest (rw (le-leb (p + n) (length pages) room))

pub first_fit_none : (pages : List (Option Run)) (n : ℕ) → ((q : ℕ) → q + n ≤ length pages → are_free pages n q ≡ false) → first_fit pages n ≡ None
first_fit_none pages n f =
    elim (cases_lt (length pages) (lowest_free pages n + n)) [
      | inl less ↦ rw (lt-leb (lowest_free pages n + n) (length pages) less)
      | inr more ↦ absurd (both_ways (are_free pages n (lowest_free pages n)) (f (lowest_free pages n) more) (lowest_is_free pages n))
    ]

-- what a first fit is
pub record IsFit (pages : List (Option Run)) (n p : ℕ) : Type 0 where
  pub room : p + n ≤ length pages
  pub free : are_free pages n p ≡ true
  pub lowest : p ≡ lowest_free pages n

pub fit : (pages : List (Option Run)) (n p : ℕ) → first_fit pages n ≡ Some p → IsFit pages n p
fit pages n p h =
    let Goal = λ (q : Bool). nat_le (lowest_free pages n + n) (length pages) ≡ q → (if q then Some (lowest_free pages n) else None) ≡ Some p → IsFit pages n p in
    elim (nat_le (lowest_free pages n + n) (length pages)) as Goal [
      | true ↦ λ e s. let same : lowest_free pages n ≡ p = cc in
          subst (IsFit pages n) same (record { room = leb-true (lowest_free pages n + n) (length pages) e; free = lowest_is_free pages n; lowest = refl })
      | false ↦ λ e s. absurd cc
    ] refl h

-- what a search knows at page `p`: the last `free` pages are free, and no run of `n` begins before them
pub record Searched (pages : List (Option Run)) (n p free : ℕ) : Type 0 where
  pub few : free < n
  pub within : free ≤ p
  pub behind : (q : ℕ) → p ≤ q + free → q < p → is_free pages q ≡ true
  pub before : (q : ℕ) → q + free < p → are_free pages n q ≡ false

pub searched_held : (pages : List (Option Run)) (n p free : ℕ) → Searched pages n p free → is_free pages p ≡ false → Searched pages n (p + 1) 0
searched_held pages n p free s h = record {
  few = (let a = s.few in omega (arith, a));
  within = omega arith;
  behind = λ q le lt. absurd (omega (arith, le, lt));
  before = λ q lt. elim (cases_lt (q + free) p) [
    | inl less ↦ s.before q less
    | inr more ↦ blocked pages n q p h (omega (arith, lt)) (let a = s.few in omega (arith, a, more))
  ];
}

all_behind : (pages : List (Option Run)) (n p free : ℕ) → Searched pages n p free → is_free pages p ≡ true → (q : ℕ) → p ≤ q + free → q < p + 1 → is_free pages q ≡ true
all_behind pages n p free s h q le lt =
    elim (cases_lt q p) [
      | inl less ↦ s.behind q le less
      | inr more ↦ subst (λ k. is_free pages k ≡ true) (let same : p ≡ q = omega (arith, lt, more) in same) h
    ]

pub searched_found : (pages : List (Option Run)) (n p free : ℕ) → Searched pages n p free → is_free pages p ≡ true → free + 1 ≡ n → p < length pages → first_fit pages n ≡ Some (p + 1 - n)
searched_found pages n p free s h e lt =
    let w = s.within in
    first_fit_is pages n (p + 1 - n)
    (are_free_from pages n (p + 1 - n) (λ q le less. all_behind pages n p free s h q (omega (arith, le, e, w)) (omega (arith, less, e, w))))
    (omega (arith, e, w, lt))
    (λ q less. s.before q (omega (arith, less, e, w)))

pub searched_none : (pages : List (Option Run)) (n free : ℕ) → Searched pages n (length pages) free → first_fit pages n ≡ None
searched_none pages n free s = first_fit_none pages n (λ q le. let a = s.few in s.before q (omega (arith, le, a)))
