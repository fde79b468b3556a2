use Rattle.std.proofs.Common.{◌≡◌, ℕ, zero, suc, ◌+◌, ◌-◌, ◌*◌, ◌/◌, ◌<◌, ◌≤◌, Bool, true, false, ◌&&◌, ◌==◌, is_none, nat_le, nat_lt, List, [], ◌∷◌, length, Option, Some, None, option_map, if◌then◌else◌, refl, sym, ap, ◌∙◌, subst, arith, inl, inr, le-ltb}
use Rattle.std.specs.List.{list_any, All}
use Rattle.std.proofs.lemmas.Bool.{cases_lt, cases_Bool, and_from, and_right, both_ways, not-false, not_from_false, or_from, eq-eqb, eqb-true}
use Rattle.std.proofs.lemmas.List.{get_or_past}
use Rattle.std.proofs.lemmas.List.Folds.{Any-from_list_any}
use Rattle.km_model.specs.Memory.{base}
use Rattle.km_model.specs.Placement.{Allocation, page_start, page_of, touches, is_free_page, are_free_pages, page_behind, lowest_run, run_place}
use Rattle.km_model.proofs.Pages.{behind_end, touched}
use Rattle.km_pages.specs.declared.runs.Run.{Run}
use Rattle.km_pages.specs.declared.runs.Use.{Use}
use Rattle.km_pages.specs.Runs.{run_with, run_at, length_if, is_free, are_free, lowest_free, place}
use Rattle.km_pages.specs.Laid.{IsIn, IsLaid, AreLaid}
use Rattle.km_pages.proofs.FirstFit.{least_is, least_before, lowest_is_free}

-- the page of a byte of a run is one of the run's
pub page_between : (b first len a : ℕ) → b + 4096 * first ≤ a → a < b + 4096 * (first + len) → (first ≤ (a - b) / 4096) × ((a - b) / 4096 < first + len)
page_between b first len a low high = (omega (arith, low), omega (arith, low, high))

pub page_of_start : (b p : ℕ) → (b + 4096 * p - b) / 4096 ≡ p
page_of_start b p = omega arith

pages_touched : (b first len p start size : ℕ) → b + 4096 * first ≤ start → start + size ≤ b + 4096 * (first + len) → start < b + 4096 * (p + 1) → b + 4096 * p < start + size → (first ≤ p) × (p < first + len)
pages_touched b first len p start size low high x y = (omega (arith, low, x), omega (arith, high, y))

-- the pages that an allocation touches are its run's
pub in_run : (p : ℕ) (run : Run) (x : Allocation) → IsIn run x → touches p x ≡ true → (run.first ≤ p) × (p < run.first + run.len)
in_run p run x i h =
    let t = touched p x h in
    pages_touched base run.first run.len p x.start x.size i.low i.high t.0 t.1

-- the page in which an allocation begins is its run's
pub begins_in : (run : Run) (x : Allocation) → IsIn run x → (run.first ≤ page_of x.start) × (page_of x.start < run.first + run.len)
begins_in run x i =
    let a = i.high in let b = i.some in
    page_between base run.first run.len x.start i.low (omega (arith, a, b))

-- one of these that passes
pub passing : {X : Type 0} (P : X → Type 0) (test : X → Bool) (xs : List X) → All P xs → list_any test xs ≡ true → (x : X) × P x × (test x ≡ true)
passing P test xs all h = let k = Any-from_list_any test xs h in (k.1, subst P k.3 (all k.0 k.1 k.2), k.4)

-- a page is free of allocations where it is in no run
pub free_same : (pages : List (Option Run)) (used : List Allocation) (p : ℕ) → AreLaid pages used → is_free_page used p ≡ is_free pages p
free_same pages used p laid =
    elim (cases_Bool (is_free_page used p)) [
      | inl free ↦ free ∙ sym (laid.held p free)
      | inr held ↦
          let x = passing (IsLaid pages) (touches p) used laid.each (not-false (list_any (touches p) used) held) in
          let k = in_run p x.1.run x.0 x.1.inside x.2 in
          held ∙ sym (ap is_none (x.1.has p k.0 k.1))
    ]

are_free_same : (pages : List (Option Run)) (used : List Allocation) (n p : ℕ) → AreLaid pages used → are_free_pages used n p ≡ are_free pages n p
are_free_same pages used zero p laid = refl
are_free_same pages used (suc n) p laid =
    let here = free_same pages used p laid in
    let rest = are_free_same pages used n (p + 1) laid in
    ap (λ b. b && are_free_pages used n (p + 1)) here ∙ ap (λ b. is_free pages p && b) rest

-- behind all allocations the pages are free
behind : (used : List Allocation) (p : ℕ) → page_behind used ≤ p → list_any (touches p) used ≡ false
behind [] p le = refl
behind (x ∷ used) p le =
    or_from (touches p x) (list_any (touches p) used)
    (and_right (nat_lt x.start (page_start (p + 1))) (nat_lt (page_start p) (x.start + x.size))
    (le-ltb (page_start p) (x.start + x.size) (behind_end (x.start + x.size) base p (omega (arith, le)))))
    (behind used p (omega (arith, le)))

all_behind : (used : List Allocation) (n p : ℕ) → page_behind used ≤ p → are_free_pages used n p ≡ true
all_behind used zero p le = refl
all_behind used (suc n) p le =
    and_from (is_free_page used p) (are_free_pages used n (p + 1)) (not_from_false (list_any (touches p) used) (behind used p le)) (all_behind used n (p + 1) (omega (arith, le)))

pub lowest_same : (pages : List (Option Run)) (used : List Allocation) (n : ℕ) → AreLaid pages used → lowest_run used n ≡ lowest_free pages n
lowest_same pages used n laid =
    let m = lowest_free pages n in
    least_is (are_free_pages used n) (page_behind used) 0 (lowest_free pages n)
    (λ q le lt. are_free_same pages used n q laid ∙ least_before (are_free pages n) (length pages) 0 q (omega arith) lt)
    (are_free_same pages used n (lowest_free pages n) laid ∙ lowest_is_free pages n)
    (omega arith)
    (elim (cases_lt (page_behind used) (lowest_free pages n)) [
      | inl less ↦ absurd (both_ways (are_free_pages used n (page_behind used))
          (are_free_same pages used n (page_behind used) laid ∙ least_before (are_free pages n) (length pages) 0 (page_behind used) (omega arith) less)
          (all_behind used n (page_behind used) (omega arith)))
      | inr more ↦ omega (arith, more)
    ])

-- so a run is placed alike
pub place_same : (pages : List (Option Run)) (used : List Allocation) (n : ℕ) → AreLaid pages used → place pages n ≡ run_place (512 * length pages) used n
place_same pages used n laid =
    let words : 512 * length pages / 512 ≡ length pages = omega arith in
    let low = lowest_same pages used n laid in
    subst (λ k. place pages n ≡ (if nat_le (k + n) (512 * length pages / 512) then Some (page_start k) else None)) (sym low)
    (subst (λ w. place pages n ≡ (if nat_le (lowest_free pages n + n) w then Some (page_start (lowest_free pages n)) else None)) (sym words)
    (elim (nat_le (lowest_free pages n + n) (length pages)) as (λ b. option_map page_start (if b then Some (lowest_free pages n) else None) ≡ (if b then Some (page_start (lowest_free pages n)) else None)) [ true ↦ refl | false ↦ refl ]))

-- the run at an address that begins a page, and at another
pub run_at_page : (pages : List (Option Run)) (kind : Use) (a p : ℕ) → a ≡ page_start p → run_at pages kind a ≡ length_if kind p (run_with pages p)
run_at_page pages kind a p e =
    subst (λ b. run_at pages kind b ≡ length_if kind p (run_with pages p)) (sym e)
    (rw (page_of_start base p) (rw (eq-eqb (page_start p) (page_start p) refl) refl))

pub run_at_none : (pages : List (Option Run)) (kind : Use) (a : ℕ) → ((p : ℕ) → p < length pages → a ≡ page_start p → ⊥) → run_at pages kind a ≡ None
run_at_none pages kind a nowhere =
    let Goal = λ (q : Bool). (a == page_start (page_of a)) ≡ q → (if q then length_if kind (page_of a) (run_with pages (page_of a)) else None) ≡ None in
    elim (a == page_start (page_of a)) as Goal [
      | true ↦ λ e. elim (cases_lt (page_of a) (length pages)) [
        | inl less ↦ absurd (nowhere (page_of a) less (eqb-true a (page_start (page_of a)) e))
        | inr more ↦ ap (length_if kind (page_of a)) (get_or_past pages (page_of a) None more)
      ]
      | false ↦ λ e. refl
    ] refl
