use Rattle.std.proofs.Common.{◌≡◌, ℕ, ◌+◌, ◌<◌, ◌≤◌, true, false, ◌&&◌, is_none, ◌==◌, List, length, Option, Some, None, if◌then◌else◌, refl, sym, ap, ◌∙◌, arith, ◌⊎◌, inl, inr}
use Rattle.std.proofs.lemmas.Bool.{cases_eq, eq-eqb, ne_eqb}
use Rattle.km_pages.specs.declared.runs.Use.{Use}
use Rattle.km_pages.specs.declared.runs.Use.TheVariants.{Plain, Section, Stack, Slab, Large, Vmalloc, Boot}
use Rattle.km_pages.specs.declared.runs.Run.{Run}
use Rattle.km_pages.specs.Uses.{same_use}
use Rattle.km_pages.specs.Runs.{run_with, run_from, length_if, with_run, AreRuns, run_at}
use Rattle.km_pages.proofs.FirstFit.{IsFit, are_free_at}
use Rattle.km_pages.proofs.Touching.{run_at_page}
use Rattle.km_model.specs.Placement.{page_start}
use Rattle.km_model.proofs.Cases.{none_some, some_same}
use Rattle.km_pages.proofs.Writes.{inside, outside, where_is, length_written}

pub same_self : (k : Use) → same_use k k ≡ true
same_self Plain = refl
same_self Section = refl
same_self Stack = refl
same_self Slab = refl
same_self Large = refl
same_self Vmalloc = refl
same_self Boot = refl

pub free_none : {X : Type 0} (o : Option X) → is_none o ≡ true → o ≡ None
free_none None e = refl
free_none (Some x) e = absurd cc

-- the lengths of runs of a use where pages were written
pub run_inside : (pages : List (Option Run)) (p n : ℕ) (run : Option Run) (k : Use) (q : ℕ) → p + n ≤ length pages → p ≤ q → q < p + n → run_from (with_run pages p n run) k q ≡ length_if k q run
run_inside pages p n run k q room le lt = ap (length_if k q) (inside pages p n run q room le lt)

run_outside : (pages : List (Option Run)) (p n : ℕ) (run : Option Run) (k : Use) (q : ℕ) → p + n ≤ length pages → (q < p) ⊎ (p + n ≤ q) → run_from (with_run pages p n run) k q ≡ run_from pages k q
run_outside pages p n run k q room there = ap (length_if k q) (outside pages p n run q room there)

-- the length of one run
pub length_here : (run : Run) (k : Use) (q : ℕ) → run.kind ≡ k → run.first ≡ q → length_if k q (Some run) ≡ Some run.len
length_here run k q e f =
    rw (ap (λ u. same_use u k) e ∙ same_self k) (rw (eq-eqb run.first q f))

length_other : (run : Run) (k : Use) (q : ℕ) → same_use run.kind k ≡ false → length_if k q (Some run) ≡ None
length_other run k q e = rw e

length_later : (run : Run) (k : Use) (q : ℕ) → (run.first ≡ q → ⊥) → length_if k q (Some run) ≡ None
length_later run k q e =
    rw (ne_eqb run.first q e)
    (elim (same_use run.kind k) as (λ b. (if b && false then Some run.len else None) ≡ None) [ true ↦ refl | false ↦ refl ])

-- which is the page, and which isn't
at_page : {X : Type 0} (q p : ℕ) (x y z : Option X) → (q ≡ p → z ≡ x) → ((q ≡ p → ⊥) → z ≡ y) → z ≡ (if q == p then x else y)
at_page q p x y z f g =
    elim (cases_eq q p) [ inl same ↦ rw (eq-eqb q p same) (f same) | inr other ↦ rw (ne_eqb q p other) (g other) ]

-- a run that is taken
pub runs_taken : (pages : List (Option Run)) (p : ℕ) (run : Run) (k : Use) (q : ℕ) → run.kind ≡ k → run.first ≡ p → 0 < run.len → IsFit pages run.len p
    → run_from (with_run pages p run.len (Some run)) k q ≡ (if q == p then Some run.len else run_from pages k q)
runs_taken pages p run k q e first some fit =
    elim (where_is p run.len q) [
      | inl here ↦
          let new = run_inside pages p run.len (Some run) k q fit.room here.0 here.1 in
          let old = ap (length_if k q) (free_none (run_with pages q) (are_free_at pages run.len p q fit.free here.0 here.1)) in
          at_page q p (Some run.len) (run_from pages k q) (run_from (with_run pages p run.len (Some run)) k q)
          (λ s. new ∙ length_here run k q e (first ∙ sym s))
          (λ s. new ∙ length_later run k q (λ t. s (sym t ∙ first)) ∙ sym old)
      | inr there ↦
          at_page q p (Some run.len) (run_from pages k q) (run_from (with_run pages p run.len (Some run)) k q)
          (λ s. absurd (elim there [ inl less ↦ omega (arith, less, s) | inr more ↦ omega (arith, more, s, some) ]))
          (λ s. run_outside pages p run.len (Some run) k q fit.room there)
    ]

pub others_taken : (pages : List (Option Run)) (p : ℕ) (run : Run) (k : Use) (q : ℕ) → same_use run.kind k ≡ false → IsFit pages run.len p
    → run_from (with_run pages p run.len (Some run)) k q ≡ run_from pages k q
others_taken pages p run k q e fit =
    elim (where_is p run.len q) [
      | inl here ↦ run_inside pages p run.len (Some run) k q fit.room here.0 here.1 ∙ length_other run k q e
          ∙ sym (ap (length_if k q) (free_none (run_with pages q) (are_free_at pages run.len p q fit.free here.0 here.1)))
      | inr there ↦ run_outside pages p run.len (Some run) k q fit.room there
    ]

-- a run that is given back
pub runs_given : (pages : List (Option Run)) (p : ℕ) (run : Run) (k : Use) (q : ℕ) → AreRuns pages → run_with pages p ≡ Some run → run.first ≡ p
    → run_from (with_run pages p run.len None) k q ≡ (if q == p then None else run_from pages k q)
runs_given pages p run k q runs here first =
    let room : p + run.len ≤ length pages = (let e = runs.end p run here in omega (arith, e, first)) in
    elim (where_is p run.len q) [
      | inl inner ↦
          let new = run_inside pages p run.len None k q room inner.0 inner.1 in
          let old = ap (length_if k q) (runs.all p q run here (omega (arith, inner, first)) (omega (arith, inner, first))) in
          at_page q p None (run_from pages k q) (run_from (with_run pages p run.len None) k q)
          (λ s. new)
          (λ s. new ∙ sym (length_later run k q (λ t. s (sym t ∙ first))) ∙ sym old)
      | inr there ↦
          at_page q p None (run_from pages k q) (run_from (with_run pages p run.len None) k q)
          (λ s. absurd (let t = runs.to p run here in elim there [ inl less ↦ omega (arith, less, s) | inr more ↦ omega (arith, more, s, t, first) ]))
          (λ s. run_outside pages p run.len None k q room there)
    ]

pub others_given : (pages : List (Option Run)) (p : ℕ) (run : Run) (k : Use) (q : ℕ) → AreRuns pages → run_with pages p ≡ Some run → run.first ≡ p → same_use run.kind k ≡ false
    → run_from (with_run pages p run.len None) k q ≡ run_from pages k q
others_given pages p run k q runs here first e =
    let room : p + run.len ≤ length pages = (let f = runs.end p run here in omega (arith, f, first)) in
    elim (where_is p run.len q) [
      | inl inner ↦ run_inside pages p run.len None k q room inner.0 inner.1 ∙ sym (length_other run k q e)
          ∙ sym (ap (length_if k q) (runs.all p q run here (omega (arith, inner, first)) (omega (arith, inner, first))))
      | inr there ↦ run_outside pages p run.len None k q room there
    ]

-- the runs stay runs
known : (pages : List (Option Run)) (p n : ℕ) (run : Option Run) (q : ℕ) (s : Run) → p + n ≤ length pages → run_with (with_run pages p n run) q ≡ Some s
    → ((p ≤ q) × (q < p + n) × (run ≡ Some s)) ⊎ (((q < p) ⊎ (p + n ≤ q)) × (run_with pages q ≡ Some s))
known pages p n run q s room h =
    elim (where_is p n q) [
      | inl here ↦ inl (here.0, here.1, sym (inside pages p n run q room here.0 here.1) ∙ h)
      | inr there ↦ inr (there, sym (outside pages p n run q room there) ∙ h)
    ]

-- pages that are all one run's or free, and the others
pub record Written (pages : List (Option Run)) (p n : ℕ) (run : Option Run) : Type 0 where
  pub room : p + n ≤ length pages
  pub one : (s : Run) → run ≡ Some s → (s.first ≡ p) × (s.len ≡ n)
  pub apart : (q r : ℕ) (s : Run) → ((q < p) ⊎ (p + n ≤ q)) → run_with pages q ≡ Some s → s.first ≤ r → r < s.first + s.len → (r < p) ⊎ (p + n ≤ r)

pub runs_written : (pages : List (Option Run)) (p n : ℕ) (run : Option Run) → AreRuns pages → Written pages p n run → AreRuns (with_run pages p n run)
runs_written pages p n run runs w = record {
  short = (let a = length_written pages p n run w.room in let b = runs.short in omega (arith, a, b));
  from = λ q s h. elim (known pages p n run q s w.room h) [
    | inl here ↦ let k = w.one s here.2 in omega (arith, k, here)
    | inr there ↦ runs.from q s there.1
  ];
  to = λ q s h. elim (known pages p n run q s w.room h) [
    | inl here ↦ let k = w.one s here.2 in omega (arith, k, here)
    | inr there ↦ runs.to q s there.1
  ];
  end = λ q s h. let a = length_written pages p n run w.room in elim (known pages p n run q s w.room h) [
    | inl here ↦ let k = w.one s here.2 in let b = w.room in omega (arith, k, here, a, b)
    | inr there ↦ let b = runs.end q s there.1 in omega (arith, a, b)
  ];
  all = λ q r s h le lt. elim (known pages p n run q s w.room h) [
    | inl here ↦ let k = w.one s here.2 in inside pages p n run r w.room (omega (arith, k, le)) (omega (arith, k, lt)) ∙ here.2
    | inr there ↦ outside pages p n run r w.room (w.apart q r s there.0 there.1 le lt) ∙ runs.all q r s there.1 le lt
  ];
}

pub taken_written : (pages : List (Option Run)) (p : ℕ) (run : Run) → AreRuns pages → run.first ≡ p → IsFit pages run.len p → Written pages p run.len (Some run)
taken_written pages p run runs first fit = record {
  room = fit.room;
  one = λ s e. let same = some_same run s e in (ap (λ r. r.first) (sym same) ∙ first, ap (λ r. r.len) (sym same));
  apart = λ q r s there h le lt. elim (where_is p run.len r) [
    | inl here ↦ absurd (none_some s (sym (free_none (run_with pages r) (are_free_at pages run.len p r fit.free here.0 here.1)) ∙ runs.all q r s h le lt))
    | inr other ↦ other
  ];
}

pub given_written : (pages : List (Option Run)) (p : ℕ) (run : Run) → AreRuns pages → run_with pages p ≡ Some run → run.first ≡ p → Written pages p run.len None
given_written pages p run runs here first = record {
  room = (let e = runs.end p run here in omega (arith, e, first));
  one = λ s e. absurd (none_some s e);
  apart = λ q r s there h le lt. elim (where_is p run.len r) [
    | inl inner ↦
        let same : s ≡ run = some_same s run (sym (runs.all q r s h le lt) ∙ runs.all p r run here (omega (arith, inner, first)) (omega (arith, inner, first))) in
        let a = runs.from q s h in let b = runs.to q s h in
        let f : s.first ≡ p = ap (λ x. x.first) same ∙ first in
        let g : s.len ≡ run.len = ap (λ x. x.len) same in
        absurd (elim there [ inl less ↦ omega (arith, less, a, f) | inr more ↦ omega (arith, more, b, f, g) ])
    | inr other ↦ other
  ];
}

-- nothing began at a page that was free
pub fresh : (pages : List (Option Run)) (n p a : ℕ) (kind : Use) → 0 < n → IsFit pages n p → a ≡ page_start p → run_at pages kind a ≡ None
fresh pages n p a kind some fit e =
    run_at_page pages kind a p e ∙ ap (length_if kind p) (free_none (run_with pages p) (are_free_at pages n p p fit.free (omega arith) (omega (arith, some))))
