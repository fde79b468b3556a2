use Rattle.std.proofs.Common.{◌≡◌, ℕ, ◌+◌, ◌-◌, ◌<◌, ◌≤◌, List, ◌++◌, length, take, drop, replicate, Option, None, ap, ◌∙◌, arith, ◌⊎◌, inl, inr}
use Rattle.std.proofs.lemmas.Bool.{cases_lt}
use Rattle.std.proofs.lemmas.List.{get_or-take, get_or-append_right, get_or-replicate, get_or-drop, get_or_append_left, length-take-le, length-replicate, length-append, length-drop}
use Rattle.km_pages.specs.declared.runs.Run.{Run}
use Rattle.km_pages.specs.Runs.{run_with, with_run}

-- the pages that were written, and the others
pub inside : (pages : List (Option Run)) (p n : ℕ) (run : Option Run) (q : ℕ) → p + n ≤ length pages → p ≤ q → q < p + n → run_with (with_run pages p n run) q ≡ run
inside pages p n run q room le lt =
    get_or-append_right (take p pages) (replicate n run ++ drop (p + n) pages) p q None (length-take-le p pages (omega (arith, room))) le
    ∙ get_or_append_left (replicate n run) (drop (p + n) pages) None (q - p) (omega (arith, length-replicate n run, le, lt))
    ∙ get_or-replicate n (q - p) run None (omega (arith, le, lt))

pub outside : (pages : List (Option Run)) (p n : ℕ) (run : Option Run) (q : ℕ) → p + n ≤ length pages → (q < p) ⊎ (p + n ≤ q) → run_with (with_run pages p n run) q ≡ run_with pages q
outside pages p n run q room (inl less) =
    get_or_append_left (take p pages) (replicate n run ++ drop (p + n) pages) None q (omega (arith, length-take-le p pages (omega (arith, room)), less))
    ∙ get_or-take p pages q None less
outside pages p n run q room (inr more) =
    let at : p + n + (q - p - n) ≡ q = omega (arith, more) in
    get_or-append_right (take p pages) (replicate n run ++ drop (p + n) pages) p q None (length-take-le p pages (omega (arith, room))) (omega (arith, more))
    ∙ get_or-append_right (replicate n run) (drop (p + n) pages) n (q - p) None (length-replicate n run) (omega (arith, more))
    ∙ get_or-drop (p + n) pages (q - p - n) None
    ∙ ap (run_with pages) at

pub length_written : (pages : List (Option Run)) (p n : ℕ) (run : Option Run) → p + n ≤ length pages → length (with_run pages p n run) ≡ length pages
length_written pages p n run room =
    let a = length-append (take p pages) (replicate n run ++ drop (p + n) pages) in
    let b = length-append (replicate n run) (drop (p + n) pages) in
    let c = length-take-le p pages (omega (arith, room)) in
    let d = length-replicate n run in
    let e = length-drop (p + n) pages in
    omega (arith, a, b, c, d, e, room)

-- a page is inside or outside
pub where_is : (p n q : ℕ) → ((p ≤ q) × (q < p + n)) ⊎ ((q < p) ⊎ (p + n ≤ q))
where_is p n q = elim (cases_lt q p) [
  | inl less ↦ inr (inl less)
  | inr more ↦ elim (cases_lt q (p + n)) [ inl lt ↦ inl (more, lt) | inr le ↦ inr (inr le) ]
]
