use Rattle.std.proofs.Common.{◌≡◌, ℕ, ◌+◌, ◌<◌, ◌≤◌, List, length, Option, Some, None, refl, sym, ap, subst, ◌∙◌, arith, inl, inr}
use Rattle.std.proofs.lemmas.List.{same_lists, get_or_default}
use Rattle.km_pages.specs.declared.runs.Run.{Run}
use Rattle.km_pages.specs.declared.runs.Use.{Use}
use Rattle.km_pages.specs.Runs.{IsTaken, run_at, run_with, with_run}
use Rattle.km_model.specs.Placement.{page_of}
use Rattle.km_pages.proofs.Changes.{free_none, length_here, run_inside}
use Rattle.km_pages.proofs.FirstFit.{are_free_at}
use Rattle.km_pages.proofs.Touching.{run_at_page}
use Rattle.km_pages.proofs.Writes.{inside, outside, where_is, length_written}

-- the length of what is there
pub some_length : (m n : ℕ) → Some m ≡ Some n → m ≡ n
some_length m n e = cc

pub no_length : (n : ℕ) → (let o : Option ℕ = None in o) ≡ Some n → ⊥
no_length n e = cc

-- a run that was taken is there
pub run_there : (pages new : List (Option Run)) (kind : Use) (a n : ℕ) → IsTaken pages new kind a n → run_at new kind a ≡ Some n
run_there pages new kind a n t =
    let run : Run = record { kind = kind; first = page_of a; len = n } in let some = t.some in
    ap (λ m. run_at m kind a) t.new_is
    ∙ run_at_page (with_run pages (page_of a) n (Some run)) kind a (page_of a) t.start
    ∙ run_inside pages (page_of a) n (Some run) kind (page_of a) t.room (omega arith) (omega (arith, some))
    ∙ length_here run kind (page_of a) refl refl

-- given back, it leaves the pages as they were
pub untaken : (pages new : List (Option Run)) (kind : Use) (a n : ℕ) → IsTaken pages new kind a n → with_run new (page_of a) n None ≡ pages
untaken pages new kind a n t =
    let p = page_of a in
    let run : Option Run = Some (record { kind = kind; first = page_of a; len = n }) in
    let long = length_written pages p n run t.room in
    let room = t.room in
    let back = with_run (with_run pages p n run) p n None in
    let again : p + n ≤ length (with_run pages p n run) = omega (arith, room, long) in
    ap (λ m. with_run m p n None) t.new_is
    ∙ same_lists back pages (length_written (with_run pages p n run) p n None again ∙ long) (λ q d lt.
    let short : q < length pages = subst (λ k. q < k) (length_written (with_run pages p n run) p n None again ∙ long) lt in
    get_or_default back q d None lt
    ∙ elim (where_is p n q) as (λ _. run_with back q ≡ run_with pages q) [
      | inl here ↦ inside (with_run pages p n run) p n None q again here.0 here.1 ∙ sym (free_none (run_with pages q) (are_free_at pages n p q t.free here.0 here.1))
      | inr there ↦ outside (with_run pages p n run) p n None q again there ∙ outside pages p n run q room there
    ]
    ∙ sym (get_or_default pages q d None short))
