use Rattle.std.proofs.Common.{◌≡◌, ℕ, ◌<◌, Bool, true, false, not, ◌==◌, List, [], ◌∷◌, ◌++◌, length, map, get_or, Option, Some, None, if◌then◌else◌, bytes_eq, slice_set, refl, sym, ap, ◌∙◌, subst, arith, inl, inr}
use Rattle.std.specs.List.{position}
use Rattle.std.proofs.lemmas.Bool.{cases_order, eqb-true, eq-eqb, ne_eqb, both_ways, not-true}
use Rattle.std.proofs.lemmas.List.{get_or-map, get_or_default, length-map}
use Rattle.std.proofs.lemmas.List.Elements.{All-push}
use Rattle.std.proofs.lemmas.List.Kept.{AllPairs-filter}
use Rattle.std.proofs.lemmas.List.Quantifiers.{all_pairs_push}
use Rattle.km_base.specs.declared.acts.Reg.{Reg}
use Rattle.km_model.specs.Placement.{page_start, page_of}
use Rattle.km_model.specs.Tasks.{Task, place_of, with_register, without_task}
use Rattle.km_pages.specs.declared.runs.Run.{Run}
use Rattle.km_pages.specs.declared.runs.Use.{Use}
use Rattle.km_pages.specs.declared.runs.Use.TheVariants.{Stack}
use Rattle.km_pages.specs.Runs.{run_at, run_from}
use Rattle.km_pages.proofs.Laying.{all_left}
use Rattle.km_tasks.specs.Roll.{Fits}
use Rattle.km_tasks.specs.declared.tasks.Live.{Live}
use Rattle.km_tasks.specs.Lives.{task}
use Rattle.km_tasks.proofs.Names.{IsAt, place_is}

-- a run at an address begins a page
at_start : (pages : List (Option Run)) (kind : Use) (a n : ℕ) → run_at pages kind a ≡ Some n → a ≡ page_start (page_of a)
at_start pages kind a n h =
    let Goal = λ (q : Bool). (a == page_start (page_of a)) ≡ q → (if q then run_from pages kind (page_of a) else None) ≡ Some n → a ≡ page_start (page_of a) in
    elim (a == page_start (page_of a)) as Goal [ true ↦ λ e s. eqb-true a (page_start (page_of a)) e | false ↦ λ e s. absurd cc ] refl h

begun : (pages : List (Option Run)) (kind : Use) (a : ℕ) → a ≡ page_start (page_of a) → run_at pages kind a ≡ run_from pages kind (page_of a)
begun pages kind a e = rw (eq-eqb a (page_start (page_of a)) e) refl

-- a stack stays where a page is taken
stays_taken : (pages new : List (Option Run)) (a b : ℕ) → run_at pages Stack b ≡ Some 1
    → ((p : ℕ) → run_from new Stack p ≡ (if p == page_of a then Some 1 else run_from pages Stack p)) → run_at new Stack b ≡ Some 1
stays_taken pages new a b h runs =
    let e = at_start pages Stack b 1 h in
    let old = sym (begun pages Stack b e) ∙ h in
    begun new Stack b e ∙ runs (page_of b)
    ∙ elim (page_of b == page_of a) as (λ q. (if q then Some 1 else run_from pages Stack (page_of b)) ≡ Some 1) [ true ↦ refl | false ↦ old ]

-- and where another stack is given back
stays_given : (pages new : List (Option Run)) (a b : ℕ) → run_at pages Stack a ≡ Some 1 → run_at pages Stack b ≡ Some 1 → (b ≡ a → ⊥)
    → ((p : ℕ) → run_from new Stack p ≡ (if p == page_of a then None else run_from pages Stack p)) → run_at new Stack b ≡ Some 1
stays_given pages new a b g h differ runs =
    let e = at_start pages Stack b 1 h in
    let f = at_start pages Stack a 1 g in
    begun new Stack b e ∙ runs (page_of b)
    ∙ rw (ne_eqb (page_of b) (page_of a) (λ s. differ (e ∙ ap page_start s ∙ sym f))) (sym (begun pages Stack b e) ∙ h)

pub fits_started : (tasks : List Task) (t : Task) (pages new : List (Option Run)) → Fits tasks pages → ((any : Use) → run_at pages any t.stack ≡ None) → t.stack ≡ page_start (page_of t.stack)
    → ((p : ℕ) → run_from new Stack p ≡ (if p == page_of t.stack then Some 1 else run_from pages Stack p)) → Fits (tasks ++ t ∷ []) new
fits_started tasks t pages new fits fresh start runs = record {
  stacks = All-push (λ (u : Task). run_at new Stack u.stack ≡ Some 1) tasks t
      (λ k d lt. stays_taken pages new t.stack (get_or tasks k d).stack (fits.stacks k d lt) runs)
      (begun new Stack t.stack start ∙ runs (page_of t.stack) ∙ rw (eq-eqb (page_of t.stack) (page_of t.stack) refl) refl);
  apart = all_pairs_push (λ (u v : Task). u.stack ≡ v.stack → ⊥) tasks t fits.apart
      (λ k d lt e. some_none 1 (sym (fits.stacks k d lt) ∙ ap (run_at pages Stack) e ∙ fresh Stack));
} where
  some_none : (n : ℕ) → Some n ≡ None → ⊥
  some_none n e = cc

pub fits_gone : (tasks : List Task) (name : List ℕ) (i : ℕ) (t : Task) (pages new : List (Option Run)) → IsAt tasks name i → t ≡ get_or tasks i t → Fits tasks pages
    → ((p : ℕ) → run_from new Stack p ≡ (if p == page_of t.stack then None else run_from pages Stack p)) → Fits (without_task tasks name) new
fits_gone tasks name i t pages new at is fits runs =
    let this : run_at pages Stack t.stack ≡ Some 1 = subst (λ (u : Task). run_at pages Stack u.stack ≡ Some 1) (sym is) (fits.stacks i t at.within) in
    record {
      stacks = all_left (λ (u : Task). not (bytes_eq u.name name) ≡ true → run_at new Stack u.stack ≡ Some 1) (λ (u : Task). run_at new Stack u.stack ≡ Some 1) (λ (u : Task). not (bytes_eq u.name name)) tasks
          (λ u f keep. f keep)
          (λ k d lt keep. stays_given pages new t.stack (get_or tasks k d).stack this (fits.stacks k d lt)
          (λ e. elim (cases_order k i) [
            | inl same ↦ both_ways (bytes_eq (get_or tasks k d).name name) (not-true (bytes_eq (get_or tasks k d).name name) keep) (subst (λ j. bytes_eq (get_or tasks j d).name name ≡ true) (sym same) (at.here d))
            | inr (inl less) ↦ fits.apart k i d less at.within (e ∙ ap (λ (u : Task). u.stack) (is ∙ get_or_default tasks i t d at.within))
            | inr (inr more) ↦ fits.apart i k d more lt (sym (e ∙ ap (λ (u : Task). u.stack) (is ∙ get_or_default tasks i t d at.within)))
          ]) runs);
      apart = AllPairs-filter (λ (u v : Task). u.stack ≡ v.stack → ⊥) (λ (u : Task). not (bytes_eq u.name name)) tasks fits.apart;
    }

-- a register has no part in it
pub fits_set : (tasks : List Task) (name : List ℕ) (reg : Reg) (value : ℕ) (pages : List (Option Run)) → Fits tasks pages → Fits (with_register tasks name reg value) pages
fits_set tasks name reg value pages fits =
    let l = length-map tasks (λ (t : Task). if bytes_eq t.name name then record t { registers = slice_set t.registers (place_of reg) value } else t) in
    record {
      stacks = λ k d lt. subst (λ a. run_at pages Stack a ≡ Some 1) (sym (same k d (omega (arith, lt, l)))) (fits.stacks k d (omega (arith, lt, l)));
      apart = λ i j d less lt e. fits.apart i j d less (omega (arith, lt, l)) (sym (same i d (omega (arith, less, lt, l))) ∙ e ∙ same j d (omega (arith, lt, l)));
    } where
      stack_of : (t : Task) → (if bytes_eq t.name name then record t { registers = slice_set t.registers (place_of reg) value } else t).stack ≡ t.stack
      stack_of t = elim (bytes_eq t.name name) as (λ b. (if b then record t { registers = slice_set t.registers (place_of reg) value } else t).stack ≡ t.stack) [ true ↦ refl | false ↦ refl ]

      same : (k : ℕ) (d : Task) → k < length tasks → (get_or (with_register tasks name reg value) k d).stack ≡ (get_or tasks k d).stack
      same k d lt =
          ap (λ (t : Task). t.stack) (get_or-map (λ (t : Task). if bytes_eq t.name name then record t { registers = slice_set t.registers (place_of reg) value } else t) tasks k d d lt)
          ∙ stack_of (get_or tasks k d)

-- the stack of a task that was found
pub stack_run : (lives : List Live) (i : ℕ) (live : Live) (pages : List (Option Run)) (name : List ℕ) → position (λ (l : Live). bytes_eq l.name name) lives ≡ Some i → live ≡ get_or lives i live
    → Fits (map task lives) pages → run_at pages Stack live.stack.0 ≡ Some 1
stack_run lives i live pages name h is fits =
    let lt = place_is (λ (l : Live). bytes_eq l.name name) lives i h in
    subst (λ (t : Task). run_at pages Stack t.stack ≡ Some 1) (get_or-map task lives i live (task live) lt ∙ ap task (sym is))
    (fits.stacks i (task live) (let l = length-map lives task in omega (arith, lt, l)))

pub no_page : (pages : List (Option Run)) (a : ℕ) → run_at pages Stack a ≡ Some 1 → run_at pages Stack a ≡ None → ⊥
no_page pages a some none = let e : Some 1 ≡ None = sym some ∙ none in cc

pub one_page : (pages : List (Option Run)) (a n : ℕ) → run_at pages Stack a ≡ Some 1 → run_at pages Stack a ≡ Some n → n ≡ 1
one_page pages a n some other = let e : Some n ≡ Some 1 = sym other ∙ some in cc

-- what others do
pub fits_beside : (tasks : List Task) (pages new : List (Option Run)) → Fits tasks pages → ((p : ℕ) → run_from new Stack p ≡ run_from pages Stack p) → Fits tasks new
fits_beside tasks pages new fits runs = record {
  stacks = λ k d lt. let a = (get_or tasks k d).stack in
      ap (λ o. if (get_or tasks k d).stack == page_start (page_of (get_or tasks k d).stack) then o else None) (runs (page_of a)) ∙ fits.stacks k d lt;
  apart = fits.apart;
}
