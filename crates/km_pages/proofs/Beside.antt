use Rattle.std.proofs.Common.{◌≡◌, ℕ, Bool, true, false, not, ◌&&◌, ◌==◌, List, [], ◌∷◌, ◌++◌, get_or, filter, cond, suc, Option, Some, None, if◌then◌else◌, refl, sym, ap, ◌∙◌, subst, arith, inl, inr}
use Rattle.std.specs.List.{All, AllPairs}
use Rattle.std.proofs.lemmas.List.Kept.{AllPairs-filter}
use Rattle.std.proofs.lemmas.List.Quantifiers.{all_pairs_push}
use Rattle.km_model.specs.Placement.{Allocation, page_of, page_start, without_allocation}
use Rattle.km_pages.specs.declared.runs.Run.{Run}
use Rattle.km_pages.specs.declared.runs.Use.{Use}
use Rattle.km_pages.specs.Uses.{same_use, use_of}
use Rattle.km_pages.specs.Runs.{length_if, run_at, run_from, run_with}
use Rattle.km_pages.specs.Laid.{AreApart, AreLaid, IsBeside, IsLaid}
use Rattle.km_pages.proofs.Laying.{same_run}
use Rattle.km_pages.proofs.Touching.{begins_in}

pub apart_none : AreApart []
apart_none i j d less lt = absurd (omega (arith, lt))

pub apart_come : (used : List Allocation) (x : Allocation) → AreApart used → All (λ (y : Allocation). IsBeside y x) used → AreApart (used ++ x ∷ [])
apart_come used x apart beside = all_pairs_push IsBeside used x apart beside

pub apart_go : (used : List Allocation) (a : ℕ) → AreApart used → AreApart (without_allocation used a)
apart_go used a apart = AllPairs-filter IsBeside (λ (x : Allocation). not (x.start == a)) used apart

-- two that are apart begin apart
pub begin_apart : (pages : List (Option Run)) (x y : Allocation) → IsLaid pages x → IsLaid pages y → IsBeside x y → x.start ≡ y.start → ⊥
begin_apart pages x y l m beside e =
    let a = l.inside.some in let b = m.inside.some in
    elim beside [ inl low ↦ omega (arith, low, a, e) | inr high ↦ omega (arith, high, b, e) ]

pub starts_apart : (pages : List (Option Run)) (used : List Allocation) → AreLaid pages used → AreApart used → AllPairs (λ (x y : Allocation). x.start ≡ y.start → ⊥) used
starts_apart pages used laid apart i j d less lt =
    begin_apart pages (get_or used i d) (get_or used j d) (laid.each i d (omega (arith, less, lt))) (laid.each j d lt) (apart i j d less lt)

-- the run in which an allocation begins
run_begun : (pages : List (Option Run)) (x : Allocation) (l : IsLaid pages x) → run_with pages (page_of x.start) ≡ Some l.run
run_begun pages x l = let b = begins_in l.run x l.inside in l.has (page_of x.start) b.0 b.1

-- what begins at one address is of one use
pub one_use : (pages : List (Option Run)) (x y : Allocation) → IsLaid pages x → IsLaid pages y → x.start ≡ y.start → use_of x.«use» ≡ use_of y.«use»
one_use pages x y l m e =
    let same : l.run ≡ m.run = same_run pages (page_of y.start) l.run m.run (subst (λ a. run_with pages (page_of a) ≡ Some l.run) e (run_begun pages x l)) (run_begun pages y m) in
    sym l.inside.its_use ∙ ap (λ (r : Run). r.kind) same ∙ m.inside.its_use

-- and of the use of a run that begins there
pub use_there : (pages : List (Option Run)) (kind : Use) (a n : ℕ) (x : Allocation) → IsLaid pages x → run_at pages kind a ≡ Some n → x.start ≡ a → same_use (use_of x.«use») kind ≡ true
use_there pages kind a n x l h e =
    let here : run_with pages (page_of a) ≡ Some l.run = subst (λ b. run_with pages (page_of b) ≡ Some l.run) e (run_begun pages x l) in
    let from : run_from pages kind (page_of a) ≡ Some n = by_start (a == page_start (page_of a)) (run_from pages kind (page_of a)) h in
    ap (λ u. same_use u kind) (sym l.inside.its_use) ∙ by_kind (same_use l.run.kind kind) (l.run.first == page_of a) (ap (length_if kind (page_of a)) (sym here) ∙ from) where
      by_start : (b : Bool) (o : Option ℕ) → (if b then o else None) ≡ Some n → o ≡ Some n
      by_start true o e = e
      by_start false o e = absurd cc

      by_kind : (b c : Bool) → (if b && c then Some l.run.len else None) ≡ Some n → b ≡ true
      by_kind true c e = refl
      by_kind false c e = absurd cc

-- where all pass, none is left out
pub kept_alike : {X : Type 0} (test keep : X → Bool) (xs : List X) → All (λ x. test x ≡ true → keep x ≡ true) xs → filter test (filter keep xs) ≡ filter test xs
kept_alike test keep [] all = refl
kept_alike test keep (x ∷ xs) all =
    let rest = kept_alike test keep xs (λ k d lt. all (suc k) d (omega (arith, lt))) in
    let Goal = λ (b : Bool). test x ≡ b → filter test (filter keep (x ∷ xs)) ≡ cond b (x ∷ filter test xs) (filter test xs) in
    elim (test x) as Goal [
      | true ↦ λ t. rw (all 0 x (omega arith) t) (rw t (ap (λ ys. x ∷ ys) rest))
      | false ↦ λ t. elim (keep x) as (λ (k : Bool). filter test (cond k (x ∷ filter keep xs) (filter keep xs)) ≡ filter test xs) [
        | true ↦ rw t rest
        | false ↦ rest
      ]
    ] refl
