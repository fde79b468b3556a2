use Rattle.std.proofs.Common.{◌≡◌, ℕ, zero, suc, ◌+◌, ◌*◌, ◌<◌, ◌≤◌, Bool, true, false, ◌||◌, not, is_none, ◌==◌, List, [], ◌∷◌, ◌++◌, length, filter, cond, Option, Some, None, ◌⊎◌, refl, sym, ap, ◌∙◌, subst, arith, inl, inr}
use Rattle.std.specs.List.{list_any, All}
use Rattle.std.proofs.lemmas.Bool.{cases_Bool, cases_lt, both_ways, not-true, not_from_false, or_parts, eqb-true, eq-eqb, false_from_ne_true}
use Rattle.std.proofs.lemmas.List.Elements.{All-push}
use Rattle.std.proofs.lemmas.List.Folds.{list_any-append}
use Rattle.km_model.specs.Memory.{base}
use Rattle.km_model.specs.Placement.{Allocation, Use, SlotTable, SectionRun, StackPage, SlabBlock, LargeRun, PlainRun, BootRun, HeadBlock, AreaRun, page_start, page_of, touches, is_free_page, is_slab_block, without_allocation}
use Rattle.km_model.proofs.Cases.{some_same}
use Rattle.km_model.proofs.Pages.{touch}
use Rattle.km_pages.specs.declared.runs.Use as kinds
use Rattle.km_pages.specs.declared.runs.Use.TheVariants.{Slab}
use Rattle.km_pages.specs.declared.runs.Run.{Run}
use Rattle.km_pages.specs.Uses.{same_use, use_of}
use Rattle.km_pages.specs.Runs.{run_with, is_free, are_free, with_run, AreRuns}
use Rattle.km_pages.specs.Laid.{IsIn, IsLaid, AreLaid, Fills, BeginAt}
use Rattle.km_pages.proofs.FirstFit.{IsFit, are_free_at}
use Rattle.km_pages.proofs.Writes.{inside, outside, where_is}
use Rattle.km_pages.proofs.Touching.{in_run, begins_in, page_between}

-- All, one by one
all_first : {X : Type 0} (P : X → Type 0) (x : X) (xs : List X) → All P (x ∷ xs) → P x
all_first P x xs all = all 0 x (omega arith)

all_rest : {X : Type 0} (P : X → Type 0) (x : X) (xs : List X) → All P (x ∷ xs) → All P xs
all_rest P x xs all k d lt = all (suc k) d (omega (arith, lt))

all_cons : {X : Type 0} (P : X → Type 0) (x : X) (xs : List X) → P x → All P xs → All P (x ∷ xs)
all_cons P x xs p all zero d lt = p
all_cons P x xs p all (suc k) d lt = all k d (omega (arith, lt))

all_none : {X : Type 0} (P : X → Type 0) → All P []
all_none P k d lt = absurd (omega (arith, lt))

pub all_weaker : {X : Type 0} (P Q : X → Type 0) (xs : List X) → ((x : X) → P x → Q x) → All P xs → All Q xs
all_weaker P Q xs f all k d lt = f _ (all k d lt)

-- what is left passes, and has what it had
pub all_left : {X : Type 0} (P Q : X → Type 0) (keep : X → Bool) (xs : List X) → ((x : X) → P x → keep x ≡ true → Q x) → All P xs → All Q (filter keep xs)
all_left P Q keep [] f all = all_none Q
all_left P Q keep (x ∷ xs) f all =
    let rest = all_left P Q keep xs f (all_rest P x xs all) in
    let Goal = λ (b : Bool). keep x ≡ b → All Q (cond b (x ∷ filter keep xs) (filter keep xs)) in
    elim (keep x) as Goal [ true ↦ λ e. all_cons Q x (filter keep xs) (f x (all_first P x xs all) e) rest | false ↦ λ e. rest ] refl

-- a test finds alike where what it finds is left
pub any_left : {X : Type 0} (test keep : X → Bool) (xs : List X) → All (λ x. test x ≡ true → keep x ≡ true) xs → list_any test (filter keep xs) ≡ list_any test xs
any_left test keep [] all = refl
any_left test keep (x ∷ xs) all =
    let rest = any_left test keep xs (all_rest (λ y. test y ≡ true → keep y ≡ true) x xs all) in
    let Goal = λ (b : Bool). keep x ≡ b → list_any test (cond b (x ∷ filter keep xs) (filter keep xs)) ≡ (test x || list_any test xs) in
    elim (keep x) as Goal [
      | true ↦ λ e. ap (λ b. test x || b) rest
      | false ↦ λ e. elim (cases_Bool (test x)) [
        | inl found ↦ absurd (both_ways (keep x) e (all_first (λ y. test y ≡ true → keep y ≡ true) x xs all found))
        | inr not_found ↦ rest ∙ ap (λ b. b || list_any test xs) (sym not_found)
      ]
    ] refl

-- a page of a run isn't free
not_free : (pages : List (Option Run)) (p : ℕ) (run : Run) → run_with pages p ≡ Some run → is_free pages p ≡ true → ⊥
not_free pages p run h free = both_ways (is_free pages p) (ap is_none h) free

pub same_run : (pages : List (Option Run)) (p : ℕ) (r s : Run) → run_with pages p ≡ Some r → run_with pages p ≡ Some s → r ≡ s
same_run pages p r s a b = some_same r s (sym a ∙ b)

-- an allocation and free pages have no byte in common
pub apart_free : (pages : List (Option Run)) (n p : ℕ) (x : Allocation) → 0 < n → are_free pages n p ≡ true → IsLaid pages x → (x.start + x.size ≤ page_start p) ⊎ (page_start p + 4096 * n ≤ x.start)
apart_free pages n p x some free l =
    let i = l.inside in
    let low = i.low in let high = i.high in
    let begin = begins_in l.run x i in
    let held : (q : ℕ) → l.run.first ≤ q → q < l.run.first + l.run.len → p ≤ q → q < p + n → ⊥ = λ q a b c d. not_free pages q l.run (l.has q a b) (are_free_at pages n p q free c d) in
    elim (cases_lt p (l.run.first + l.run.len)) [
      | inr less ↦ inl (omega (arith, less, high))
      | inl more ↦ elim (cases_lt l.run.first (p + n)) [
        | inr beyond ↦ inr (omega (arith, beyond, low))
        | inl within ↦ elim (cases_lt l.run.first p) [
          | inl before ↦ absurd (held p (omega (arith, before)) more (omega arith) (omega (arith, some)))
          | inr behind ↦ absurd (held l.run.first (omega arith) (omega (arith, begin)) behind within)
        ]
      ]
    ]

-- a new allocation in a run that is taken
taken_touches : (b n p q start size : ℕ) → start ≡ b + 4096 * p → 4096 * n < size + 4096 → p ≤ q → q < p + n → (start < b + 4096 * (q + 1)) × (b + 4096 * q < start + size)
taken_touches b n p q start size e long le lt = (omega (arith, e, le), omega (arith, e, long, lt))

-- an allocation stays in a run whose pages stay
moved : (pages new : List (Option Run)) (x : Allocation) (l : IsLaid pages x) → ((q : ℕ) → l.run.first ≤ q → q < l.run.first + l.run.len → run_with new q ≡ run_with pages q) → IsLaid new x
moved pages new x l same = record { run = l.run; inside = l.inside; has = λ q le lt. same q le lt ∙ l.has q le lt }

-- pages that become a run
still_laid : (pages : List (Option Run)) (n p : ℕ) (run : Option Run) (x : Allocation) → IsFit pages n p → IsLaid pages x → IsLaid (with_run pages p n run) x
still_laid pages n p run x fit l =
    moved pages (with_run pages p n run) x l (λ q le lt. elim (where_is p n q) [
      | inl here ↦ absurd (not_free pages q l.run (l.has q le lt) (are_free_at pages n p q fit.free here.0 here.1))
      | inr there ↦ outside pages p n run q fit.room there
    ])

new_inside : (kind : kinds.Use) (p : ℕ) (run : Run) (x : Allocation) → run.kind ≡ kind → run.first ≡ p → 0 < run.len → Fills kind run.len (page_start p) x → IsIn run x
new_inside kind p run x k first some fills =
    let a = fills.start in let b = fills.fits in let c = fills.long in
    record {
      its_use = k ∙ fills.its_use;
      low = omega (arith, a, first);
      high = omega (arith, a, b, first);
      some = omega (arith, c, some);
      whole = λ e. (omega (arith, a, first), fills.whole e);
    }

new_held : (pages : List (Option Run)) (used : List Allocation) (n p : ℕ) (run : Option Run) (x : Allocation) → p + n ≤ length pages → AreLaid pages used
    → x.start ≡ page_start p → 4096 * n < x.size + 4096 → (q : ℕ) → is_free_page (used ++ x ∷ []) q ≡ true → is_free (with_run pages p n run) q ≡ true
new_held pages used n p run x room laid start long q free =
    let parts = or_parts (list_any (touches q) used) (touches q x || false) (sym (list_any-append (touches q) used (x ∷ [])) ∙ not-true (list_any (touches q) (used ++ x ∷ [])) free) in
    elim (where_is p n q) [
      | inl here ↦
          let t = taken_touches base n p q x.start x.size start long here.0 here.1 in
          absurd (both_ways (touches q x) (or_parts (touches q x) false parts.1).0 (touch q x t.0 t.1))
      | inr there ↦ ap is_none (outside pages p n run q room there) ∙ laid.held q (not_from_false (list_any (touches q) used) parts.0)
    ]

pub laid_taken : (pages : List (Option Run)) (used : List Allocation) (kind : kinds.Use) (p : ℕ) (run : Run) (x : Allocation)
    → run.kind ≡ kind → run.first ≡ p → 0 < run.len → IsFit pages run.len p → AreLaid pages used → Fills kind run.len (page_start p) x
    → AreLaid (with_run pages p run.len (Some run)) (used ++ x ∷ [])
laid_taken pages used kind p run x k first some fit laid fills =
    let old = all_weaker (IsLaid pages) (IsLaid (with_run pages p run.len (Some run))) used (λ y l. still_laid pages run.len p (Some run) y fit l) laid.each in
    let this : IsLaid (with_run pages p run.len (Some run)) x = record {
      run = run;
      inside = new_inside kind p run x k first some fills;
      has = λ q le lt. inside pages p run.len (Some run) q fit.room (omega (arith, le, first)) (omega (arith, lt, first));
    } in
    record {
      each = All-push (IsLaid (with_run pages p run.len (Some run))) used x old this;
      held = new_held pages used run.len p (Some run) x fit.room laid fills.start fills.long;
    }

-- an allocation of a run that is given back begins where all do that lie there
begins_there : (pages : List (Option Run)) (used : List Allocation) (p q b : ℕ) (run : Run) (x : Allocation) → AreRuns pages → run_with pages p ≡ Some run → run.first ≡ p
    → (l : IsLaid pages x) → (a : ((base + 4096 * p ≤ x.start) → x.start < base + 4096 * p + 4096 * run.len → x.start ≡ b)) → l.run.first ≤ q → q < l.run.first + l.run.len → p ≤ q → q < p + run.len → x.start ≡ b
begins_there pages used p q b run x runs here first l alone le lt low high =
    let same = same_run pages q l.run run (l.has q le lt) (runs.all p q run here (omega (arith, low, first)) (omega (arith, high, first))) in
    let i = subst (λ r. IsIn r x) same l.inside in
    let lo = i.low in let hi = i.high in let some = i.some in
    alone (omega (arith, lo, first)) (omega (arith, hi, some, first))

-- the pages of a run that is given back
pub laid_given : (pages : List (Option Run)) (used : List Allocation) (p b : ℕ) (run : Run) → AreRuns pages → run_with pages p ≡ Some run → run.first ≡ p
    → AreLaid pages used → BeginAt used run.len (page_start p) b → AreLaid (with_run pages p run.len None) (without_allocation used b)
laid_given pages used p b run runs here first laid begin =
    let room : p + run.len ≤ length pages = (let e = runs.end p run here in omega (arith, e, first)) in
    let Alone = λ (x : Allocation). page_start p ≤ x.start → x.start < page_start p + 4096 * run.len → x.start ≡ b in
    let Both = λ (x : Allocation). IsLaid pages x × Alone x in
    let both : All Both used = λ k d lt. (laid.each k d lt, begin.alone k d lt) in
    record {
      each = all_left Both (IsLaid (with_run pages p run.len None)) (λ (x : Allocation). not (x.start == b)) used
          (λ x l keep. moved pages (with_run pages p run.len None) x l.0 (λ q le lt. elim (where_is p run.len q) [
            | inl inner ↦ absurd (both_ways (x.start == b) (not-true (x.start == b) keep) (eq-eqb x.start b (begins_there pages used p q b run x runs here first l.0 l.1 le lt inner.0 inner.1)))
            | inr there ↦ outside pages p run.len None q room there
          ])) both;
      held = λ q free. elim (where_is p run.len q) [
        | inl inner ↦ ap is_none (inside pages p run.len None q room inner.0 inner.1)
        | inr there ↦ ap is_none (outside pages p run.len None q room there) ∙ laid.held q
            (not_from_false (list_any (touches q) used)
            (sym (any_left (touches q) (λ (x : Allocation). not (x.start == b)) used
            (all_weaker Both (λ x. touches q x ≡ true → not (x.start == b) ≡ true) used (λ x l t. stays q there x l t) both))
            ∙ not-true (list_any (touches q) (without_allocation used b)) free))
      ];
    } where
      stays : (q : ℕ) → ((q < p) ⊎ (p + run.len ≤ q)) → (x : Allocation) → (IsLaid pages x × (page_start p ≤ x.start → x.start < page_start p + 4096 * run.len → x.start ≡ b)) → touches q x ≡ true → not (x.start == b) ≡ true
      stays q there x l t = not_from_false (x.start == b) (false_from_ne_true (x.start == b) (λ e.
          let same = eqb-true x.start b e in
          let lo = begin.low in let hi = begin.high in
          let l0 = l.0.inside in
          let r = begins_in l.0.run x l0 in
          let k = page_between base p run.len x.start (omega (arith, same, lo)) (omega (arith, same, hi)) in
          let one = same_run pages (page_of x.start) l.0.run run (l.0.has (page_of x.start) r.0 r.1) (runs.all p (page_of x.start) run here (omega (arith, k.0, first)) (omega (arith, k.1, first))) in
          let m = in_run q run x (subst (λ s. IsIn s x) one l0) t in
          let m0 = m.0 in let m1 = m.1 in
          elim there [ inl less ↦ omega (arith, less, m0, first) | inr more ↦ omega (arith, more, m1, first) ]))

-- whose pages hold slab blocks
pub slab_use : (x : Allocation) → same_use (use_of x.«use») Slab ≡ is_slab_block x
slab_use x = of_use x.«use» where
  of_use : (u : Use) → same_use (use_of u) Slab ≡ elim u as (λ _. Bool) [ SlabBlock ↦ true | HeadBlock _ ↦ true | _ ↦ false ]
  of_use SlotTable = refl
  of_use (SectionRun n) = refl
  of_use StackPage = refl
  of_use SlabBlock = refl
  of_use LargeRun = refl
  of_use PlainRun = refl
  of_use BootRun = refl
  of_use (HeadBlock s) = refl
  of_use (AreaRun s) = refl

-- a run of no slab has one allocation, that begins with it
pub one_in_run : (pages : List (Option Run)) (used : List Allocation) (p : ℕ) (run : Run) → AreRuns pages → run_with pages p ≡ Some run → run.first ≡ p
    → same_use run.kind Slab ≡ false → AreLaid pages used → BeginAt used run.len (page_start p) (page_start p)
one_in_run pages used p run runs here first kind laid = record {
  low = omega arith;
  high = (let t = runs.to p run here in omega (arith, t, first));
  alone = all_weaker (IsLaid pages) (λ (x : Allocation). page_start p ≤ x.start → x.start < page_start p + 4096 * run.len → x.start ≡ page_start p) used
      (λ x l low high.
      let r = begins_in l.run x l.inside in
      let k = page_between base p run.len x.start low (omega (arith, high)) in
      let same = same_run pages (page_of x.start) l.run run (l.has (page_of x.start) r.0 r.1) (runs.all p (page_of x.start) run here (omega (arith, k.0, first)) (omega (arith, k.1, first))) in
      let i = subst (λ s. IsIn s x) same l.inside in
      (i.whole (sym (slab_use x) ∙ ap (λ u. same_use u Slab) (sym i.its_use) ∙ kind)).0 ∙ ap page_start first) laid.each;
}
