use Rattle.std.proofs.Common.{◌≡◌, ℕ, suc, ◌+◌, ◌-◌, ◌*◌, ◌/◌, ◌<◌, ◌≤◌, Bool, true, false, ◌==◌, is_none, nat_le, nat_lt, List, [], ◌∷◌, ◌⊎◌, Option, Some, None, option_map, refl, sym, ap, ◌∙◌, subst, arith, inl, inr, leb-true, ltb-true, lt-ltb}
use Rattle.std.specs.List.{list_any, All}
use Rattle.std.proofs.lemmas.Bool.{not-false, and_parts, and_from, or_cases, or_left, or_right, eqb-true, eq-eqb, le-leb, false_from_ne_true}
use Rattle.km_model.specs.Memory.{base}
use Rattle.km_model.specs.Blocks.{is_within}
use Rattle.km_model.specs.Placement.{Allocation, Use, SlotTable, SectionRun, StackPage, SlabBlock, LargeRun, PlainRun, BootRun, HeadBlock, AreaRun, page_start, page_of, touches}
use Rattle.km_model.specs.Answers.{is_kmalloc_at, is_plain_at, is_boot_with}
use Rattle.km_pages.specs.declared.runs.Use.TheVariants.{Plain, Slab, Large, Boot}
use Rattle.km_pages.specs.declared.runs.Run.{Run}
use Rattle.km_pages.specs.Uses.{use_of}
use Rattle.km_pages.specs.Runs.{run_with, run_at, AreRuns}
use Rattle.km_pages.specs.Laid.{IsIn, IsLaid, AreLaid}
use Rattle.km_pages.proofs.Laying.{same_run}
use Rattle.km_pages.proofs.Touching.{in_run, passing, free_same, page_between, page_of_start}

-- what passes one test passes another
any_weaker : {X : Type 0} (t u : X → Bool) (xs : List X) → All (λ x. t x ≡ true → u x ≡ true) xs → list_any t xs ≡ true → list_any u xs ≡ true
any_weaker t u [] all h = h
any_weaker t u (x ∷ xs) all h =
    elim (or_cases (t x) (list_any t xs) h) [
      | inl here ↦ or_left (u x) (list_any u xs) (all 0 x (omega arith) here)
      | inr there ↦ or_right (u x) (list_any u xs) (any_weaker t u xs (λ k d lt. all (suc k) d (omega (arith, lt))) there)
    ]

use_plain : (u : Use) → use_of u ≡ Plain → u ≡ PlainRun
use_plain SlotTable e = absurd cc
use_plain (SectionRun n) e = absurd cc
use_plain StackPage e = absurd cc
use_plain SlabBlock e = absurd cc
use_plain LargeRun e = absurd cc
use_plain PlainRun e = refl
use_plain BootRun e = absurd cc
use_plain (HeadBlock s) e = absurd cc
use_plain (AreaRun s) e = absurd cc

use_boot : (u : Use) → use_of u ≡ Boot → u ≡ BootRun
use_boot SlotTable e = absurd cc
use_boot (SectionRun n) e = absurd cc
use_boot StackPage e = absurd cc
use_boot SlabBlock e = absurd cc
use_boot LargeRun e = absurd cc
use_boot PlainRun e = absurd cc
use_boot BootRun e = refl
use_boot (HeadBlock s) e = absurd cc
use_boot (AreaRun s) e = absurd cc

plain_is : (u : Use) (q : Bool) → elim u as (λ _. Bool) [ PlainRun ↦ q | _ ↦ false ] ≡ true → (u ≡ PlainRun) × (q ≡ true)
plain_is SlotTable q e = absurd cc
plain_is (SectionRun n) q e = absurd cc
plain_is StackPage q e = absurd cc
plain_is SlabBlock q e = absurd cc
plain_is LargeRun q e = absurd cc
plain_is PlainRun q e = (refl, e)
plain_is BootRun q e = absurd cc
plain_is (HeadBlock s) q e = absurd cc
plain_is (AreaRun s) q e = absurd cc

boot_is : (u : Use) (q : Bool) → elim u as (λ _. Bool) [ BootRun ↦ q | _ ↦ false ] ≡ true → (u ≡ BootRun) × (q ≡ true)
boot_is SlotTable q e = absurd cc
boot_is (SectionRun n) q e = absurd cc
boot_is StackPage q e = absurd cc
boot_is SlabBlock q e = absurd cc
boot_is LargeRun q e = absurd cc
boot_is PlainRun q e = absurd cc
boot_is BootRun q e = (refl, e)
boot_is (HeadBlock s) q e = absurd cc
boot_is (AreaRun s) q e = absurd cc

kmalloc_is : (u : Use) (q : Bool) → elim u as (λ _. Bool) [ SlabBlock ↦ q | LargeRun ↦ q | _ ↦ false ] ≡ true → (q ≡ true) × ((use_of u ≡ Slab) ⊎ (use_of u ≡ Large))
kmalloc_is SlotTable q e = absurd cc
kmalloc_is (SectionRun n) q e = absurd cc
kmalloc_is StackPage q e = absurd cc
kmalloc_is SlabBlock q e = (e, inl refl)
kmalloc_is LargeRun q e = (e, inr refl)
kmalloc_is PlainRun q e = absurd cc
kmalloc_is BootRun q e = absurd cc
kmalloc_is (HeadBlock s) q e = absurd cc
kmalloc_is (AreaRun s) q e = absurd cc

-- a block of kmalloc that begins at an address
pub kmalloc_there : (a : ℕ) (x : Allocation) → is_kmalloc_at a x ≡ true → (x.start ≡ a) × ((use_of x.«use» ≡ Slab) ⊎ (use_of x.«use» ≡ Large))
kmalloc_there a x h = let k = kmalloc_is x.«use» (x.start == a) h in (eqb-true x.start a k.0, k.1)

-- what touches a page of a run lies in that run
owner : (pages : List (Option Run)) (p : ℕ) (run : Run) (x : Allocation) → run_with pages p ≡ Some run → IsLaid pages x → touches p x ≡ true → IsIn run x
owner pages p run x here l t =
    let k = in_run p l.run x l.inside t in
    subst (λ r. IsIn r x) (same_run pages p l.run run (l.has p k.0 k.1) here) l.inside

-- so a run has what its pages are for
some_owner : (pages : List (Option Run)) (used : List Allocation) (p : ℕ) (run : Run) (test : Allocation → Bool) → AreLaid pages used → run_with pages p ≡ Some run
    → ((x : Allocation) → IsIn run x → test x ≡ true) → list_any test used ≡ true
some_owner pages used p run test laid here f =
    any_weaker (touches p) test used (λ k d lt t. f _ (owner pages p run _ here (laid.each k d lt) t))
    (not-false (list_any (touches p) used) (free_same pages used p laid ∙ ap is_none here))

whole_plain : (run : Run) (x : Allocation) → run.kind ≡ Plain → IsIn run x → is_plain_at (page_start run.first) x ≡ true
whole_plain run x kind i =
    let u = use_plain x.«use» (sym i.its_use ∙ kind) in
    subst (λ v. elim v as (λ _. Bool) [ PlainRun ↦ x.start == page_start run.first | _ ↦ false ] ≡ true) (sym u)
    (eq-eqb x.start (page_start run.first) (i.whole (ap (λ v. elim v as (λ _. Bool) [ SlabBlock ↦ true | HeadBlock _ ↦ true | _ ↦ false ]) u)).0)

-- a run of untracked pages is that of an allocation
pub plain_there : (pages : List (Option Run)) (used : List Allocation) (run : Run) → AreLaid pages used → run_with pages run.first ≡ Some run → run.kind ≡ Plain → list_any (is_plain_at (page_start run.first)) used ≡ true
plain_there pages used run laid here kind = some_owner pages used run.first run (is_plain_at (page_start run.first)) laid here (λ x i. whole_plain run x kind i)

first_of_run : (b first len start size : ℕ) → b + 4096 * first ≤ start → start + size ≤ b + 4096 * (first + len) → 0 < size → 0 < len
first_of_run b first len start size low high some = omega (arith, low, high, some)

pub no_plain : (pages : List (Option Run)) (used : List Allocation) (a : ℕ) → AreLaid pages used → run_at pages Plain a ≡ None → list_any (is_plain_at a) used ≡ false
no_plain pages used a laid none = false_from_ne_true (list_any (is_plain_at a) used) (λ h.
    let x = passing (IsLaid pages) (is_plain_at a) used laid.each h in
    let u = plain_is x.0.«use» (x.0.start == a) x.2 in
    let i = x.1.inside in
    let lo = i.low in let hi = i.high in let some = i.some in
    let start = (i.whole (ap (λ v. elim v as (λ _. Bool) [ SlabBlock ↦ true | HeadBlock _ ↦ true | _ ↦ false ]) u.0)).0 in
    let at : a ≡ page_start x.1.run.first = sym (eqb-true x.0.start a u.1) ∙ start in
    let here = x.1.has x.1.run.first (omega arith) (let l = first_of_run base x.1.run.first x.1.run.len x.0.start x.0.size lo hi some in omega (arith, l)) in
    absurd_at x.1.run (i.its_use ∙ ap use_of u.0) here (subst (λ b. run_at pages Plain b ≡ None) at none)) where
      absurd_at : (run : Run) → run.kind ≡ Plain → run_with pages run.first ≡ Some run → run_at pages Plain (page_start run.first) ≡ None → ⊥
      absurd_at run kind here none =
          let p = page_of_start base run.first in
          let found : run_at pages Plain (page_start run.first) ≡ Some run.len =
          rw p (rw (eq-eqb (page_start run.first) (page_start run.first) refl) (rw here (rw kind (rw (eq-eqb run.first run.first refl))))) in
          let clash : Some run.len ≡ None = sym found ∙ none in cc

-- an address is in boot memory where its page is
pub boot_there : (pages : List (Option Run)) (used : List Allocation) (a : ℕ) → AreLaid pages used → base ≤ a → list_any (is_boot_with a) used ≡ true → option_map (λ r. r.kind) (run_with pages (page_of a)) ≡ Some Boot
boot_there pages used a laid low h =
    let x = passing (IsLaid pages) (is_boot_with a) used laid.each h in
    let u = boot_is x.0.«use» (is_within x.0.start x.0.size a) x.2 in
    let w = and_parts (nat_le x.0.start a) (nat_lt a (x.0.start + x.0.size)) u.1 in
    let i = x.1.inside in
    let lo = i.low in let hi = i.high in
    let from = leb-true x.0.start a w.0 in let to = ltb-true a (x.0.start + x.0.size) w.1 in
    let k = page_between base x.1.run.first x.1.run.len a (omega (arith, lo, from)) (omega (arith, hi, to)) in
    ap (option_map (λ (r : Run). r.kind)) (x.1.has (page_of a) k.0 k.1) ∙ ap Some (i.its_use ∙ ap use_of u.0)

byte_between : (b first len a : ℕ) → b ≤ a → first ≤ (a - b) / 4096 → (a - b) / 4096 < first + len → (b + 4096 * first ≤ a) × (a < b + 4096 * first + 4096 * len)
byte_between b first len a le low high = (omega (arith, le, low), omega (arith, le, high))

whole_boot : (run : Run) (x : Allocation) (a : ℕ) → run.kind ≡ Boot → IsIn run x → page_start run.first ≤ a → a < page_start run.first + 4096 * run.len → is_boot_with a x ≡ true
whole_boot run x a kind i low high =
    let u = use_boot x.«use» (sym i.its_use ∙ kind) in
    let w = i.whole (ap (λ v. elim v as (λ _. Bool) [ SlabBlock ↦ true | HeadBlock _ ↦ true | _ ↦ false ]) u) in
    subst (λ v. elim v as (λ _. Bool) [ BootRun ↦ is_within x.start x.size a | _ ↦ false ] ≡ true) (sym u)
    (and_from (nat_le x.start a) (nat_lt a (x.start + x.size)) (le-leb x.start a (omega (arith, w, low))) (lt-ltb a (x.start + x.size) (omega (arith, w, high))))

pub boot_from : (pages : List (Option Run)) (used : List Allocation) (a : ℕ) → AreRuns pages → AreLaid pages used → base ≤ a → option_map (λ r. r.kind) (run_with pages (page_of a)) ≡ Some Boot → list_any (is_boot_with a) used ≡ true
boot_from pages used a runs laid low h =
    let r = some_run (run_with pages (page_of a)) h in
    let k = byte_between base r.0.first r.0.len a low (runs.from (page_of a) r.0 r.1) (runs.to (page_of a) r.0 r.1) in
    some_owner pages used (page_of a) r.0 (is_boot_with a) laid r.1 (λ x i. whole_boot r.0 x a r.2 i k.0 k.1) where
      some_run : (o : Option Run) → option_map (λ r. r.kind) o ≡ Some Boot → (run : Run) × (o ≡ Some run) × (run.kind ≡ Boot)
      some_run None e = absurd cc
      some_run (Some run) e = (run, refl, cc)
