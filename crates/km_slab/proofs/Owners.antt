use Rattle.std.proofs.Common.{◌≡◌, ℕ, suc, not, ◌+◌, ◌*◌, ◌/◌, ◌<◌, ◌≤◌, Bool, true, false, ◌&&◌, ◌||◌, ◌==◌, is_none, nat_le, List, [], ◌∷◌, ◌++◌, length, get_or, Option, Some, None, if◌then◌else◌, refl, sym, ap, ◌∙◌, subst, arith, inl, inr}
use Rattle.std.specs.List.{list_any, All}
use Rattle.std.proofs.lemmas.Bool.{and_parts, and_from, and_right, or_left, or_cases, eq-eqb, eqb-true, not-false, not_from_false, false_from_ne_true, both_ways, cases_Bool}
use Rattle.std.proofs.lemmas.List.Elements.{All-push}
use Rattle.std.proofs.lemmas.List.Folds.{list_any-append}
use Rattle.km_model.specs.Memory.{base}
use Rattle.km_model.specs.Placement.{Allocation, Use, SlotTable, SectionRun, StackPage, SlabBlock, LargeRun, PlainRun, BootRun, HeadBlock, AreaRun, page_start, page_of, touches, is_slab_block, kmalloc_span, kmalloc_use, without_allocation}
use Rattle.km_model.proofs.Cases.{some_same}
use Rattle.km_pages.specs.declared.runs.Use as kinds
use Rattle.km_pages.specs.declared.runs.Use.TheVariants.{Plain, Section, Stack, Slab, Large, Vmalloc, Boot}
use Rattle.km_pages.specs.declared.runs.Run.{Run}
use Rattle.km_pages.specs.Uses.{same_use, use_of}
use Rattle.km_pages.specs.Runs.{run_with, run_at, run_from, length_if}
use Rattle.km_pages.specs.Laid.{IsIn, IsLaid, AreLaid}
use Rattle.km_pages.proofs.Touching.{in_run, begins_in, passing, free_same, run_at_page}
use Rattle.km_pages.proofs.Laying.{same_run, all_left, any_left}
use Rattle.km_slab.specs.Blocks.{Sheets, class_at, is_live, slot_start, is_slot, IsSlot, AreBlocks, Fits, IsBlock, is_large, is_large_at, is_block_at}
use Rattle.km_slab.proofs.Slots.{any_in, any_weaker, page_of_slot, place_fits, slot_parts}
use Rattle.km_slab.proofs.Places.{slab_there, kind_found}
use Rattle.km_slab.proofs.Rows.{place_small}
use Rattle.km_slab.proofs.Growing.{run_is, slab_block_use}

-- some allocation lies in a run
owner : (pages : List (Option Run)) (p : ℕ) (run : Run) (x : Allocation) → run_with pages p ≡ Some run → IsLaid pages x → touches p x ≡ true → IsIn run x
owner pages p run x here l t =
    let k = in_run p l.run x l.inside t in
    subst (λ r. IsIn r x) (same_run pages p l.run run (l.has p k.0 k.1) here) l.inside

pub owner_passes : (pages : List (Option Run)) (used : List Allocation) (p : ℕ) (run : Run) (test : Allocation → Bool) → AreLaid pages used → run_with pages p ≡ Some run
    → ((x : Allocation) → IsIn run x → test x ≡ true) → list_any test used ≡ true
owner_passes pages used p run test laid here f =
    any_in (touches p) test used (λ k d lt t. f (get_or used k d) (owner pages p run (get_or used k d) here (laid.each k d lt) t))
    (not-false (list_any (touches p) used) (free_same pages used p laid ∙ ap is_none here))

large_is : (k : kinds.Use) → same_use k Large ≡ true → k ≡ Large
large_is Plain e = absurd cc
large_is Section e = absurd cc
large_is Stack e = absurd cc
large_is Slab e = absurd cc
large_is Large e = refl
large_is Vmalloc e = absurd cc
large_is Boot e = absurd cc

of_large : (u : Use) → use_of u ≡ Large → u ≡ LargeRun
of_large SlotTable e = absurd cc
of_large (SectionRun n) e = absurd cc
of_large StackPage e = absurd cc
of_large SlabBlock e = absurd cc
of_large LargeRun e = refl
of_large PlainRun e = absurd cc
of_large BootRun e = absurd cc
of_large (HeadBlock s) e = absurd cc
of_large (AreaRun s) e = absurd cc

pub large_use : (u : Use) → (elim u as (λ _. Bool) [ LargeRun ↦ true | _ ↦ false ]) ≡ true → u ≡ LargeRun
large_use SlotTable e = absurd cc
large_use (SectionRun n) e = absurd cc
large_use StackPage e = absurd cc
large_use SlabBlock e = absurd cc
large_use LargeRun e = refl
large_use PlainRun e = absurd cc
large_use BootRun e = absurd cc
large_use (HeadBlock s) e = absurd cc
large_use (AreaRun s) e = absurd cc

pub no_slab_use : (x : Allocation) → x.«use» ≡ LargeRun → is_slab_block x ≡ false
no_slab_use x e = ap (λ u. elim u as (λ _. Bool) [ SlabBlock ↦ true | HeadBlock _ ↦ true | _ ↦ false ]) e

is_large_use : (x : Allocation) → x.«use» ≡ LargeRun → is_large x ≡ true
is_large_use x e = ap (λ u. elim u as (λ _. Bool) [ LargeRun ↦ true | _ ↦ false ]) e

-- a large block is the whole of its run
pub record IsWhole (pages : List (Option Run)) (a : ℕ) (x : Allocation) : Type 0 where
  pub run : Run
  pub here : run_with pages run.first ≡ Some run
  pub kind : run.kind ≡ Large
  pub start : a ≡ page_start run.first
  pub size : x.size ≡ 4096 * run.len

pub large_whole : (pages : List (Option Run)) (a : ℕ) (x : Allocation) → IsLaid pages x → is_large_at a x ≡ true → IsWhole pages a x
large_whole pages a x l h =
    let k = and_parts (is_large x) (x.start == a) h in
    let u = large_use x.«use» k.0 in
    let i = l.inside in
    let w = i.whole (no_slab_use x u) in
    let b = begins_in l.run x i in
    record {
      run = l.run;
      here = l.has l.run.first (omega arith) (omega (arith, b));
      kind = i.its_use ∙ ap use_of u;
      start = sym (eqb-true x.start a k.1) ∙ w.0;
      size = w.1;
    }

-- so its run is found where it begins
whole_run : (run : Run) (o : Option Run) → o ≡ Some run → run.kind ≡ Large → length_if Large run.first o ≡ Some run.len
whole_run run o here kind =
    ap (length_if Large run.first) here
    ∙ ap (λ k. if same_use k Large && run.first == run.first then Some run.len else None) kind
    ∙ ap (λ b. if b then Some run.len else None) (eq-eqb run.first run.first refl)

large_run : (pages : List (Option Run)) (a : ℕ) (x : Allocation) (w : IsWhole pages a x) → run_at pages Large a ≡ Some w.run.len
large_run pages a x w = run_at_page pages Large a w.run.first w.start ∙ whole_run w.run (run_with pages w.run.first) w.here w.kind

-- the block that begins where a large run does has all of it
pub large_size : (pages : List (Option Run)) (used : List Allocation) (a n : ℕ) → AreLaid pages used → run_at pages Large a ≡ Some n
    → All (λ (x : Allocation). is_large_at a x ≡ true → x.size ≡ 4096 * n) used
large_size pages used a n laid at k d lt h =
    let x = get_or used k d in
    let w = large_whole pages a x (laid.each k d lt) h in
    w.size ∙ ap (λ m. 4096 * m) (some_same w.run.len n (sym (large_run pages a x w) ∙ at))

pub no_large : (pages : List (Option Run)) (used : List Allocation) (a : ℕ) → AreLaid pages used → run_at pages Large a ≡ None → list_any (is_large_at a) used ≡ false
no_large pages used a laid none =
    false_from_ne_true (list_any (is_large_at a) used) (λ h.
    let x = passing (IsLaid pages) (is_large_at a) used laid.each h in
    let w = large_whole pages a x.0 x.1 x.2 in
    clash w.run.len (sym (large_run pages a x.0 w) ∙ none)) where
      clash : (n : ℕ) → Some n ≡ None → ⊥
      clash n e = cc

-- a run that is found begins a page
pub at_page : (pages : List (Option Run)) (kind : kinds.Use) (a n : ℕ) → run_at pages kind a ≡ Some n → (a ≡ page_start (page_of a)) × (run_from pages kind (page_of a) ≡ Some n)
at_page pages kind a n h =
    let Goal = λ (q : Bool). (a == page_start (page_of a)) ≡ q → (if q then run_from pages kind (page_of a) else None) ≡ Some n → (a ≡ page_start (page_of a)) × (run_from pages kind (page_of a) ≡ Some n) in
    elim (a == page_start (page_of a)) as Goal [ true ↦ λ e s. (eqb-true a (page_start (page_of a)) e, s) | false ↦ λ e s. absurd cc ] refl h

pub large_found : (pages : List (Option Run)) (used : List Allocation) (a n : ℕ) → AreLaid pages used → run_at pages Large a ≡ Some n → list_any (is_large_at a) used ≡ true
large_found pages used a n laid h =
    let k = at_page pages Large a n h in
    let r = run_is Large (run_with pages (page_of a)) (page_of a) n large_is k.1 in
    owner_passes pages used (page_of a) r.run (is_large_at a) laid r.is (λ x i. begins r.run x r.kind_is (r.first) k.0 i) where
      begins : (run : Run) (x : Allocation) → run.kind ≡ Large → run.first ≡ page_of a → a ≡ page_start (page_of a) → IsIn run x → is_large_at a x ≡ true
      begins run x kind first start i =
          let u = of_large x.«use» (sym i.its_use ∙ kind) in
          let w = i.whole (no_slab_use x u) in
          and_from (is_large x) (x.start == a) (is_large_use x u) (eq-eqb x.start a (w.0 ∙ ap page_start first ∙ sym start))

-- no slot begins where none was found
pub no_slot_there : (sheets : Sheets) (n a : ℕ) → ((p class : ℕ) → class_at sheets p ≡ Some class → 8 ≤ class) → ((p class i : ℕ) → class_at sheets p ≡ Some class → i < 512 → a ≡ slot_start class p i → is_live sheets p i ≡ false)
    → IsSlot sheets n a → ⊥
no_slot_there sheets n a sizes none s =
    let size = sizes s.page n s.class in
    let fits = place_fits n s.place (omega (arith, size)) s.fits in
    both_ways (is_live sheets s.page s.place) (none s.page n s.place s.class (place_small n s.place size fits) s.start) s.live

-- where no slab block begins, the blocks are the large ones
pub no_slab_at : (sheets : Sheets) (used : List Allocation) (a : ℕ) → AreBlocks sheets used → ((p class : ℕ) → class_at sheets p ≡ Some class → 8 ≤ class)
    → ((p class i : ℕ) → class_at sheets p ≡ Some class → i < 512 → a ≡ slot_start class p i → is_live sheets p i ≡ false)
    → All (λ (x : Allocation). is_slab_block x ≡ true → x.start ≡ a → ⊥) used
no_slab_at sheets used a blocks sizes none k d lt slab e =
    let x = get_or used k d in
    no_slot_there sheets x.size a sizes none (subst (IsSlot sheets x.size) e (blocks.slots k d lt slab))

any_same : {X : Type 0} (t u : X → Bool) (xs : List X) → All (λ x. t x ≡ u x) xs → list_any t xs ≡ list_any u xs
any_same t u [] all = refl
any_same t u (x ∷ xs) all = ap (λ b. b || list_any t xs) (all 0 x (omega arith)) ∙ ap (λ b. u x || b) (any_same t u xs (λ k d lt. all (suc k) d (omega (arith, lt))))

pub only_large : (used : List Allocation) (a : ℕ) → All (λ (x : Allocation). is_slab_block x ≡ true → x.start ≡ a → ⊥) used → list_any (is_block_at a) used ≡ list_any (is_large_at a) used
only_large used a none = any_same (is_block_at a) (is_large_at a) used (λ k d lt. same (get_or used k d) (none k d lt)) where
  same : (x : Allocation) → (is_slab_block x ≡ true → x.start ≡ a → ⊥) → is_block_at a x ≡ is_large_at a x
  same x none = elim (cases_Bool (is_slab_block x)) [
    | inl slab ↦
        let far = false_from_ne_true (x.start == a) (λ h. none slab (eqb-true x.start a h)) in
        and_right (is_slab_block x || is_large x) (x.start == a) far ∙ sym (and_right (is_large x) (x.start == a) far)
    | inr other ↦ ap (λ b. (b || is_large x) && x.start == a) other
  ]

pub large_at : (a : ℕ) (x : Allocation) → (is_slab_block x ≡ true → x.start ≡ a → ⊥) → is_block_at a x ≡ true → is_large_at a x ≡ true
large_at a x none h =
    let k = and_parts (is_slab_block x || is_large x) (x.start == a) h in
    elim (or_cases (is_slab_block x) (is_large x) k.0) [
      | inl slab ↦ absurd (none slab (eqb-true x.start a k.1))
      | inr large ↦ and_from (is_large x) (x.start == a) large k.1
    ]

-- the slab blocks stay where what begins elsewhere goes
pub blocks_left : (sheets : Sheets) (used : List Allocation) (a : ℕ) → AreBlocks sheets used → All (λ (x : Allocation). is_slab_block x ≡ true → x.start ≡ a → ⊥) used → AreBlocks sheets (without_allocation used a)
blocks_left sheets used a blocks none =
    let keep = λ (x : Allocation). not (x.start == a) in
    let P = λ (x : Allocation). is_slab_block x ≡ true → IsSlot sheets x.size x.start in
    record {
      slots = all_left P P keep used (λ x f h. f) blocks.slots;
      live = λ p class i at fits live.
          any_left (is_slot class (slot_start class p i)) keep used
          (λ k d lt h. let x = get_or used k d in not_from_false (x.start == a) (false_from_ne_true (x.start == a) (λ e. none k d lt (slot_parts class (slot_start class p i) x h).0 (eqb-true x.start a e))))
          ∙ blocks.live p class i at fits live;
    }

-- the block of a live slot is found, and has its size
pub slot_found_at : (sheets : Sheets) (used : List Allocation) (class p i : ℕ) → AreBlocks sheets used → class_at sheets p ≡ Some class → i < 4096 / class → is_live sheets p i ≡ true
    → list_any (is_block_at (slot_start class p i)) used ≡ true
slot_found_at sheets used class p i blocks at fits live =
    any_weaker (is_slot class (slot_start class p i)) (is_block_at (slot_start class p i)) used
    (λ x h.
    let k = slot_parts class (slot_start class p i) x h in
    and_from (is_slab_block x || is_large x) (x.start == slot_start class p i) (or_left (is_slab_block x) (is_large x) k.0) (eq-eqb x.start (slot_start class p i) k.2))
    (blocks.live p class i at fits live)

pub slot_size : (sheets : Sheets) (pages : List (Option Run)) (used : List Allocation) (class p i : ℕ) → AreLaid pages used → AreBlocks sheets used → Fits sheets pages → 0 < class
    → class * (i + 1) ≤ 4096 → class_at sheets p ≡ Some class → All (λ (x : Allocation). is_block_at (slot_start class p i) x ≡ true → x.size ≡ class) used
slot_size sheets pages used class p i laid blocks fits some within at k d lt h =
    let x = get_or used k d in
    let start = eqb-true x.start (slot_start class p i) (and_parts (is_slab_block x || is_large x) (x.start == slot_start class p i) h).1 in
    let page : page_of x.start ≡ p = ap page_of start ∙ page_of_slot base class p i some within in
    let l = laid.each k d lt in
    let s = blocks.slots k d lt (slab_there sheets pages class p x fits at l page) in
    let same : s.page ≡ p = sym (page_of_slot base x.size s.page s.place l.inside.some s.fits) ∙ ap page_of (sym s.start) ∙ page in
    some_same x.size class (sym (subst (λ q. class_at sheets q ≡ Some x.size) same s.class) ∙ at)

-- they stay where what is no slab block comes
pub blocks_more : (sheets : Sheets) (used : List Allocation) (x : Allocation) → AreBlocks sheets used → is_slab_block x ≡ false → AreBlocks sheets (used ++ x ∷ [])
blocks_more sheets used x blocks other = record {
  slots = All-push (λ (y : Allocation). is_slab_block y ≡ true → IsSlot sheets y.size y.start) used x blocks.slots (λ slab. absurd (both_ways (is_slab_block x) other slab));
  live = λ p class i at fits live.
      let test = is_slot class (slot_start class p i) in
      list_any-append test used (x ∷ []) ∙ or_left (list_any test used) (test x || false) (blocks.live p class i at fits live);
}

-- a block that begins where a live slot does has its size
pub slot_is : (sheets : Sheets) (n class p i : ℕ) → 8 ≤ n → 0 < class → class * (i + 1) ≤ 4096 → class_at sheets p ≡ Some class → IsSlot sheets n (slot_start class p i) → class ≡ n
slot_is sheets n class p i some small room at s =
    let same : s.page ≡ p = sym (page_of_slot base n s.page s.place (omega (arith, some)) s.fits) ∙ ap page_of (sym s.start) ∙ page_of_slot base class p i small room in
    some_same class n (sym at ∙ subst (λ q. class_at sheets q ≡ Some n) same s.class)

pub slot_there : (sheets : Sheets) (class p i : ℕ) → class_at sheets p ≡ Some class → class * (i + 1) ≤ 4096 → is_live sheets p i ≡ true → IsSlot sheets class (slot_start class p i)
slot_there sheets class p i at room live = record { page = p; place = i; class = at; fits = room; start = refl; live = live }

-- no slab block begins where a run of another use does
pub other_there : (pages : List (Option Run)) (kind : kinds.Use) (a n : ℕ) (x : Allocation) → IsLaid pages x → run_at pages kind a ≡ Some n → same_use Slab kind ≡ false → is_slab_block x ≡ true → x.start ≡ a → ⊥
other_there pages kind a n x l h other slab e =
    let k = at_page pages kind a n h in
    let b = begins_in l.run x l.inside in
    let here : run_with pages (page_of a) ≡ Some l.run = subst (λ q. run_with pages (page_of q) ≡ Some l.run) e (l.has (page_of x.start) b.0 b.1) in
    both_ways (same_use Slab kind) other (ap (λ u. same_use u kind) (sym (slab_block_use x.«use» slab) ∙ sym l.inside.its_use) ∙ kind_found kind l.run (page_of a) n (ap (length_if kind (page_of a)) (sym here) ∙ k.1))

pub blocks_go : (sheets : Sheets) (pages : List (Option Run)) (used : List Allocation) (kind : kinds.Use) (a n : ℕ) → AreBlocks sheets used → AreLaid pages used → run_at pages kind a ≡ Some n → same_use Slab kind ≡ false
    → AreBlocks sheets (without_allocation used a)
blocks_go sheets pages used kind a n blocks laid run other = blocks_left sheets used a blocks (λ k d lt. other_there pages kind a n (get_or used k d) (laid.each k d lt) run other)

-- slab pages stay where others come and go
pub fits_beside : (sheets : Sheets) (pages new : List (Option Run)) → Fits sheets pages → length new ≡ length pages → ((p : ℕ) → run_from new Slab p ≡ run_from pages Slab p) → Fits sheets new
fits_beside sheets pages new fits same runs = record { count = fits.count ∙ sym same; runs = λ p. runs p ∙ fits.runs p; some = fits.some }

pub request_block : (size a : ℕ) → IsBlock size a (record { «use» = kmalloc_use size; start = a; size = kmalloc_span size })
request_block size a = record {
  start = refl;
  span = refl;
  small = elim (nat_le size 4096) as (λ b. (elim (if b then SlabBlock else LargeRun) as (λ (_ : Use). Bool) [ SlabBlock ↦ true | HeadBlock _ ↦ true | _ ↦ false ]) ≡ b) [ true ↦ refl | false ↦ refl ];
  large = λ e. ap (λ b. if b then SlabBlock else LargeRun) e;
}
