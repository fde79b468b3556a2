use Rattle.std.proofs.Common.{◌≡◌, ℕ, ◌+◌, ◌*◌, ◌/◌, ◌<◌, ◌≤◌, Bool, true, false, ◌&&◌, ◌||◌, ◌==◌, List, [], ◌∷◌, ◌++◌, length, Option, Some, None, option_map, if◌then◌else◌, refl, sym, ap, ◌∙◌, subst, arith, ◌⊎◌, inl, inr}
use Rattle.std.specs.List.{list_any}
use Rattle.std.proofs.lemmas.Bool.{and_from, or_left, or_right, or_parts, or_cases, eq-eqb, eqb-true, not-true, not_from_false, both_ways}
use Rattle.std.proofs.lemmas.List.Elements.{All-push}
use Rattle.std.proofs.lemmas.List.Folds.{list_any-append}
use Rattle.km_model.specs.Memory.{base}
use Rattle.km_model.specs.Placement.{Allocation, Use, SlotTable, SectionRun, StackPage, SlabBlock, LargeRun, PlainRun, BootRun, HeadBlock, AreaRun, page_of, touches, is_slab_block}
use Rattle.km_pages.specs.declared.runs.Use as kinds
use Rattle.km_pages.specs.declared.runs.Use.TheVariants.{Plain, Section, Stack, Slab, Large, Vmalloc, Boot}
use Rattle.km_pages.specs.declared.runs.Run.{Run}
use Rattle.km_pages.specs.Uses.{same_use, use_of}
use Rattle.km_pages.specs.Runs.{run_with, length_if}
use Rattle.km_pages.specs.Laid.{IsLaid, AreLaid}
use Rattle.km_pages.proofs.Laying.{all_weaker}
use Rattle.km_marks.specs.Sets.{has}
use Rattle.km_slab.specs.Blocks.{Sheets, AreMarks, IsFreeAt, class_at, is_live, slot_start, is_slot, IsSlot, Gains, AreBlocks, Fits}
use Rattle.km_slab.proofs.Places.{cancelled, some_number, slot_within}
use Rattle.km_slab.proofs.Slots.{page_of_slot, place_fits}
use Rattle.km_slab.proofs.Rows.{place_small}

-- one slot more is live, in a page of its class
pub record Grown (sheets new : Sheets) (class p i : ℕ) : Type 0 where
  pub some : 0 < class
  pub fits : class * (i + 1) ≤ 4096
  pub at : class_at new p ≡ Some class
  pub here : is_live new p i ≡ true
  pub kept : (q cl : ℕ) → class_at sheets q ≡ Some cl → class_at new q ≡ Some cl
  pub still : (q j : ℕ) → is_live sheets q j ≡ true → is_live new q j ≡ true
  pub back : (q cl j : ℕ) → class_at new q ≡ Some cl → j < 4096 / cl → is_live new q j ≡ true → ((q ≡ p) × (j ≡ i)) ⊎ ((class_at sheets q ≡ Some cl) × (is_live sheets q j ≡ true))

slot_from_parts : (class a : ℕ) (x : Allocation) → is_slab_block x ≡ true → x.size ≡ class → x.start ≡ a → is_slot class a x ≡ true
slot_from_parts class a x slab size start =
    and_from (is_slab_block x && x.size == class) (x.start == a) (and_from (is_slab_block x) (x.size == class) slab (eq-eqb x.size class size)) (eq-eqb x.start a start)

still_slot : (sheets new : Sheets) (class p i n a : ℕ) → Grown sheets new class p i → IsSlot sheets n a → IsSlot new n a
still_slot sheets new class p i n a g s = record { page = s.page; place = s.place; class = g.kept s.page n s.class; fits = s.fits; start = s.start; live = g.still s.page s.place s.live }

new_slot : (sheets new : Sheets) (class p i : ℕ) → Grown sheets new class p i → IsSlot new class (slot_start class p i)
new_slot sheets new class p i g = record { page = p; place = i; class = g.at; fits = g.fits; start = refl; live = g.here }

-- no live slot begins where a dead one does
pub fresh_slot : (sheets : Sheets) (class p i : ℕ) → ((q cl : ℕ) → class_at sheets q ≡ Some cl → 8 ≤ cl) → 0 < class → class * (i + 1) ≤ 4096
    → ((cl : ℕ) → class_at sheets p ≡ Some cl → (cl ≡ class) × (is_live sheets p i ≡ false)) → (n : ℕ) → IsSlot sheets n (slot_start class p i) → ⊥
fresh_slot sheets class p i sizes some room dead n s =
    let size = sizes s.page n s.class in
    let same : s.page ≡ p = sym (page_of_slot base n s.page s.place (omega (arith, size)) s.fits) ∙ ap page_of (sym s.start) ∙ page_of_slot base class p i some room in
    let d = dead n (subst (λ q. class_at sheets q ≡ Some n) same s.class) in
    let inside : base + 4096 * p + class * s.place ≡ base + 4096 * p + class * i = ap (λ m. slot_start m p s.place) (sym d.0) ∙ ap (λ q. slot_start n q s.place) (sym same) ∙ sym s.start in
    let place : s.place ≡ i = cancelled class s.place i some (omega (arith, inside)) in
    both_ways (is_live sheets p i) d.1 (subst (λ j. is_live sheets p j ≡ true) place (subst (λ q. is_live sheets q s.place ≡ true) same s.live))

pub gained : (sheets new : Sheets) (class p i : ℕ) → ((q cl : ℕ) → class_at new q ≡ Some cl → 8 ≤ cl) → ((n : ℕ) → IsSlot sheets n (slot_start class p i) → ⊥) → Grown sheets new class p i
    → Gains sheets new class (slot_start class p i)
gained sheets new class p i sizes fresh g = record {
  fresh = fresh;
  live = new_slot sheets new class p i g;
  still = λ n b s. still_slot sheets new class p i n b g s;
  back = λ n b s.
      let size = sizes s.page n s.class in
      elim (g.back s.page n s.place s.class (place_fits n s.place (omega (arith, size)) s.fits) s.live) [
        | inl same ↦
            let is : n ≡ class = some_number n class (sym s.class ∙ ap (class_at new) same.0 ∙ g.at) in
            inr (is, s.start ∙ ap (λ m. slot_start m s.page s.place) is ∙ ap (λ q. slot_start class q s.place) same.0 ∙ ap (slot_start class p) same.1)
        | inr old ↦ inl (record { page = s.page; place = s.place; class = old.0; fits = s.fits; start = s.start; live = old.1 })
      ];
}

-- the blocks with that of the slot
pub blocks_grown : (sheets new : Sheets) (used : List Allocation) (class p i : ℕ) (x : Allocation) → Grown sheets new class p i → AreBlocks sheets used
    → is_slab_block x ≡ true → x.size ≡ class → x.start ≡ slot_start class p i → AreBlocks new (used ++ x ∷ [])
blocks_grown sheets new used class p i x g blocks slab size start =
    let P = λ (s : Sheets) (y : Allocation). is_slab_block y ≡ true → IsSlot s y.size y.start in
    let this : IsSlot new x.size x.start = subst (λ n. IsSlot new n x.start) (sym size) (subst (IsSlot new class) (sym start) (new_slot sheets new class p i g)) in
    record {
      slots = All-push (P new) used x (all_weaker (P sheets) (P new) used (λ y f s. still_slot sheets new class p i y.size y.start g (f s)) blocks.slots) (λ _. this);
      live = λ q cl j at fits live.
          let test = is_slot cl (slot_start cl q j) in
          list_any-append test used (x ∷ []) ∙ elim (g.back q cl j at fits live) [
            | inl same ↦
                let is : class ≡ cl = some_number class cl (sym g.at ∙ ap (class_at new) (sym same.0) ∙ at) in
                let began : x.start ≡ slot_start cl q j = start ∙ ap (λ n. slot_start n p i) is ∙ ap (λ r. slot_start cl r i) (sym same.0) ∙ ap (slot_start cl q) (sym same.1) in
                or_right (list_any test used) (test x || false) (or_left (test x) false (slot_from_parts cl (slot_start cl q j) x slab (size ∙ is) began))
            | inr old ↦ or_left (list_any test used) (test x || false) (blocks.live q cl j old.0 fits old.1)
          ];
    }

-- a run of a use that begins at a page
pub record IsRun (kind : kinds.Use) (o : Option Run) (p n : ℕ) : Type 0 where
  pub run : Run
  pub is : o ≡ Some run
  pub kind_is : run.kind ≡ kind
  pub first : run.first ≡ p
  pub len : run.len ≡ n

slab_is : (k : kinds.Use) → same_use k Slab ≡ true → k ≡ Slab
slab_is Plain e = absurd cc
slab_is Section e = absurd cc
slab_is Stack e = absurd cc
slab_is Slab e = refl
slab_is Large e = absurd cc
slab_is Vmalloc e = absurd cc
slab_is Boot e = absurd cc

pub run_is : (kind : kinds.Use) (o : Option Run) (p n : ℕ) → ((k : kinds.Use) → same_use k kind ≡ true → k ≡ kind) → length_if kind p o ≡ Some n → IsRun kind o p n
run_is kind None p n same e = absurd cc
run_is kind (Some run) p n same e = by_test (same_use run.kind kind) (run.first == p) refl refl e where
  by_test : (a b : Bool) → same_use run.kind kind ≡ a → (run.first == p) ≡ b → (if a && b then Some run.len else None) ≡ Some n → IsRun kind (Some run) p n
  by_test true true k f e = record { run = run; is = refl; kind_is = same run.kind k; first = eqb-true run.first p f; len = some_number run.len n e }
  by_test true false k f e = absurd cc
  by_test false b k f e = absurd cc

-- the run of a slab page
pub slab_run : (sheets : Sheets) (pages : List (Option Run)) (class p : ℕ) → Fits sheets pages → class_at sheets p ≡ Some class → IsRun Slab (run_with pages p) p 1
slab_run sheets pages class p fits at = run_is Slab (run_with pages p) p 1 slab_is (fits.runs p ∙ ap (option_map (λ _. 1)) at)

pub slab_block_use : (u : Use) → (elim u as (λ _. Bool) [ SlabBlock ↦ true | HeadBlock _ ↦ true | _ ↦ false ]) ≡ true → use_of u ≡ Slab
slab_block_use SlotTable e = absurd cc
slab_block_use (SectionRun n) e = absurd cc
slab_block_use StackPage e = absurd cc
slab_block_use SlabBlock e = refl
slab_block_use LargeRun e = absurd cc
slab_block_use PlainRun e = absurd cc
slab_block_use BootRun e = absurd cc
slab_block_use (HeadBlock s) e = refl
slab_block_use (AreaRun s) e = absurd cc

-- a slot of a slab page lies in its run
pub laid_grown : (sheets : Sheets) (pages : List (Option Run)) (used : List Allocation) (class p i : ℕ) (x : Allocation) → Fits sheets pages → class_at sheets p ≡ Some class → 0 < class
    → class * (i + 1) ≤ 4096 → AreLaid pages used → is_slab_block x ≡ true → x.size ≡ class → x.start ≡ slot_start class p i → AreLaid pages (used ++ x ∷ [])
laid_grown sheets pages used class p i x fits at some room laid slab size start =
    let r = slab_run sheets pages class p fits at in
    let first = r.first in let one = r.len in
    let more : class * (i + 1) ≡ class * i + class = omega arith in
    let this : IsLaid pages x = record {
      run = r.run;
      inside = record {
        its_use = r.kind_is ∙ sym (slab_block_use x.«use» slab);
        low = omega (arith, first, start);
        high = omega (arith, first, one, start, size, more, room);
        some = omega (arith, size, some);
        whole = λ e. absurd (both slab e);
      };
      has = λ q le lt. let same : p ≡ q = omega (arith, le, lt, first, one) in subst (λ n. run_with pages n ≡ Some r.run) same r.is;
    } in
    record {
      each = All-push (IsLaid pages) used x laid.each this;
      held = λ q free. laid.held q (not_from_false (list_any (touches q) used)
          (or_parts (list_any (touches q) used) (touches q x || false) (sym (list_any-append (touches q) used (x ∷ [])) ∙ not-true (list_any (touches q) (used ++ x ∷ [])) free)).0);
    } where
      both : is_slab_block x ≡ true → is_slab_block x ≡ false → ⊥
      both a b = cc

-- the pages stay those of the slab pages
pub fits_grown : (sheets new : Sheets) (pages : List (Option Run)) (class p i : ℕ) → Grown sheets new class p i → new.classes ≡ sheets.classes → Fits sheets pages → Fits new pages
fits_grown sheets new pages class p i g same fits = record {
  count = ap length same ∙ fits.count;
  runs = λ q. fits.runs q ∙ ap (λ xs. option_map (λ _. 1) (class_at (record { classes = xs; live = new.live }) q)) (sym same);
  some = λ q cl at. let old = fits.some q cl (ap (λ xs. class_at (record { classes = xs; live = new.live }) q) (sym same) ∙ at) in (old.0, old.1, g.still q old.0 old.2);
}

-- a free slot of a page that becomes live
pub slot_grown : (classes : List (Option ℕ)) (free live opened new_live : List ℕ) (row class p i : ℕ) → AreMarks classes free live opened row → IsFreeAt (record { classes = classes; live = live }) class p i
    → ((n : ℕ) → has new_live n ≡ (n == 512 * p + i || has live n)) → Grown (record { classes = classes; live = live }) (record { classes = classes; live = new_live }) class p i
slot_grown classes free live opened new_live row class p i marks slot inserted =
    let size = (marks.sizes p class slot.0).0 in
    let some : 0 < class = omega (arith, size) in
    let small = place_small class i size slot.1 in
    record {
      some = some;
      fits = slot_within class i some slot.1;
      at = slot.0;
      here = inserted (512 * p + i) ∙ or_left (512 * p + i == 512 * p + i) (has live (512 * p + i)) (eq-eqb (512 * p + i) (512 * p + i) refl);
      kept = λ q cl at. at;
      still = λ q j h. inserted (512 * q + j) ∙ or_right (512 * q + j == 512 * p + i) (has live (512 * q + j)) h;
      back = λ q cl j at fits h.
          let few = place_small cl j (marks.sizes q cl at).0 fits in
          elim (or_cases (512 * q + j == 512 * p + i) (has live (512 * q + j)) (sym (inserted (512 * q + j)) ∙ h)) [
            | inl same ↦ let e = eqb-true (512 * q + j) (512 * p + i) same in inl (omega (arith, e, few, small), omega (arith, e, few, small))
            | inr old ↦ inr (at, old)
          ];
    }
