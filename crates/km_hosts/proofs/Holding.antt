use Rattle.std.proofs.Common.{◌*◌, cond, find, subst, ◌≡◌, ℕ, suc, ◌<◌, Bool, true, false, not, ◌==◌, ◌||◌, List, [], ◌∷◌, ◌++◌, filter, get_or, Option, Some, None, option_map, refl, sym, ap, ◌∙◌, arith, inl, inr}
use Rattle.std.specs.List.{All, list_any}
use Rattle.std.proofs.lemmas.Bool.{and_parts, both_ways, cases_Bool, eqb-true, false_from_ne_true, not_from_false}
use Rattle.std.proofs.lemmas.List.{append-nil}
use Rattle.std.proofs.lemmas.List.Elements.{filter-append}
use Rattle.km_model.specs.Placement.{Allocation, Use, SlotTable, SectionRun, StackPage, SlabBlock, LargeRun, PlainRun, BootRun, HeadBlock, AreaRun, is_slab_block, page_of, without_allocation}
use Rattle.km_model.specs.World.{is_any_section}
use Rattle.km_pages.specs.declared.runs.Run.{Run}
use Rattle.km_pages.specs.declared.runs.Use as kinds
use Rattle.km_pages.specs.declared.runs.Use.TheVariants.{Section, Slab, Vmalloc}
use Rattle.km_pages.specs.Uses.{same_use, use_of}
use Rattle.km_pages.specs.Runs.{length_if, run_at, run_from, run_with}
use Rattle.km_pages.specs.Laid.{AreLaid, Fills, IsLaid}
use Rattle.km_pages.proofs.Touching.{begins_in, passing}
use Rattle.km_sections.specs.Named.{AreSections}
use Rattle.km_slab.specs.Blocks.{Fits as SlabFits, IsSlot, Sheets, is_block_at, is_large}
use Rattle.km_slab.proofs.Slots.{page_of_slot}
use Rattle.km_model.specs.Memory.{base}
use Rattle.km_slab.proofs.Owners.{at_page, blocks_go, blocks_more}
use Rattle.km_slab.proofs.Places.{kind_found}
use Rattle.km_tasks.specs.Roll.{Roll}
use Rattle.km_vmalloc.specs.Areas.{is_part}
use Rattle.km_vmalloc.proofs.Beside.{areas_come, areas_go_run}
use Rattle.km_hosts.proofs.Blocks.{block_use}
use Rattle.km_hosts.specs.Hosting.{Agree, Hold, Hosting, with_use}

-- what the page of an address is used for
abbrev pub use_at : List (Option Run) → ℕ → Option kinds.Use
use_at pages a = option_map (λ r. r.kind) (run_with pages (page_of a))

pub use_here : (pages : List (Option Run)) (x : Allocation) → IsLaid pages x → use_at pages x.start ≡ Some (use_of x.«use»)
use_here pages x l =
    let r = begins_in l.run x l.inside in
    ap (option_map (λ s. s.kind)) (l.has (page_of x.start) r.0 r.1) ∙ ap Some l.inside.its_use

pub one_use : (k j : kinds.Use) → Some k ≡ Some j → k ≡ j
one_use k j e = cc

pub run_use : (pages : List (Option Run)) (kind k : kinds.Use) (a n : ℕ) → run_from pages kind (page_of a) ≡ Some n → use_at pages a ≡ Some k → same_use k kind ≡ true
run_use pages kind k a n = of_run (run_with pages (page_of a)) where
  of_run : (o : Option Run) → length_if kind (page_of a) o ≡ Some n → option_map (λ r. r.kind) o ≡ Some k → same_use k kind ≡ true
  of_run None e u = absurd cc
  of_run (Some run) e u = ap (λ j. same_use j kind) (sym (one_use run.kind k u)) ∙ kind_found kind run (page_of a) n e

section_use : (u : Use) → (elim u as (λ _. Bool) [ SectionRun _ ↦ true | _ ↦ false ]) ≡ true → use_of u ≡ Section
section_use SlotTable e = absurd cc
section_use (SectionRun n) e = refl
section_use StackPage e = absurd cc
section_use SlabBlock e = absurd cc
section_use LargeRun e = absurd cc
section_use PlainRun e = absurd cc
section_use BootRun e = absurd cc
section_use (HeadBlock s) e = absurd cc
section_use (AreaRun s) e = absurd cc

-- what passes a test is left where all that passes it is
left_alone : (test keep : Allocation → Bool) (used : List Allocation) → All (λ x. test x ≡ true → keep x ≡ true) used → filter test (filter keep used) ≡ filter test used
left_alone test keep [] all = refl
left_alone test keep (x ∷ used) all =
    let rest = left_alone test keep used (λ k d lt. all (suc k) d (omega (arith, lt))) in
    let here = all 0 x (omega arith) in
    elim (cases_Bool (test x)) [
      | inl passes ↦ rw (here passes) (rw passes (ap (λ xs. x ∷ xs) rest))
      | inr fails ↦ elim (cases_Bool (keep x)) [ inl kept ↦ rw kept (rw fails rest) | inr gone ↦ rw gone (rw fails rest) ]
    ]

-- sections stay where what begins at an address is none
pub sections_go : (given used : List Allocation) (pages : List (Option Run)) (a : ℕ) → AreSections given used → All (IsLaid pages) used → (use_at pages a ≡ Some Section → ⊥) → AreSections given (without_allocation used a)
sections_go given used pages a are each none =
    left_alone is_any_section (λ (x : Allocation). not (x.start == a)) used
    (λ k d lt any.
    let x = get_or used k d in
    not_from_false (x.start == a) (false_from_ne_true (x.start == a) (λ h.
    none (ap (use_at pages) (sym (eqb-true x.start a h)) ∙ use_here pages x (each k d lt) ∙ ap Some (section_use x.«use» any)))))
    ∙ are

pub sections_come : (given used : List Allocation) (x : Allocation) → AreSections given used → is_any_section x ≡ false → AreSections given (used ++ x ∷ [])
sections_come given used x are other = filter-append is_any_section used (x ∷ []) ∙ rw other (append-nil (filter is_any_section used)) ∙ are

-- an allocation beside blocks and areas comes
pub hold_come : (v : Hosting) (new : List (Option Run)) (given used : List Allocation) (roll : Roll) (x : Allocation) → is_slab_block x ≡ false → is_part x ≡ false → Hold v used → AreLaid new (used ++ x ∷ [])
    → AreSections given (used ++ x ∷ []) → Hold (record { pages = new; slab = v.slab; areas = v.areas; sections = given; roll = roll }) (used ++ x ∷ [])
hold_come v new given used roll x no_block no_part h laid sections = record {
  laid = laid;
  blocks = blocks_more v.slab used x h.blocks no_block;
  areas = areas_come v.areas used x h.areas no_part;
  sections = sections;
}

-- such as a run of whole pages
pub hold_run : (v : Hosting) (new : List (Option Run)) (used : List Allocation) (what : Use) (a n : ℕ) → is_slab_block (record { «use» = what; start = a; size = 4096 * n }) ≡ false
    → is_part (record { «use» = what; start = a; size = 4096 * n }) ≡ false → is_any_section (record { «use» = what; start = a; size = 4096 * n }) ≡ false → Hold v used
    → ((x : Allocation) → AreLaid v.pages used → Fills (use_of what) n a x → AreLaid new (used ++ x ∷ [])) → Hold (record v { pages = new }) (with_use used what a (4096 * n))
hold_run v new used what a n no_block no_part no_section h laid =
    hold_come v new v.sections used v.roll (record { «use» = what; start = a; size = 4096 * n }) no_block no_part h
    (laid (record { «use» = what; start = a; size = 4096 * n }) h.laid (record { its_use = refl; start = refl; long = omega arith; fits = omega arith; whole = λ e. refl }))
    (sections_come v.sections used (record { «use» = what; start = a; size = 4096 * n }) h.sections no_section)

-- and the allocation of a run goes that is neither of blocks, areas nor sections
pub hold_go : (v : Hosting) (new : List (Option Run)) (used : List Allocation) (roll : Roll) (kind : kinds.Use) (a n : ℕ) → same_use Slab kind ≡ false → same_use Vmalloc kind ≡ false → same_use Section kind ≡ false
    → Agree v → Hold v used → run_at v.pages kind a ≡ Some n → AreLaid new (without_allocation used a)
    → Hold (record { pages = new; slab = v.slab; areas = v.areas; sections = v.sections; roll = roll }) (without_allocation used a)
hold_go v new used roll kind a n no_slab no_area no_section agree h run laid = record {
  laid = laid;
  blocks = blocks_go v.slab v.pages used kind a n h.blocks h.laid run no_slab;
  areas = areas_go_run v.areas v.slab v.pages used kind a n h.areas agree.areas agree.slab run no_slab no_area;
  sections = sections_go v.sections used v.pages a h.sections h.laid.each (λ e. both_ways (same_use Section kind) no_section (run_use v.pages kind Section a n (at_page v.pages kind a n run).1 e));
}

-- the page of a live slot is a slab page
pub slot_page : (slab : Sheets) (pages : List (Option Run)) (size a : ℕ) → 0 < size → SlabFits slab pages → IsSlot slab size a → run_from pages Slab (page_of a) ≡ Some 1
slot_page slab pages size a some fits slot =
    ap (run_from pages Slab) (ap page_of slot.start ∙ page_of_slot base size slot.page slot.place some slot.fits) ∙ fits.runs slot.page ∙ ap (option_map (λ _. 1)) slot.class

-- a page of a block that begins at an address is for no section and no area
pub record IsOfBlock (pages : List (Option Run)) (a : ℕ) : Type 0 where
  pub kind : kinds.Use
  pub here : use_at pages a ≡ Some kind
  pub no_section : same_use kind Section ≡ false
  pub no_area : same_use kind Vmalloc ≡ false

pub block_there : (pages : List (Option Run)) (used : List Allocation) (a : ℕ) → AreLaid pages used → list_any (is_block_at a) used ≡ true → IsOfBlock pages a
block_there pages used a laid any =
    let x = passing (IsLaid pages) (is_block_at a) used laid.each any in
    let block = block_use x.0.«use» (x.0.start == a) x.2 in
    record {
      kind = use_of x.0.«use»;
      here = ap (use_at pages) (sym (eqb-true x.0.start a (and_parts (is_slab_block x.0 || is_large x.0) (x.0.start == a) x.2).1)) ∙ use_here pages x.0 x.1;
      no_section = block.no_section;
      no_area = block.no_area;
    }

-- the task that is found has what all have
pub found_holds : {X : Type 0} (P : X → Type 0) (test : X → Bool) (xs : List X) (t : X) → All P xs → find test xs ≡ Some t → P t
found_holds P test [] t all e = absurd cc
found_holds P test (x ∷ xs) t all e =
    elim (cases_Bool (test x)) [
      | inl passes ↦ subst P (one_found x t (sym (ap (λ b. cond b (Some x) (find test xs)) passes) ∙ e)) (all 0 x (omega arith))
      | inr fails ↦ found_holds P test xs t (λ k d lt. all (suc k) d (omega (arith, lt))) (sym (ap (λ b. cond b (Some x) (find test xs)) fails) ∙ e)
    ] where
      one_found : {X : Type 0} (x y : X) → Some x ≡ Some y → x ≡ y
      one_found x y e = cc
