use Rattle.std.specs.Prelude.{◌≡◌, ℕ, ◌+◌, ◌*◌, ◌≤◌, Bool, true, false, ◌==◌, List, [], ◌∷◌, ◌++◌, length, slice_index_or, Option, Some, None, Result, Ok, Err, ◌⊎◌, if◌then◌else◌}
use Rattle.std.specs.List.{All, list_any}
use Rattle.km_base.specs.declared.sizes.TheConstants.{PAGE, VMAP_SLOTS}
use Rattle.km_base.specs.declared.spans.Span.{Span}
use Rattle.km_base.specs.declared.acts.Answer.{Answer}
use Rattle.km_base.specs.declared.acts.Answer.TheVariants.{At, Refused}
use Rattle.km_base.specs.declared.acts.Refusal.TheVariants as refusal
use Rattle.km_model.specs.Placement.{Allocation, HeadBlock, AreaRun, area_place, has_slot, lowest_slab, lowest_slot, page_of, page_start, pages_for, without_allocation}
use Rattle.km_model.specs.Answers.{unless, at_place, is_bad_size}
use Rattle.km_pages.specs.declared.runs.Run.{Run}
use Rattle.km_pages.specs.declared.runs.Use.TheVariants.{Vmalloc}
use Rattle.km_pages.specs.Runs.{run_at, run_from}
use Rattle.km_pages.specs.Laid.{AreLaid}
use Rattle.km_slab.specs.Blocks.{Sheets, AreBlocks, Gains, IsSlot}
use Rattle.km_vmalloc.specs.declared.vmalloc.TheConstants.{PAGES}
use Rattle.km_vmalloc.specs.declared.errors.VmFault.{VmFault}
use Rattle.km_vmalloc.specs.declared.errors.VmFault.TheVariants as fault
use Rattle.km_vmalloc.specs.declared.areas.VmArea.{VmArea}

-- the live area of a vmap slot
abbrev pub area_at : List (Option VmArea) → ℕ → Option VmArea
area_at areas s = slice_index_or areas s None

-- no area is live from a slot on
abbrev pub IsFreeFrom : List (Option VmArea) → ℕ → Type 0
IsFreeFrom areas reach = (s : ℕ) → reach ≤ s → area_at areas s ≡ None

-- there are 512 slots, and each live area has its own
pub record AreKept (areas : List (Option VmArea)) : Type 0 where
  pub count : length areas ≡ VMAP_SLOTS
  pub slots : (s : ℕ) (v : VmArea) → area_at areas s ≡ Some v → v.slot ≡ s

-- how the areas are kept: none is live from a slot on, and each page of a memory has a place for a hint
pub record AreSeen (areas : List (Option VmArea)) (reach : ℕ) (hints : List ℕ) : Type 0 where
  pub kept : AreKept areas
  pub within : reach ≤ length areas
  pub above : IsFreeFrom areas reach
  pub places : length hints ≡ PAGES

-- a head and an area as allocations
abbrev pub head_of : VmArea → Allocation
head_of v = record { «use» = HeadBlock v.slot; start = v.head.start.0; size = v.head.size }

abbrev pub area_of : VmArea → Allocation
area_of v = record { «use» = AreaRun v.slot; start = v.area.start.0; size = v.area.size }

-- a head and an area of a slot, by their spans
abbrev pub as_head : ℕ → Span → Allocation
as_head slot s = record { «use» = HeadBlock slot; start = s.start.0; size = s.size }

abbrev pub as_area : ℕ → Span → Allocation
as_area slot s = record { «use» = AreaRun slot; start = s.start.0; size = s.size }

-- the allocations with a new head and its area, and without both
abbrev pub with_area : List Allocation → VmArea → List Allocation
with_area used v = (used ++ head_of v ∷ []) ++ area_of v ∷ []

abbrev pub without_area : List Allocation → VmArea → List Allocation
without_area used v = without_allocation (without_allocation used v.area.start.0) v.head.start.0

-- whether an allocation is the head of a slot, or begins here as a head
abbrev pub is_head : ℕ → Allocation → Bool
is_head s x = elim x.«use» [ HeadBlock t ↦ t == s | _ ↦ false ]

abbrev pub is_head_at : ℕ → Allocation → Bool
is_head_at a x = elim x.«use» [ HeadBlock _ ↦ x.start == a | _ ↦ false ]

-- whether an allocation is a head or an area
abbrev pub is_part : Allocation → Bool
is_part x = elim x.«use» [ HeadBlock _ ↦ true | AreaRun _ ↦ true | _ ↦ false ]

-- an allocation and a span have no byte in common
abbrev pub IsApart : Span → Allocation → Type 0
IsApart s x = (x.start + x.size ≤ s.start.0) ⊎ (s.start.0 + s.size ≤ x.start)

-- a head or an area is that of the live area with its slot
pub record IsPart (areas : List (Option VmArea)) (s a : ℕ) (start : VmArea → ℕ) : Type 0 where
  pub area : VmArea
  pub live : area_at areas s ≡ Some area
  pub begins : a ≡ start area

abbrev pub head_start : VmArea → ℕ
head_start v = v.head.start.0

abbrev pub area_start : VmArea → ℕ
area_start v = v.area.start.0

-- the heads and areas among the live allocations are those of the live areas
pub record AreAreas (areas : List (Option VmArea)) (used : List Allocation) : Type 0 where
  pub heads : All (λ (x : Allocation). (s : ℕ) → x.«use» ≡ HeadBlock s → IsPart areas s x.start head_start) used
  pub runs : All (λ (x : Allocation). (s : ℕ) → x.«use» ≡ AreaRun s → IsPart areas s x.start area_start) used
  pub head_live : (s : ℕ) (v : VmArea) → area_at areas s ≡ Some v → list_any (is_head s) used ≡ true
  pub area_live : (s : ℕ) (v : VmArea) → area_at areas s ≡ Some v → list_any (has_slot s) used ≡ true

-- the run of a live area is all of it
pub record IsRun (pages : List (Option Run)) (v : VmArea) : Type 0 where
  pub count : ℕ
  pub run : run_at pages Vmalloc v.area.start.0 ≡ Some count
  pub size : v.area.size ≡ PAGE * count

-- a live area begins with a page
pub record HasArea (areas : List (Option VmArea)) (p : ℕ) : Type 0 where
  pub slot : ℕ
  pub area : VmArea
  pub live : area_at areas slot ≡ Some area
  pub begins : area.area.start.0 ≡ page_start p

-- each live area has a head that is a live slab block, and a run of pages; no two have one of these in common,
-- and there are no other runs of that use
pub record Fits (areas : List (Option VmArea)) (slab : Sheets) (pages : List (Option Run)) : Type 0 where
  pub heads : (s : ℕ) (v : VmArea) → area_at areas s ≡ Some v → IsSlot slab 64 v.head.start.0
  pub sizes : (s : ℕ) (v : VmArea) → area_at areas s ≡ Some v → v.head.size ≡ 64
  pub runs : (s : ℕ) (v : VmArea) → area_at areas s ≡ Some v → IsRun pages v
  pub heads_differ : (s t : ℕ) (v w : VmArea) → area_at areas s ≡ Some v → area_at areas t ≡ Some w → v.head.start.0 ≡ w.head.start.0 → s ≡ t
  pub areas_differ : (s t : ℕ) (v w : VmArea) → area_at areas s ≡ Some v → area_at areas t ≡ Some w → v.area.start.0 ≡ w.area.start.0 → s ≡ t
  pub only : (p n : ℕ) → run_from pages Vmalloc p ≡ Some n → HasArea areas p

-- the answer to a request, among these allocations
abbrev pub vmalloc_answer : ℕ → List Allocation → ℕ → Answer
vmalloc_answer words used size =
    unless (is_bad_size 1048576 size) refusal.BadSize
    (unless (lowest_slot used == VMAP_SLOTS) refusal.NoSlot (at_place (area_place words used size)))

-- a result as an answer
abbrev pub answer_of : Result VmArea VmFault → Answer
answer_of (Ok v) = At v.area.start.0
answer_of (Err fault.BadSize) = Refused refusal.BadSize
answer_of (Err fault.NoSlot) = Refused refusal.NoSlot
answer_of (Err fault.NoRoom) = Refused refusal.NoRoom

-- a head and the pages of an area were taken
pub record IsPlaced (pages : List (Option Run)) (slab : Sheets) (new_pages : List (Option Run)) (new_slab : Sheets) (size : ℕ) (head area : Span) : Type 0 where
  pub head_size : head.size ≡ 64
  pub area_size : area.size ≡ PAGE * pages_for size
  pub gains : Gains slab new_slab 64 head.start.0
  pub fresh : run_at pages Vmalloc area.start.0 ≡ None
  pub run : run_at new_pages Vmalloc area.start.0 ≡ Some (pages_for size)
  pub runs : (p : ℕ) → run_from new_pages Vmalloc p ≡ (if p == page_of area.start.0 then Some (pages_for size) else run_from pages Vmalloc p)
  pub lowest : (used : List Allocation) → AreLaid pages used → AreBlocks slab used → head.start.0 ≡ lowest_slab used 64
  pub head_apart : (used : List Allocation) → AreLaid pages used → AreBlocks slab used → All (IsApart head) used
  pub area_apart : (used : List Allocation) (slot : ℕ) → AreLaid pages used → AreBlocks slab used → All (IsApart area) (used ++ as_head slot head ∷ [])
  pub laid : (used : List Allocation) (slot : ℕ) → AreLaid pages used → AreBlocks slab used → AreLaid new_pages ((used ++ as_head slot head ∷ []) ++ as_area slot area ∷ [])
  pub blocks : (used : List Allocation) (slot : ℕ) → AreBlocks slab used → AreBlocks new_slab ((used ++ as_head slot head ∷ []) ++ as_area slot area ∷ [])
