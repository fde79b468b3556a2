use Rattle.std.specs.Prelude.{◌≡◌, ℕ, ◌+◌, ◌*◌, ◌/◌, ◌<◌, ◌≤◌, ◌^◌, Bool, true, false, not, ◌&&◌, ◌||◌, ◌⊎◌, ◌==◌, nat_le, nat_lt, List, slice_index_or, slice_set, length, Option, Some, None, option_map, Result, Ok, Err}
use Rattle.std.specs.List.{list_any, All}
use Rattle.km_base.specs.declared.sizes.TheConstants.{PAGE, PAGE_WORDS}
use Rattle.km_base.specs.declared.spans.Span.{Span}
use Rattle.km_base.specs.declared.acts.Answer.{Answer}
use Rattle.km_base.specs.declared.acts.Answer.TheVariants.{At, Refused}
use Rattle.km_base.specs.declared.acts.Refusal.TheVariants as refusal
use Rattle.km_marks.specs.Sets.{has, with_mark}
use Rattle.km_model.specs.Placement.{Allocation, LargeRun, is_slab_block, kmalloc_place, kmalloc_span, page_start}
use Rattle.km_model.specs.Answers.{unless, at_place, is_bad_size}
use Rattle.km_pages.specs.declared.errors.NoRoom.{NoRoom}
use Rattle.km_pages.specs.declared.runs.Use.TheVariants.{Slab}
use Rattle.km_pages.specs.declared.runs.Run.{Run}
use Rattle.km_pages.specs.Runs.{IsTaken, run_from}
use Rattle.km_slab.specs.declared.errors.SlabFault.{SlabFault}
use Rattle.km_slab.specs.declared.errors.SlabFault.TheVariants as fault

-- the slab pages: the size of each page's slots, if it is one, and the set of the slots that have a live block
pub record Sheets : Type 0 where
  pub classes : List (Option ℕ)
  pub live : List ℕ

-- the class of a page, if it is a slab page
abbrev pub class_at : Sheets → ℕ → Option ℕ
class_at sheets p = slice_index_or sheets.classes p None

-- whether a slot of a page has a live block: the slots of a page are numbered from 512 times its number on
abbrev pub is_live : Sheets → ℕ → ℕ → Bool
is_live sheets p i = has sheets.live (PAGE_WORDS * p + i)

-- where a slot begins
abbrev pub slot_start : ℕ → ℕ → ℕ → ℕ
slot_start class p i = page_start p + class * i

-- whether an allocation is the block of a slot
abbrev pub is_slot : ℕ → ℕ → Allocation → Bool
is_slot class a x = is_slab_block x && x.size == class && x.start == a

-- a live slot of this size begins here, in a page of its class
pub record IsSlot (sheets : Sheets) (size a : ℕ) : Type 0 where
  pub page : ℕ
  pub place : ℕ
  pub class : class_at sheets page ≡ Some size
  pub fits : size * (place + 1) ≤ PAGE
  pub start : a ≡ slot_start size page place
  pub live : is_live sheets page place ≡ true

-- one live slot more, and all others are as they were
pub record Gains (sheets new : Sheets) (size a : ℕ) : Type 0 where
  pub fresh : (n : ℕ) → IsSlot sheets n a → ⊥
  pub live : IsSlot new size a
  pub still : (n b : ℕ) → IsSlot sheets n b → IsSlot new n b
  pub back : (n b : ℕ) → IsSlot new n b → IsSlot sheets n b ⊎ ((n ≡ size) × (b ≡ a))

-- one live slot fewer, and all others are as they were
pub record Loses (sheets new : Sheets) (a : ℕ) : Type 0 where
  pub still : (n b : ℕ) → IsSlot sheets n b → (b ≡ a → ⊥) → IsSlot new n b
  pub back : (n b : ℕ) → IsSlot new n b → IsSlot sheets n b × (b ≡ a → ⊥)

-- a slot was taken of a page of its class, which has another live one
pub record TakesOpen (sheets new : Sheets) (pages new_pages : List (Option Run)) (size page : ℕ) : Type 0 where
  pub class : class_at sheets page ≡ Some size
  pub other : (i : ℕ) × (size * (i + 1) ≤ PAGE) × (is_live sheets page i ≡ true)
  pub classes : new.classes ≡ sheets.classes
  pub pages_stay : new_pages ≡ pages

-- a slot was taken of a page that was free
pub record TakesFree (sheets new : Sheets) (pages new_pages : List (Option Run)) (size page : ℕ) : Type 0 where
  pub within : page < length sheets.classes
  pub none : class_at sheets page ≡ None
  pub dead : (i : ℕ) → i < PAGE_WORDS → is_live sheets page i ≡ false
  pub classes : new.classes ≡ slice_set sheets.classes page (Some size)
  pub taken : IsTaken pages new_pages Slab (page_start page) 1

-- a slot of a page was taken, and nothing else happened
pub record TakesSlot (sheets new : Sheets) (pages new_pages : List (Option Run)) (size page place : ℕ) : Type 0 where
  pub marked : new.live ≡ with_mark sheets.live (PAGE_WORDS * page + place)
  pub there : TakesOpen sheets new pages new_pages size page ⊎ TakesFree sheets new pages new_pages size page

-- the slot that begins here was taken, and nothing else happened
pub record Takes (sheets new : Sheets) (pages new_pages : List (Option Run)) (size a : ℕ) : Type 0 where
  pub page : ℕ
  pub place : ℕ
  pub class : class_at new page ≡ Some size
  pub fits : size * (place + 1) ≤ PAGE
  pub start : a ≡ slot_start size page place
  pub live : is_live new page place ≡ true
  pub takes : TakesSlot sheets new pages new_pages size page place

-- the slab blocks among the live allocations are the live slots of these pages
pub record AreBlocks (sheets : Sheets) (used : List Allocation) : Type 0 where
  pub slots : All (λ (x : Allocation). is_slab_block x ≡ true → IsSlot sheets x.size x.start) used
  pub live : (p class i : ℕ) → class_at sheets p ≡ Some class → i < PAGE / class → is_live sheets p i ≡ true → list_any (is_slot class (slot_start class p i)) used ≡ true

-- the answer to a request, among these allocations
abbrev pub kmalloc_answer : ℕ → List Allocation → ℕ → Answer
kmalloc_answer words used size = unless (is_bad_size 32768 size) refusal.BadSize (at_place (kmalloc_place words used size))

-- a result as an answer
abbrev pub answer_of : Result Span SlabFault → Answer
answer_of (Ok s) = At s.start.0
answer_of (Err fault.BadSize) = Refused refusal.BadSize
answer_of (Err fault.NoRoom) = Refused refusal.NoRoom

-- an allocation of a block of this size here: a slab block up to a page, which may be a head, else a large one
pub record IsBlock (size a : ℕ) (x : Allocation) : Type 0 where
  pub start : x.start ≡ a
  pub span : x.size ≡ kmalloc_span size
  pub small : is_slab_block x ≡ nat_le size PAGE
  pub large : nat_le size PAGE ≡ false → x.«use» ≡ LargeRun

-- whether an allocation is a block of whole pages
abbrev pub is_large : Allocation → Bool
is_large x = elim x.«use» [ LargeRun ↦ true | _ ↦ false ]

-- whether such a block begins here
abbrev pub is_large_at : ℕ → Allocation → Bool
is_large_at a x = is_large x && x.start == a

-- whether a block of this host begins here
abbrev pub is_block_at : ℕ → Allocation → Bool
is_block_at a x = (is_slab_block x || is_large x) && x.start == a

-- where a block was placed, if it was
abbrev pub start_of : Result Span NoRoom → Option ℕ
start_of (Ok s) = Some s.start.0
start_of (Err _) = None

-- the slab pages are the runs of that use, one page each, and each has a live block
pub record Fits (sheets : Sheets) (pages : List (Option Run)) : Type 0 where
  pub count : length sheets.classes ≡ length pages
  pub runs : (p : ℕ) → run_from pages Slab p ≡ option_map (λ _. 1) (class_at sheets p)
  pub some : (p class : ℕ) → class_at sheets p ≡ Some class → (i : ℕ) × (class * (i + 1) ≤ PAGE) × (is_live sheets p i ≡ true)

-- the lowest free slot of a page of this class
abbrev pub IsFreeAt : Sheets → ℕ → ℕ → ℕ → Type 0
IsFreeAt sheets class p i = (class_at sheets p ≡ Some class) × (i < PAGE / class) × (is_live sheets p i ≡ false) × ((j : ℕ) → j < i → is_live sheets p j ≡ true)

-- a page of a class has a free slot
abbrev pub HasFree : Sheets → ℕ → ℕ → Type 0
HasFree sheets class p = (class_at sheets p ≡ Some class) × (i : ℕ) × (i < PAGE / class) × (is_live sheets p i ≡ false)

-- a page has none
abbrev pub IsFull : Sheets → ℕ → ℕ → Type 0
IsFull sheets class p = class_at sheets p ≡ Some class → (j : ℕ) → j < PAGE / class → is_live sheets p j ≡ true

-- a size that slots can have
abbrev pub IsSize : ℕ → Type 0
IsSize class = (8 ≤ class) × (class ≤ PAGE) × (8 * (class / 8) ≡ class)

-- whether a page of this class has a slot of this number
abbrev pub has_place : Option ℕ → ℕ → Bool
has_place None i = false
has_place (Some class) i = nat_lt i (PAGE / class)

-- the marks of slab pages: the free slots are those that are not live, and each class has a row of its pages with free slots
pub record AreMarks (classes : List (Option ℕ)) (free live opened : List ℕ) (row : ℕ) : Type 0 where
  pub short : length classes < 2 ^ 32
  pub free_words : length free ≡ 8 * length classes
  pub live_words : length live ≡ 8 * length classes
  pub rows : row ≡ length classes / 64 + 1
  pub open_words : length opened ≡ 513 * row
  pub sizes : (p class : ℕ) → slice_index_or classes p None ≡ Some class → IsSize class
  pub free_is : (p i : ℕ) → i < PAGE_WORDS → has free (PAGE_WORDS * p + i) ≡ (has_place (slice_index_or classes p None) i && not (has live (PAGE_WORDS * p + i)))
  pub live_in : (p i : ℕ) → i < PAGE_WORDS → has live (PAGE_WORDS * p + i) ≡ true → has_place (slice_index_or classes p None) i ≡ true
  pub open_has : (p k : ℕ) → p < 64 * row → has opened (64 * (row * k) + p) ≡ true → (slice_index_or classes p None ≡ Some (8 * k)) × (i : ℕ) × (i < PAGE_WORDS) × (has free (PAGE_WORDS * p + i) ≡ true)
  pub open_all : (p class i : ℕ) → slice_index_or classes p None ≡ Some class → i < PAGE_WORDS → has free (PAGE_WORDS * p + i) ≡ true → has opened (64 * (row * (class / 8)) + p) ≡ true
