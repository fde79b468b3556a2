-- What the hosts of a memory are seen as, and which live allocations they hold.
use Rattle.std.specs.Prelude.{◌≡◌, ℕ, ◌*◌, ◌||◌, nat_lt, List, [], ◌∷◌, ◌++◌, length, Option, Result, Ok, Err}
use Rattle.km_base.specs.declared.sizes.TheConstants.{PAGE_WORDS}
use Rattle.km_base.specs.declared.spans.Addr.{Addr}
use Rattle.km_base.specs.declared.spans.Span.{Span}
use Rattle.km_base.specs.declared.acts.Answer.{Answer}
use Rattle.km_base.specs.declared.acts.Answer.TheVariants.{At, Done, Refused}
use Rattle.km_base.specs.declared.acts.Refusal.{Refusal}
use Rattle.km_base.specs.declared.acts.Refusal.TheVariants.{BadSize}
use Rattle.km_model.specs.Placement.{Allocation, Use, pages_for, run_place}
use Rattle.km_model.specs.Answers.{at_place, is_bad_size, is_uneven, unless}
use Rattle.km_model.specs.Members.{Pairs}
use Rattle.km_pages.specs.declared.runs.Run.{Run}
use Rattle.km_pages.specs.Laid.{AreLaid}
use Rattle.km_slab.specs.Blocks.{AreBlocks, Sheets, Fits as SlabFits}
use Rattle.km_vmalloc.specs.declared.areas.VmArea.{VmArea}
use Rattle.km_vmalloc.specs.Areas.{AreAreas, Fits as AreasFit}
use Rattle.km_sections.specs.Named.{AreSections}
use Rattle.km_tasks.specs.Roll.{Roll, Fits as TasksFit}

-- the hosts of one memory: the run of each page, the slab pages, the areas by their vmap slots, the sections in order
-- of addition, and the tasks
pub record Hosting : Type 0 where
  pub pages : List (Option Run)
  pub slab : Sheets
  pub areas : List (Option VmArea)
  pub sections : List Allocation
  pub roll : Roll

-- the hosts agree over the pages
pub record Agree (v : Hosting) : Type 0 where
  pub slab : SlabFits v.slab v.pages
  pub areas : AreasFit v.areas v.slab v.pages
  pub tasks : TasksFit v.roll.tasks v.pages

-- these are the live allocations
pub record Hold (v : Hosting) (used : List Allocation) : Type 0 where
  pub laid : AreLaid v.pages used
  pub blocks : AreBlocks v.slab used
  pub areas : AreAreas v.areas used
  pub sections : AreSections v.sections used

-- no two of these allocations begin at one address
abbrev pub StartsDiffer : List Allocation → Type 0
StartsDiffer used = Pairs (λ (x y : Allocation). x.start ≡ y.start → ⊥) used

-- the words of the memory
abbrev pub words_in : Hosting → ℕ
words_in v = PAGE_WORDS * length v.pages

-- the allocations with one more
abbrev pub with_use : List Allocation → Use → ℕ → ℕ → List Allocation
with_use used what start size = used ++ record { «use» = what; start = start; size = size } ∷ []

-- a result as an answer
abbrev pub done : {A : Type 0} → Result A Refusal → Answer
done (Ok _) = Done
done (Err r) = Refused r

abbrev pub at : Result Addr Refusal → Answer
at (Ok a) = At a.0
at (Err r) = Refused r

abbrev pub at_span : Result Span Refusal → Answer
at_span (Ok s) = At s.start.0
at_span (Err r) = Refused r

abbrev pub at_area : Result VmArea Refusal → Answer
at_area (Ok v) = At v.area.start.0
at_area (Err r) = Refused r

-- the answers to a request for pages and for boot memory, among these allocations
abbrev pub pages_answer : ℕ → List Allocation → ℕ → Answer
pages_answer words used n = unless (is_bad_size 1024 n) BadSize (at_place (run_place words used n))

abbrev pub boot_answer : ℕ → List Allocation → ℕ → Answer
boot_answer words used size = unless (is_uneven size || nat_lt 1048576 size) BadSize (at_place (run_place words used (pages_for size)))
