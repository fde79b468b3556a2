use Rattle.std.specs.Prelude.{◌≡◌, ℕ, ◌+◌, ◌*◌, ◌<◌, ◌≤◌, ◌≢◌, ◌^◌, Bool, true, false, ◌&&◌, ◌==◌, length, ◌∷◌, Option, Some, None, if◌then◌else◌}
use Rattle.km_base.specs.declared.acts.Act.{Act}
use Rattle.km_base.specs.declared.acts.Act.TheVariants.{Kmalloc, Load, Step}
use Rattle.km_base.specs.declared.acts.Answer.{Answer}
use Rattle.km_base.specs.declared.acts.Answer.TheVariants.{At, Loaded}
use Rattle.km_model.specs.History.{History}
use Rattle.km_model.specs.Memory.{base}
use Rattle.km_model.specs.Blocks.{Block}
use Rattle.km_model.specs.Placement.{Allocation, kmalloc_span}
use Rattle.km_model.specs.Tasks.{Task}
use Rattle.km_model.specs.World.{World}
use Rattle.km_model.specs.Past.{Past, Place, ScanLoad, world, last_load, begins, is_loaded, scans}
use Rattle.km_model.specs.Scan.{next}
use Rattle.km_model.specs.Answers.{answer}
use Rattle.km_model.specs.Follows.{Follows, moment, past_of}
use Rattle.km_model.specs.Headline.{IsMemorySize}
use Rattle.km_laws.specs.Members.{Each, Pairs}
use Rattle.km_laws.specs.Left.{left, total}
use Rattle.km_laws.specs.Placed.{AllocationsApart, BlocksApart, InMemory, WholeWords, BlockPlaced, StackPlaced}

-- what stands at a moment is placed: live allocations are whole words of the memory and never meet; each live block
-- is whole words of one, and no two blocks meet, so that they have no more bytes than the memory; the stack of each task
-- is one, and no two tasks have the same
pub record IsPlaced (words : ℕ) (w : World) : Type 0 where
  pub allocations : Each (λ (x : Allocation). (0 < x.size) × InMemory words x.start x.size × WholeWords x.start x.size) w.used
  pub allocations_apart : Pairs AllocationsApart w.used
  pub blocks : Each (BlockPlaced w.used) w.blocks
  pub blocks_apart : Pairs BlocksApart w.blocks
  pub room : total (λ (b : Block). b.size) w.blocks ≤ 8 * words
  pub stacks : Each (StackPlaced w.used) w.tasks
  pub stacks_apart : Pairs (λ (t u : Task). t.stack ≢ u.stack) w.tasks

-- at each moment of a history that follows, what stands is placed
abbrev pub AllIsPlaced : Type 0
AllIsPlaced = (words : ℕ) (h : History) → IsMemorySize words → Follows words h → IsPlaced words (world (past_of h))

-- the next load of a scan names a word of the memory
abbrev pub NextIsAWord : Type 0
NextIsAWord =
    (words : ℕ) (h : History) (place : Place) → IsMemorySize words → Follows words h → next (past_of h) ≡ Some place
    → (i : ℕ) × (i < words) × (place.word ≡ base + 8 * i)

-- two blocks have different ids, below the number of those ever registered; two tasks different numbers, up to that of those ever started
pub record HasNames (w : World) : Type 0 where
  pub ids : Pairs (λ (b c : Block). b.id < c.id) w.blocks
  pub registered : Each (λ (b : Block). b.id < w.registered) w.blocks
  pub numbers : Pairs (λ (t u : Task). t.number < u.number) w.tasks
  pub started : Each (λ (t : Task). t.number ≤ w.started) w.tasks

-- at each moment of a history the ids of the blocks and the numbers of the tasks rise
abbrev pub NamesRise : Type 0
NamesRise = (h : History) → HasNames (world (past_of h))

-- an event registers at most two blocks, starts at most one task and begins at most one scan; one block is there at first
pub record AreFew (h : History) : Type 0 where
  pub registered : (world (past_of h)).registered ≤ 2 * length h + 1
  pub started : (world (past_of h)).started ≤ length h
  pub scans : scans (past_of h) ≤ length h

abbrev pub NamesAreFew : Type 0
NamesAreFew = (h : History) → AreFew h

-- whether a load goes on with the holder of the last one, in its phase. A scanner moves to each other one
abbrev pub goes_on : Option ScanLoad → Place → Bool
goes_on None place = false
goes_on (Some l) place = place.phase == l.place.phase && place.holder == l.place.holder

-- each load of the scan lowers what is left by one, and by two with a move
abbrev pub LoadsLower : Type 0
LoadsLower =
    (h : History) (place : Place) (value : ℕ) → next (past_of h) ≡ Some place
    → left (moment (past_of h) Step (Loaded place.word value) ∷ past_of h) + (if goes_on (last_load (past_of h)) place then 1 else 2) ≤ left (past_of h)

-- no event but the begin of a scan, registering a block and starting a task raises it
abbrev pub NothingRaises : Type 0
NothingRaises =
    (h : History) (act : Act) (given : Answer) → begins act given ≡ false
    → (world (moment (past_of h) act given ∷ past_of h)).registered ≡ (world (past_of h)).registered
    → (world (moment (past_of h) act given ∷ past_of h)).started ≡ (world (past_of h)).started
    → left (moment (past_of h) act given ∷ past_of h) ≤ left (past_of h)

-- at each moment it is at most twice the words and three times the live blocks, and one
abbrev pub LeftIsBounded : Type 0
LeftIsBounded =
    (words : ℕ) (h : History) → IsMemorySize words → Follows words h → left (past_of h) ≤ 2 * words + 3 * length (world (past_of h)).blocks + 1

-- whether an act can be answered by a load
abbrev pub may_load : Act → Bool
may_load (Load _ _ _) = true
may_load Step = true
may_load _ = false

-- no other act is
abbrev pub OnlyLoadsLoad : Type 0
OnlyLoadsLoad = (words : ℕ) (past : Past) (act : Act) (value : ℕ) → may_load act ≡ false → is_loaded (answer words past act value) ≡ false

-- a block for a request of so many bytes lies at an address: it is whole words of the memory, and ends below 2^64
pub record BlockLies (words size a : ℕ) : Type 0 where
  pub small : size ≤ 32768
  pub whole : WholeWords a (kmalloc_span size)
  pub inside : InMemory words a (kmalloc_span size)
  pub end : a + kmalloc_span size < 2 ^ 64

-- where a request is answered by an address, such a block lies there
abbrev pub BlocksLie : Type 0
BlocksLie =
    (words : ℕ) (h : History) (size a value : ℕ) → IsMemorySize words → Follows words h → answer words (past_of h) (Kmalloc size) value ≡ At a
    → BlockLies words size a
