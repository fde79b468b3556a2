-- What the table of references and the heap of those that wait have to do with lists.
use Rattle.std.specs.Prelude.{◌≡◌, ℕ, ◌≤◌, true, false, Bool, List, [], length, Some, None, find}
use Rattle.std.specs.BinaryHeap.{IsHeap}
use Rattle.km_certificates.specs.Certificates.{is_member, may_follow}
use Rattle.km_model.specs.Blocks.{Block, needs}
use Rattle.km_model.specs.Members.{Each, In, Pairs}
use Rattle.km_model.specs.Tasks.{Task}
use Rattle.km_track.specs.Tracker.{AreRising, Live, Tracker}
use Rattle.km_why.specs.declared.counts.Count.{Count}
use Rattle.km_why.specs.Counts.{AreCounted}
use Rattle.km_why.specs.References.{sources}
use Rattle.km_why.specs.Told.{AreApart, AreLaidOut, blocks_of, stacks_of, standing_of}
use Rattle.km_why.specs.Waiting.{AreWaiting, IsFirst, Key, first_comes_first, is_waiting}

-- a table stands for the references from the stacks and from these members, which are live blocks, no two of them one,
-- with all that need no reference among them
pub record StandsFor (t : Tracker) (tasks : List Task) (stacks : Bool) (memory : List ℕ) (members : List Block) (counts : List Count) : Type 0 where
  pub rising : AreRising 0 t.live t.registered
  pub laid : AreLaidOut (length memory) (blocks_of t) tasks
  pub inside : Each (λ (b : Block). In b (blocks_of t)) members
  pub apart : Pairs (λ (b c : Block). AreApart b.start b.size c.start c.size) members
  pub roots : Each (λ (b : Block). needs 0 b ≡ true → is_member members b ≡ true) (blocks_of t)
  pub counted : AreCounted memory (blocks_of t) (sources (stacks_of stacks tasks) members) counts

-- the first of those that wait is the first that may follow the members
abbrev pub TheFirstFollows : Type 0
TheFirstFollows =
    (t : Tracker) (tasks : List Task) (stacks : Bool) (memory : List ℕ) (members : List Block) (counts : List Count) (key : Key) → StandsFor t tasks stacks memory members counts
    → (f : IsFirst t.live counts members key) → find (may_follow (standing_of t tasks stacks memory) members) (blocks_of t) ≡ Some (f.it).tracked.block

-- where none waits, none may follow
abbrev pub NoneFollows : Type 0
NoneFollows =
    (t : Tracker) (tasks : List Task) (stacks : Bool) (memory : List ℕ) (members : List Block) (counts : List Count) → StandsFor t tasks stacks memory members counts
    → ((l : Live) → In l t.live → is_waiting counts members l.tracked.block ≡ false) → find (may_follow (standing_of t tasks stacks memory) members) (blocks_of t) ≡ None

-- where a table stands for no words, none waits, so an empty heap has the keys of those that wait
abbrev pub NoneWaitAtFirst : Type 0
NoneWaitAtFirst =
    (memory : List ℕ) (t : Tracker) (counts : List Count) (keys : List Key) (capacity : ℕ) → AreCounted memory (blocks_of t) [] counts → keys ≡ [] → length t.live ≤ capacity
    → IsHeap first_comes_first keys → AreWaiting t.live counts [] keys 0 capacity
