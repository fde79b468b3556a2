-- What a search tells of a list, and how far it has come.
use Rattle.std.specs.Prelude.{◌≡◌, ℕ, ◌≤◌, ◌==◌, Bool, true, false, List, [], ◌∷◌, ◌++◌, length, map, filter, find, Some, None, vec_len, vec_capacity}
use Rattle.std.specs.List.{list_any}
use Rattle.std.specs.BinaryHeap.{heap_capacity, heap_items, heap_len}
use Rattle.km_base.specs.declared.sizes.TheConstants.{MOST_WORDS}
use Rattle.km_certificates.specs.Certificates.{Counted, counted, is_held, is_member, list_of}
use Rattle.km_model.specs.Blocks.{Block, needs, references_of}
use Rattle.km_model.specs.Held.{Standing}
use Rattle.km_model.specs.Members.{Pairs}
use Rattle.km_model.specs.Tasks.{Task}
use Rattle.km_record.specs.declared.kinds.RecId.{RecId}
use Rattle.km_track.specs.Tracker.{AreRising, Live, Tracker, live_with}
use Rattle.km_words.specs.Told.{Told}
use Rattle.km_why.specs.declared.search.Member.{Member}
use Rattle.km_why.specs.declared.search.Search.{Search}
use Rattle.km_why.specs.Counts.{AreCounted, AreSpread}
use Rattle.km_why.specs.References.{sources}
use Rattle.km_why.specs.Told.{AreApart, AreLaidOut, TellsAll, blocks_of, standing_of}
use Rattle.km_why.specs.Waiting.{AreWaiting}

-- the slot of the live block with a number of registration
abbrev pub slot_in : Tracker → ℕ → ℕ
slot_in t id = elim (find (λ (l : Live). l.tracked.block.id == id) t.live) [ None ↦ 0 | Some l ↦ l.slot ]

-- a member of a list as a search tells it
abbrev pub member_in : Tracker → Counted → Member
member_in t c = record {
  id = record { slot = slot_in t c.block.id; generation = c.block.id };
  start = record { 0 = c.block.start };
  min = references_of c.block;
  found = c.found;
}

-- these blocks as a search tells them, each with the references from those before it
abbrev pub members_in : Tracker → Standing → List Block → List Member
members_in t s bs = map (member_in t) (counted s bs)

-- what is known of the words and of the live blocks while a search goes on
pub record CanSearch (u : Told) (t : Tracker) : Type 0 where
  pub told : TellsAll u
  pub small : u.size ≤ MOST_WORDS
  pub rising : AreRising 0 t.live t.registered
  pub spread : AreSpread u.size t

-- there is a place for each word of a memory
pub record HasPlaces (words : ℕ) (s : Search) : Type 0 where
  pub counts : words ≤ length s.counts.items
  pub waiting : words ≤ heap_capacity s.waiting
  pub members : words ≤ vec_capacity s.members

-- no place is lost
pub record KeepsPlaces (old new : Search) : Type 0 where
  pub counts : length new.counts.items ≡ length old.counts.items
  pub waiting : heap_capacity old.waiting ≤ heap_capacity new.waiting
  pub members : vec_capacity new.members ≡ vec_capacity old.members

-- a search tells these blocks, and its table stands for the references from the stacks and from their words. The
-- members are these blocks and perhaps the one that comes next, which waits no more
pub record HasListed (t : Tracker) (stacks : List Task) (memory : List ℕ) (s : Search) (listed members : List Block) : Type 0 where
  pub laid : AreLaidOut (length memory) (blocks_of t) stacks
  pub table : AreCounted memory (blocks_of t) (sources stacks listed) s.counts.items
  pub waiting : AreWaiting t.live s.counts.items members (heap_items s.waiting) (heap_len s.waiting) (heap_capacity s.waiting)
  pub told : s.members.items ≡ members_in t (standing_of t stacks true memory) listed
  pub len : vec_len s.members ≡ length listed
  pub apart : Pairs (λ (b c : Block). AreApart b.start b.size c.start c.size) members
  pub places : length memory ≤ length s.counts.items
  pub room : length memory ≤ vec_capacity s.members

-- a search has listed some blocks, and a live block comes next
pub record CanList (t : Tracker) (memory : List ℕ) (s : Search) (id : RecId) : Type 0 where
  pub stacks : List Task
  pub listed : List Block
  pub it : Live
  pub there : live_with id t ≡ Some it
  pub state : HasListed t stacks memory s listed (listed ++ it.tracked.block ∷ [])

-- these blocks are told, and unless the last is the one that is sought, the references in its words are counted
pub record HasAppended (t : Tracker) (stacks : List Task) (memory : List ℕ) (s : Search) (bs : List Block) (sought : Bool) : Type 0 where
  pub told : s.members.items ≡ members_in t (standing_of t stacks true memory) bs
  pub state : sought ≡ false → HasListed t stacks memory s bs bs

-- a search has listed some blocks, and a live block comes next if it needs no reference
pub record CanListRoot (t : Tracker) (memory : List ℕ) (s : Search) (id : RecId) : Type 0 where
  pub stacks : List Task
  pub roots : List Block
  pub it : Live
  pub there : live_with id t ≡ Some it
  pub new : needs 0 it.tracked.block ≡ true → is_member roots it.tracked.block ≡ false
  pub state : HasListed t stacks memory s roots roots

-- nothing is listed yet
pub record HasBegun (t : Tracker) (memory : List ℕ) (s : Search) : Type 0 where
  pub stacks : List Task
  pub state : HasListed t stacks memory s [] []

-- the blocks that need no reference are listed, and the one that is sought isn't among them
pub record HasRoots (t : Tracker) (stacks : List Task) (memory : List ℕ) (s : Search) (id : ℕ) : Type 0 where
  pub state : HasListed t stacks memory s (filter (needs 0) (blocks_of t)) (filter (needs 0) (blocks_of t))
  pub out : list_any (λ (b : Block). b.id == id) (filter (needs 0) (blocks_of t)) ≡ false

-- the same with some stacks
pub record HaveRoots (t : Tracker) (memory : List ℕ) (s : Search) (id : ℕ) : Type 0 where
  pub stacks : List Task
  pub roots : HasRoots t stacks memory s id

-- a search tells whether a block is held, and its list: where it isn't, all that are
pub record IsAnswered (t : Tracker) (stacks : List Task) (memory : List ℕ) (members : List Member) (id : ℕ) (held : Bool) : Type 0 where
  pub held_is : held ≡ is_held (standing_of t stacks true memory) id
  pub told : members ≡ members_in t (standing_of t stacks true memory) (list_of (standing_of t stacks true memory) id)
