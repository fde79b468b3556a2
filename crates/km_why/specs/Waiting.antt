-- The blocks that wait: those that have enough references and aren't in the list yet.
use Rattle.std.specs.Prelude.{◌≡◌, ℕ, ◌≤◌, Bool, true, false, ◌&&◌, ◌||◌, not, nat_eq, nat_le, nat_lt, List, ◌++◌, ◌∷◌, [], length, map, filter, sum_by}
use Rattle.std.specs.List.{list_any}
use Rattle.std.specs.BinaryHeap.{IsHeap}
use Rattle.std.specs.Ordering.{nat_cmp, ordering_then}
use Rattle.std.specs.declared.cmp.Ordering.{Ordering}
use Rattle.std.specs.declared.cmp.Reverse.{Reverse}
use Rattle.km_model.specs.Blocks.{Block, Minimum, Black, AtLeast, needs}
use Rattle.km_model.specs.Members.{Each, In}
use Rattle.km_model.specs.Memory.{index_of}
use Rattle.km_record.specs.declared.kinds.RecId.{RecId}
use Rattle.km_record.specs.declared.record.Record.{Record}
use Rattle.km_track.specs.Tracker.{AreRising, Live, Tracker, id_of, tracked_of}
use Rattle.km_words.specs.Told.{Told}
use Rattle.km_why.specs.declared.counts.Count.{Count}
use Rattle.km_why.specs.Counts.{AreSpread, HaveRoom, count_at}
use Rattle.km_why.specs.Told.{TellsAll, blocks_of, memory_of}

-- what a heap keeps of a block
abbrev pub Key : Type 0
Key = Reverse ℕ × ℕ

abbrev pub key_of : RecId → Key
key_of id = (record { 0 = id.generation }, id.slot)

-- the greatest is the first in order of registration
abbrev pub first_comes_first : Key → Key → Ordering
first_comes_first x y = ordering_then (nat_cmp y.0.0 x.0.0) (nat_cmp x.1 y.1)

-- whether so many references are just enough
abbrev pub is_ripening : Minimum → ℕ → Bool
is_ripening m found = elim m [ Black ↦ false | AtLeast n ↦ nat_eq n found ]

-- whether a block needs references and has enough
abbrev pub is_ripe : List Count → Block → Bool
is_ripe counts b = elim b.minimum [ Black ↦ false | AtLeast n ↦ nat_lt 0 n && nat_le n (count_at counts (index_of b.start)).found ]

-- whether it waits
abbrev pub is_waiting : List Count → List Block → Block → Bool
is_waiting counts members b = is_ripe counts b && not (list_any (λ (c : Block). nat_eq c.id b.id) members)

-- the keys of those that wait
abbrev pub waiting_keys : List Live → List Count → List Block → List Key
waiting_keys live counts members = map (λ (l : Live). key_of (id_of l)) (filter (λ (l : Live). is_waiting counts members l.tracked.block) live)

-- a heap has the keys of those that wait, so that each sum over them is the same, and room for all live blocks, and each member is live and has enough
pub record AreWaiting (live : List Live) (counts : List Count) (members : List Block) (keys : List Key) (len capacity : ℕ) : Type 0 where
  pub keys_are : (f : Key → ℕ) → sum_by f keys ≡ sum_by f (waiting_keys live counts members)
  pub len_is : len ≡ length keys
  pub room : length live ≤ capacity
  pub ordered : IsHeap first_comes_first keys
  pub among : Each (λ (m : Block). (l : Live) × In l live × (l.tracked.block ≡ m)) members
  pub enough : Each (λ (m : Block). (needs 0 m || is_ripe counts m) ≡ true) members

-- the live blocks are in order of registration, and each has a place of its own
pub record ArePlaced (live : List Live) (high : ℕ) : Type 0 where
  pub rise : AreRising 0 live high
  pub own : (y z : Live) → In y live → In z live → index_of y.tracked.block.start ≡ index_of z.tracked.block.start → y.tracked.block.id ≡ z.tracked.block.id

-- the live block with an id and a record
abbrev pub live_as : RecId → Record → Live
live_as id r = record { slot = id.slot; tracked = tracked_of id.generation r }

-- some blocks are the members so far
pub record HaveMembers (live : List Live) (counts : List Count) (keys : List Key) (len capacity : ℕ) : Type 0 where
  pub members : List Block
  pub waiting : AreWaiting live counts members keys len capacity

-- a live block waits from the reference on that makes enough, and the heap has room for it
pub record CanWait (counts : List Count) (keys : List Key) (len capacity : ℕ) (id : RecId) (r : Record) : Type 0 where
  pub live : List Live
  pub high : ℕ
  pub placed : ArePlaced live high
  pub there : In (live_as id r) live
  pub members : HaveMembers live counts keys len capacity

-- a key is that of the first live block that waits
pub record IsFirst (live : List Live) (counts : List Count) (members : List Block) (key : Key) : Type 0 where
  pub it : Live
  pub there : In it live
  pub its : key_of (id_of it) ≡ key
  pub waits : is_waiting counts members it.tracked.block ≡ true
  pub least : (l : Live) → In l live → is_waiting counts members l.tracked.block ≡ true → it.tracked.block.id ≤ l.tracked.block.id

-- it leaves the heap and is the next member
pub record IsTaken (live : List Live) (counts : List Count) (members : List Block) (keys : List Key) (len capacity : ℕ) (key : Key) : Type 0 where
  pub first : IsFirst live counts members key
  pub waiting : AreWaiting live counts (members ++ first.it.tracked.block ∷ []) keys len capacity

-- some more words can be counted: they are told, the live blocks lie in their memory, the table has a place for each
-- word, and there is room in each count and in the heap
pub record CanCount (u : Told) (t : Tracker) (counts : List Count) (keys : List Key) (len capacity : ℕ) (more : List ℕ) : Type 0 where
  pub told : TellsAll u
  pub spread : AreSpread u.size t
  pub long : u.size ≤ length counts
  pub room : HaveRoom (memory_of u) (blocks_of t) counts more
  pub waits : HaveMembers t.live counts keys len capacity
