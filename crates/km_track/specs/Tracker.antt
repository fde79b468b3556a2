use Rattle.std.specs.Prelude.{◌≡◌, ◌⊎◌, ℕ, ◌+◌, ◌-◌, ◌<◌, ◌≤◌, Bool, true, false, ◌&&◌, ◌||◌, not, nat_lt, ◌==◌, List, [], ◌∷◌, ◌++◌, map, filter, find, Option, Some, None, if◌then◌else◌}
use Rattle.std.specs.List.{list_any}
use Rattle.km_base.specs.declared.spans.Span.{Span}
use Rattle.km_model.specs.Blocks.{Block, AtLeast, needs, references_of}
use Rattle.km_state.specs.State.{Tracked, fresh}
use Rattle.km_model.specs.Scan.{differs}
use Rattle.km_record.specs.declared.record.Record.{Record}
use Rattle.km_record.specs.declared.kinds.Note.{Note}
use Rattle.km_record.specs.declared.kinds.RecId.{RecId}
use Rattle.km_record.specs.Records.{block_of, kept_after, noted}

-- a live block with the slot of its record
pub record Live : Type 0 where
  pub slot : ℕ
  pub tracked : Tracked

-- what a tracker is seen as: its live blocks in order of registration, the ids of those that wait to be
-- scanned, how many registrations there were, and how many more blocks it takes
pub record Tracker : Type 0 where
  pub live : List Live
  pub queue : List ℕ
  pub registered : ℕ
  pub spare : ℕ

-- the live blocks without their slots
abbrev pub tracked_in : Tracker → List Tracked
tracked_in t = map (λ (l : Live). l.tracked) t.live

-- what a record says of the block with an id
abbrev pub tracked_of : ℕ → Record → Tracked
tracked_of id r = record {
  block = block_of id r;
  count = r.count;
  kept = r.sum;
  flagged = r.flagged;
  white_last = r.white_last;
}

-- the id of a live block
abbrev pub id_of : Live → RecId
id_of l = record { slot = l.slot; generation = l.tracked.block.id }

-- whether an id is that of a block
abbrev pub is_id : RecId → Live → Bool
is_id id l = l.slot == id.slot && l.tracked.block.id == id.generation

-- whether an id is that of a live block
abbrev pub is_live : RecId → Tracker → Bool
is_live id t = list_any (is_id id) t.live

-- the live block with an id
abbrev pub live_with : RecId → Tracker → Option Live
live_with id t = find (is_id id) t.live

-- the first live block that passes
abbrev pub live_where : (Block → Bool) → Tracker → Option Live
live_where test t = find (λ (l : Live). test l.tracked.block) t.live

-- the first of these blocks
abbrev pub first_live : List Live → Option Live
first_live [] = None
first_live (l ∷ ls) = Some l

-- the block that was registered behind the one with an id
abbrev pub live_behind : RecId → List Live → Option Live
live_behind id [] = None
live_behind id (l ∷ ls) = if is_id id l then first_live ls else live_behind id ls

-- the live blocks from this one on
abbrev pub live_from : Option RecId → List Live → List Live
live_from None ls = []
live_from (Some id) [] = []
live_from (Some id) (l ∷ ls) = if is_id id l then l ∷ ls else live_from (Some id) ls

-- whether a block begins at an address
abbrev pub begins : ℕ → Block → Bool
begins a b = b.start == a

-- whether a block has a byte in common with a span
abbrev pub meets : Span → Block → Bool
meets s b = nat_lt b.start (s.start.0 + s.size) && nat_lt s.start.0 (b.start + b.size)

-- the tracker with the blocks that pass changed
abbrev pub changed : (Live → Bool) → (Tracked → Tracked) → Tracker → Tracker
changed test change t = record t { live = map (λ (l : Live). if test l then record l { tracked = change l.tracked } else l) t.live }

-- the tracker with the blocks at an address changed
abbrev pub changed_at : ℕ → (Block → Block) → Tracker → Tracker
changed_at a change t = changed (λ (l : Live). begins a l.tracked.block) (λ (u : Tracked). record u { block = change u.block }) t

-- a block after a note
abbrev pub tracked_noted : Note → Tracked → Tracked
tracked_noted note u = record u { block = noted note u.block; kept = kept_after note u.kept }

-- the tracker with an id at the end of the queue
abbrev pub queued : Bool → ℕ → Tracker → Tracker
queued now id t = if now then record t { queue = t.queue ++ id ∷ [] } else t

-- a block that is registered
abbrev pub new_block : ℕ → Span → ℕ → ℕ → Block
new_block id span references born = record {
  id = id;
  start = span.start.0;
  size = span.size;
  born = born;
  minimum = AtLeast references;
  no_scan = false;
  areas = [];
  excess = None;
}

-- the tracker with a block registered last, in a slot
abbrev pub registered_in : ℕ → Span → ℕ → ℕ → Tracker → Tracker
registered_in slot span references born t = record {
  live = t.live ++ record { slot = slot; tracked = fresh (new_block t.registered span references born) } ∷ [];
  queue = t.queue;
  registered = t.registered + 1;
  spare = t.spare - 1;
}

-- whether an id is that of a block at an address
abbrev pub is_at : ℕ → ℕ → List Live → Bool
is_at a id ls = list_any (λ (l : Live). begins a l.tracked.block && l.tracked.block.id == id) ls

-- the tracker without the blocks at an address
abbrev pub unregistered_at : ℕ → Tracker → Tracker
unregistered_at a t = record {
  live = filter (λ (l : Live). not (begins a l.tracked.block)) t.live;
  queue = filter (λ n. not (is_at a n t.live)) t.queue;
  registered = t.registered;
  spare = t.spare + 1;
}

-- the lowest live block that has a byte in common with a span
pub record IsLowest (span : Span) (t : Tracker) (id : RecId) : Type 0 where
  pub block : Live
  pub is : live_with id t ≡ Some block
  pub meeting : meets span block.tracked.block ≡ true
  pub lowest : (other : Live) → live_with (id_of other) t ≡ Some other → meets span other.tracked.block ≡ true → block.tracked.block.start ≤ other.tracked.block.start

-- a block after a hit
abbrev pub counted : Tracked → Tracked
counted u = record u { count = u.count + 1 }

-- a block after its sum was taken
abbrev pub summed : ℕ → Tracked → Tracked
summed sum u = record u { count = if differs u.kept sum then references_of u.block else u.count; kept = Some sum }

-- a block after a verdict
abbrev pub judged : Bool → Tracked → Tracked
judged white u = record u { flagged = white || u.flagged; white_last = white }

-- the tracker where a scan begins: nothing was counted, and the blocks that need no reference are queued
abbrev pub scan_started : Tracker → Tracker
scan_started t = record t {
  live = map (λ (l : Live). record l { tracked = record l.tracked { count = 0 } }) t.live;
  queue = map (λ (l : Live). l.tracked.block.id) (filter (λ (l : Live). needs 0 l.tracked.block) t.live);
}

-- ids rise in order of registration, from one on and below another: no two blocks have one id
abbrev pub AreRising : ℕ → List Live → ℕ → Type 0
AreRising low [] high = low ≤ high
AreRising low (l ∷ ls) high = (low ≤ l.tracked.block.id) × AreRising (l.tracked.block.id + 1) ls high

-- of two blocks, one ends where the other begins or before
abbrev pub AreApart : Block → Block → Type 0
AreApart b c = (b.start + b.size ≤ c.start) ⊎ (c.start + c.size ≤ b.start)

-- a block is apart from each of these
abbrev pub IsApartFrom : Block → List Live → Type 0
IsApartFrom b [] = Unit {0}
IsApartFrom b (l ∷ ls) = AreApart b l.tracked.block × IsApartFrom b ls

-- each block has bytes, and no two have one in common
abbrev pub NeverMeet : List Live → Type 0
NeverMeet [] = Unit {0}
NeverMeet (l ∷ ls) = (0 < l.tracked.block.size) × IsApartFrom l.tracked.block ls × NeverMeet ls
