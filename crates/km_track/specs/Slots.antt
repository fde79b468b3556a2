use Rattle.std.specs.Prelude.{◌≡◌, ◌<◌, ◌⊎◌, ◌∷◌, ◌++◌, drop, length, slice_set, ℕ, ◌+◌, Bool, false, ◌||◌, List, [], slice_index_or, Some, None, if◌then◌else◌}
use Rattle.km_base.specs.declared.spans.Addr.{Addr}
use Rattle.km_base.specs.declared.spans.Span.{Span}
use Rattle.km_links.specs.Chains.{first_of, without}
use Rattle.km_model.specs.Scan.{differs}
use Rattle.km_record.specs.declared.record.Record.{Record}
use Rattle.km_record.specs.declared.kinds.Minimum.TheVariants.{Black, AtLeast}
use Rattle.km_record.specs.declared.kinds.Note.{Note}
use Rattle.km_record.specs.Records.{IsSound, with_area, block_of, record_noted}
use Rattle.km_model.specs.Blocks.{needs, references_of}
use Rattle.km_track.specs.declared.slots.Slot.{Slot}

-- a slot that was never used
abbrev pub no_record : Slot
no_record = record {
  generation = 0;
  «record» = record {
    span = record { start = record { 0 = 0 }; size = 0 };
    minimum = Black;
    count = 0;
    no_scan = false;
    areas = [];
    excess = None;
    born = 0;
    sum = None;
    flagged = false;
    white_last = false;
  };
}

-- the record in a slot
abbrev pub slot_at : List Slot → ℕ → Slot
slot_at slots n = slice_index_or slots n no_record

-- a slot after a call that changes its record
abbrev pub with_record : (Record → Record) → Slot → Slot
with_record change x = record { generation = x.generation; «record» = change x.«record» }

abbrev pub slot_noted : Note → Slot → Slot
slot_noted note x = with_record (record_noted note) x

abbrev pub slot_excess : Addr → Slot → Slot
slot_excess to x = with_record (λ (r : Record). record r { excess = Some to }) x

abbrev pub slot_judged : Bool → Slot → Slot
slot_judged white x = with_record (λ (r : Record). record r { flagged = white || r.flagged; white_last = white }) x

abbrev pub slot_counted : Slot → Slot
slot_counted x = with_record (λ (r : Record). record r { count = r.count + 1 }) x

abbrev pub slot_summed : ℕ → Slot → Slot
slot_summed sum x =
    with_record (λ (r : Record). record r { count = if differs r.sum sum then references_of (block_of 0 r) else r.count; sum = Some sum }) x

-- a block that was just registered
abbrev pub slot_new : ℕ → Span → ℕ → ℕ → Slot
slot_new id span references born = record {
  generation = id;
  «record» = record {
    span = span;
    minimum = AtLeast references;
    count = 0;
    no_scan = false;
    areas = None ∷ None ∷ None ∷ None ∷ [];
    excess = None;
    born = born;
    sum = None;
    flagged = false;
    white_last = false;
  };
}

-- the first free slot, or the one behind all others where none is free
abbrev pub next_slot : List Slot → List ℕ → ℕ
next_slot slots [] = length slots
next_slot slots (n ∷ free) = n

-- a record in the first free slot, or behind all others where none is free
abbrev pub IsPlaced : List Slot → List Slot → List ℕ → List ℕ → ℕ → Slot → Type 0
IsPlaced slots new free rest n x =
    ((Some n ≡ first_of free) × (rest ≡ drop 1 free) × (n < length slots) × (new ≡ slice_set slots n x)) ⊎ ((free ≡ []) × (rest ≡ []) × (n ≡ length slots) × (new ≡ slots ++ x ∷ []))

abbrev pub slot_started : Slot → Slot
slot_started x = with_record (λ (r : Record). record r { count = 0 }) x

-- a table in which the count of each of these slots is nothing
abbrev pub started_slots : List Slot → List ℕ → List Slot
started_slots slots [] = slots
started_slots slots (n ∷ ns) = started_slots (slice_set slots n (slot_started (slot_at slots n))) ns

-- a queue with a slot at its end, where it is to be there, and nowhere else
abbrev pub requeued : Bool → ℕ → List ℕ → List ℕ
requeued now n grey = if now then without n grey ++ n ∷ [] else without n grey

-- whether the block in a slot needs no reference
abbrev pub is_root : List Slot → ℕ → Bool
is_root slots n = needs 0 (block_of 0 (slot_at slots n).«record»)

-- a queue after each of these slots was taken out of it, or put at its end where it needs no reference
abbrev pub started_queue : List Slot → List ℕ → List ℕ → List ℕ
started_queue slots grey [] = grey
started_queue slots grey (n ∷ ns) =
    started_queue (slice_set slots n (slot_started (slot_at slots n))) (requeued (is_root slots n) n grey) ns

-- a table after an area was added to a block
pub record IsWithArea (area : Span) (slots new : List Slot) (n : ℕ) : Type 0 where
  pub after : Slot
  pub items : new ≡ slice_set slots n after
  pub id : after.generation ≡ (slot_at slots n).generation
  pub others : after.«record» ≡ record (slot_at slots n).«record» { areas = after.«record».areas }
  pub block : (id : ℕ) → block_of id after.«record» ≡ with_area area.start.0 area.size (block_of id (slot_at slots n).«record»)
  pub sound : IsSound after.«record»
