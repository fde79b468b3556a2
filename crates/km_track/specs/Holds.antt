use Rattle.std.specs.Prelude.{◌≡◌, ℕ, ◌+◌, ◌<◌, ◌≤◌, true, false, ◌⊎◌, List, [], ◌∷◌, length}
use Rattle.km_state.specs.State.{is_white_now}
use Rattle.km_links.specs.Chains.{is_in, IsDistinct}
use Rattle.km_map.specs.declared.entries.Entry.{Entry}
use Rattle.km_map.specs.Entries.{IsRising}
use Rattle.km_record.specs.Records.{IsSound}
use Rattle.km_track.specs.declared.slots.Slot.{Slot}
use Rattle.km_track.specs.Slots.{slot_at}
use Rattle.km_track.specs.Tracker.{Live, tracked_of}

-- the live block in a slot
abbrev pub live_at : List Slot → ℕ → Live
live_at slots n = record { slot = n; tracked = tracked_of (slot_at slots n).generation (slot_at slots n).«record» }

-- the entry of the map for the block in a slot
abbrev pub entry_at : List Slot → ℕ → Entry
entry_at slots n = record { span = (slot_at slots n).«record».span; slot = n }

-- an entry is in a list
abbrev pub IsAmong : List Entry → Entry → Type 0
IsAmong [] e = ⊥
IsAmong (x ∷ xs) e = (e ≡ x) ⊎ IsAmong xs e

-- ids rise from one on, below another
abbrev pub IdsRise : List Slot → ℕ → List ℕ → ℕ → Type 0
IdsRise slots low [] high = low ≤ high
IdsRise slots low (n ∷ ns) high = (low ≤ (slot_at slots n).generation) × IdsRise slots ((slot_at slots n).generation + 1) ns high

-- a table of records with its lists and its map
pub record Holds (slots : List Slot) (order grey free : List ℕ) (entries : List Entry) (registered : ℕ) : Type 0 where
  pub orders : IsDistinct order
  pub greys : IsDistinct grey
  pub within : (n : ℕ) → is_in n order ≡ true → n < length slots
  pub freed : (n : ℕ) → is_in n free ≡ true → (n < length slots) × (is_in n order ≡ false)
  pub count : length order + length free ≡ length slots
  pub queued : (n : ℕ) → is_in n grey ≡ true → (is_in n order ≡ true) × (is_white_now (live_at slots n).tracked ≡ false)
  pub kept : (n : ℕ) → is_in n order ≡ true → IsAmong entries (entry_at slots n)
  pub known : (e : Entry) → IsAmong entries e → (is_in e.slot order ≡ true) × (e ≡ entry_at slots e.slot)
  pub rising : IsRising entries
  pub ids : IdsRise slots 0 order registered
  pub sound : (n : ℕ) → is_in n order ≡ true → IsSound (slot_at slots n).«record»
