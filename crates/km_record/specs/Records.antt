use Rattle.std.specs.Prelude.{ℕ, ◌+◌, ◌%◌, ◌^◌, ◌<◌, ◌≤◌, ◌≡◌, Bool, true, false, ◌||◌, nat_le, nat_lt, ◌==◌, List, [], ◌∷◌, ◌++◌, length, find, Option, Some, None, option_map, Result, Ok, Err, if◌then◌else◌}
use Rattle.std.specs.List.{list_any, filter_map}
use Rattle.km_base.specs.declared.spans.Addr.{Addr}
use Rattle.km_base.specs.declared.spans.Span.{Span}
use Rattle.km_model.specs.Blocks as model
use Rattle.km_model.specs.Blocks.{Area, Block, scanned_words}
use Rattle.km_model.specs.Answers.{areas_meet}
use Rattle.km_record.specs.declared.kinds.Minimum.{Minimum}
use Rattle.km_record.specs.declared.kinds.Minimum.TheVariants.{Black, AtLeast}
use Rattle.km_record.specs.declared.kinds.Colour.{Colour}
use Rattle.km_record.specs.declared.kinds.Colour.TheVariants as colour
use Rattle.km_record.specs.declared.kinds.Note.{Note}
use Rattle.km_record.specs.declared.kinds.Note.TheVariants as note
use Rattle.km_record.specs.declared.kinds.AreaFault.{AreaFault}
use Rattle.km_record.specs.declared.kinds.AreaFault.TheVariants.{NotInside, AreaOverlap, TooManyAreas}
use Rattle.km_record.specs.declared.record.Record.{Record}

-- a minimum in the words of the model
abbrev pub minimum_of : Minimum → model.Minimum
minimum_of Black = model.Black
minimum_of (AtLeast n) = model.AtLeast n

-- an area in the words of the model
abbrev pub area_of : Span → Area
area_of s = record { start = s.start.0; size = s.size }

-- the areas that are kept, in their order
abbrev pub areas_in : List (Option Span) → List Area
areas_in spans = filter_map (λ s. option_map area_of s) spans

-- the block that a record is of, with the number of its registration
abbrev pub block_of : ℕ → Record → Block
block_of id r = record {
  id = id;
  start = r.span.start.0;
  size = r.span.size;
  born = r.born;
  minimum = minimum_of r.minimum;
  no_scan = r.no_scan;
  areas = areas_in r.areas;
  excess = option_map (λ (a : Addr). a.0) r.excess;
}

-- whether nothing is kept
abbrev pub is_empty : List (Option Span) → Bool
is_empty [] = true
is_empty (None ∷ spans) = is_empty spans
is_empty (Some _ ∷ spans) = false

-- whether what is kept stands in front
abbrev pub is_packed : List (Option Span) → Bool
is_packed [] = true
is_packed (None ∷ spans) = is_empty spans
is_packed (Some _ ∷ spans) = is_packed spans

-- whether something is kept in front
abbrev pub begins_full : List (Option Span) → Bool
begins_full [] = false
begins_full (None ∷ spans) = false
begins_full (Some _ ∷ spans) = true

-- whether no word of a block is scanned
abbrev pub is_unscanned : Block → Bool
is_unscanned b = model.is_black b || b.no_scan

-- words that lie in a span
abbrev pub AreWordsIn : Span → Area → Type 0
AreWordsIn s a = (a.start % 8 ≡ 0) × (a.size % 8 ≡ 0) × (s.start.0 ≤ a.start) × (a.start + a.size ≤ s.start.0 + s.size)

-- each of some areas is of words in a span
abbrev pub EachIn : Span → List Area → Type 0
EachIn s [] = Unit {0}
EachIn s (a ∷ areas) = AreWordsIn s a × EachIn s areas

-- a record's span is of words, and so are its areas, which lie in it and fill four places from the front
pub record IsLaid (r : Record) : Type 0 where
  pub start : r.span.start.0 % 8 ≡ 0
  pub size : r.span.size % 8 ≡ 0
  pub end : r.span.start.0 + r.span.size < 2 ^ 64
  pub inside : EachIn r.span (areas_in r.areas)
  pub packed : is_packed r.areas ≡ true
  pub places : length r.areas ≡ 4

-- the same, and a black one isn't scanned
pub record IsSound (r : Record) : Type 0 where
  pub start : r.span.start.0 % 8 ≡ 0
  pub size : r.span.size % 8 ≡ 0
  pub end : r.span.start.0 + r.span.size < 2 ^ 64
  pub inside : EachIn r.span (areas_in r.areas)
  pub packed : is_packed r.areas ≡ true
  pub places : length r.areas ≡ 4
  pub quiet : r.minimum ≡ Black → r.no_scan ≡ true

-- white: its minimum is greater than its count
abbrev pub colour_in : Minimum → ℕ → Colour
colour_in Black count = colour.Black
colour_in (AtLeast n) count = if nat_lt count n then colour.White else colour.Grey

-- what a note makes of a block
abbrev pub noted : Note → Block → Block
noted note.NotLeak b = model.painted_grey b
noted note.Ignore b = model.painted_black b
noted note.NoScan b = model.unscanned b
noted note.TransientLeak b = b

-- the sum that is kept after a note
abbrev pub kept_after : Note → Option ℕ → Option ℕ
kept_after note.NotLeak kept = kept
kept_after note.Ignore kept = kept
kept_after note.NoScan kept = kept
kept_after note.TransientLeak kept = None

-- a record after a note
abbrev pub record_noted : Note → Record → Record
record_noted note.NotLeak r = record r { minimum = AtLeast 0 }
record_noted note.Ignore r = record r { minimum = Black; no_scan = true }
record_noted note.NoScan r = record r { no_scan = true }
record_noted note.TransientLeak r = record r { sum = None }

-- why a block takes no area: it goes past the block's end, it meets one that is kept, or four are kept
abbrev pub area_fault : Block → ℕ → ℕ → Option AreaFault
area_fault b a size =
    if nat_lt (b.start + b.size) (a + size) then Some NotInside
    else (if list_any (areas_meet a size) b.areas then Some AreaOverlap
    else (if length b.areas == 4 then Some TooManyAreas else None))

-- done, or the fault
abbrev pub unless_fault : Option AreaFault → Result (Unit {0}) AreaFault
unless_fault None = Ok tt
unless_fault (Some fault) = Err fault

-- whether a kept area has a byte in common with another
abbrev pub is_met : Span → Option Span → Bool
is_met area None = false
is_met area (Some kept) = areas_meet area.start.0 area.size (area_of kept)

-- a block with one more area
abbrev pub with_area : ℕ → ℕ → Block → Block
with_area a size b = record b { areas = b.areas ++ record { start = a; size = size } ∷ [] }

-- the first scanned word of a block at an address or behind it
abbrev pub scanned_from : ℕ → Block → Option ℕ
scanned_from a b = find (nat_le a) (scanned_words b)
