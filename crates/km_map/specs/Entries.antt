use Rattle.std.specs.Prelude.{ℕ, ◌+◌, ◌≤◌, ◌<◌, Bool, ◌&&◌, not, nat_le, nat_lt, ◌==◌, List, [], ◌∷◌, filter, find, Option, Some, None, option_map, Result, Ok, Err, if◌then◌else◌}
use Rattle.km_base.specs.declared.spans.Span.{Span}
use Rattle.km_map.specs.declared.entries.Entry.{Entry}

-- where the span of an entry ends
abbrev pub end_of : Entry → ℕ
end_of e = e.span.start.0 + e.span.size

-- whether the span of an entry has the byte at an address
abbrev pub has_byte : ℕ → Entry → Bool
has_byte a e = nat_le e.span.start.0 a && nat_lt a (end_of e)

-- whether the span of an entry starts at an address
abbrev pub starts_at : ℕ → Entry → Bool
starts_at a e = e.span.start.0 == a

-- whether some byte is in a span that has bytes and in that of an entry
abbrev pub meets : Span → Entry → Bool
meets s e = nat_lt e.span.start.0 (s.start.0 + s.size) && nat_lt s.start.0 (end_of e)

-- the slot of the first entry that passes a test
abbrev pub slot_where : (Entry → Bool) → List Entry → Option ℕ
slot_where test es = option_map (λ (e : Entry). e.slot) (find test es)

-- done, or the slot of an entry that is met
abbrev pub unless_met : Option ℕ → Result (Unit {0}) ℕ
unless_met None = Ok tt
unless_met (Some slot) = Err slot

-- the entries with one more, at its place by its start
abbrev pub with_entry : Entry → List Entry → List Entry
with_entry e [] = e ∷ []
with_entry e (x ∷ xs) = if nat_lt x.span.start.0 e.span.start.0 then x ∷ with_entry e xs else e ∷ x ∷ xs

-- the entries without those whose spans start at an address
abbrev pub without_start : ℕ → List Entry → List Entry
without_start a es = filter (λ (e : Entry). not (starts_at a e)) es

-- each span starts at an address or behind it
abbrev pub StartFrom : ℕ → List Entry → Type 0
StartFrom a [] = Unit {0}
StartFrom a (e ∷ es) = (a ≤ e.span.start.0) × StartFrom a es

-- each span has a size and ends before those behind it start: the starts rise, and no two spans meet
abbrev pub IsRising : List Entry → Type 0
IsRising [] = Unit {0}
IsRising (e ∷ es) = (0 < e.span.size) × StartFrom (end_of e) es × IsRising es

-- how many entries at the front end at or before an address
abbrev pub ended : ℕ → List Entry → ℕ
ended a [] = 0
ended a (e ∷ es) = if nat_le (end_of e) a then ended a es + 1 else 0

-- whether the span of an entry ends behind an address
abbrev pub ends_behind : ℕ → Entry → Bool
ends_behind a e = nat_lt a (end_of e)
