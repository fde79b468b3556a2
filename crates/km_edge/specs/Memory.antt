-- Sources and sinks over memory, as contracts see them.
use Rattle.std.specs.Prelude.{ℕ, ◌-◌, ◌==◌, min, Bool, ◌||◌, List, ◌++◌, length, take, drop, if◌then◌else◌, Some, None, Result, Ok, Err}
use Rattle.std.specs.List.{list_any}
use Rattle.km_edge.specs.declared.errors.Failed.{Failed}
use Rattle.km_edge.specs.Streams.{SourceState, SinkState, raised}

-- a source: the bytes that are left, the most that a read gives, the numbers of the calls that fail,
-- the number of calls so far and of faults so far
pub record Supply : Type 0 where
  pub left : List ℕ
  pub piece : ℕ
  pub fail : List ℕ
  pub calls : ℕ
  pub faults : ℕ

-- a sink: the bytes that it holds and the most that it can hold, and the rest as for a source
pub record Store : Type 0 where
  pub held : List ℕ
  pub room : ℕ
  pub piece : ℕ
  pub fail : List ℕ
  pub calls : ℕ
  pub faults : ℕ

-- such a source tells its bytes
abbrev pub source_state : Supply → SourceState
source_state s = record { left = Some s.left; faults = s.faults }

-- such a sink tells its bytes
abbrev pub sink_state : Store → SinkState
sink_state s = record { held = Some s.held; count = None; faults = s.faults }

-- a sink that counts tells the number alone, and never fails
abbrev pub count_state : ℕ → SinkState
count_state n = record { held = None; count = Some n; faults = 0 }

-- whether a number is among these
abbrev pub is_in : ℕ → List ℕ → Bool
is_in n ns = list_any (λ m. m == n) ns

-- a read into as many bytes: the next piece, or a fault
abbrev pub read_of : Supply → ℕ → Result ℕ Failed
read_of s size = if is_in (raised s.calls) s.fail then Err (record {}) else Ok (min s.piece (min size (length s.left)))

-- the source after that read
abbrev pub after_read : Supply → ℕ → Supply
after_read s size =
    if is_in (raised s.calls) s.fail
    then record s { calls = raised s.calls; faults = raised s.faults }
    else record s { left = drop (min s.piece (min size (length s.left))) s.left; calls = raised s.calls }

-- whether a write fails: its call is named, or there is no room
abbrev pub write_fails : Store → Bool
write_fails s = is_in (raised s.calls) s.fail || (length s.held == s.room)

-- the number of bytes that a write of so many takes
abbrev pub taken_of : Store → ℕ → ℕ
taken_of s size = min s.piece (min size (s.room - length s.held))

-- a write of as many bytes
abbrev pub write_of : Store → ℕ → Result ℕ Failed
write_of s size = if write_fails s then Err (record {}) else Ok (taken_of s size)

-- the sink after a write of a piece
abbrev pub after_write : Store → List ℕ → Store
after_write s bytes =
    if write_fails s
    then record s { calls = raised s.calls; faults = raised s.faults }
    else record s { held = s.held ++ take (taken_of s (length bytes)) bytes; calls = raised s.calls }
