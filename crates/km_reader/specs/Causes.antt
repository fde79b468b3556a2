-- The table of causes: how what reads an input line by line and writes to a sink may end, for every language of inputs.
use Rattle.std.specs.Prelude.{◌≡◌, ℕ, ◌+◌, List, [], ◌++◌, length, Some}
use Rattle.std.specs.Io.KnownBytes.{Consumes}
use Rattle.km_edge.specs.Streams.{SourceState, SinkState, CameOut, Rose, Wrote}
use Rattle.km_reader.specs.Lines.{IsLeft, IsPrefix}

-- what an end rests on: the whole input, a line, the limit of the input, a fault of the source or of the sink, memory
-- that there wasn't, or nothing that may happen
pub data Cause : Type 0 where
  AtEnd : Cause
  AtLine : Cause
  AtLimit : Cause
  AtRead : Cause
  AtWrite : Cause
  AtMemory : Cause
  AtNothing : Cause

-- a language of inputs, and how its statuses tell causes
pub record Language (Status : Type 0) : Type 1 where
  -- the most bytes of an input
  pub limit : ℕ
  -- the cause of a status
  pub cause : Status → Cause
  -- the status of an input where nothing fails, and the text that is written then
  pub status_of : List ℕ → Status
  pub IsOut : List ℕ → List ℕ → Type 0
  -- no whole line of these bytes ends the input, and the text that they have led to
  pub GoesOn : List ℕ → Type 0
  pub IsOutOfWhole : List ℕ → List ℕ → Type 0
  -- these bytes were taken where there was no memory, and this text was written
  pub IsShort : List ℕ → List ℕ → Type 0

-- no count of faults rose
abbrev pub NoFaults : SourceState → SourceState → SinkState → SinkState → Type 0
NoFaults s s' k k' = (s'.faults ≡ s.faults) × (k'.faults ≡ k.faults)

-- the bytes that were taken lead to a text that begins with what was written
pub record EndsWithin {Status : Type 0} (l : Language Status) (taken written : List ℕ) : Type 0 where
  pub out : List ℕ
  pub is_out : l.IsOut taken out
  pub front : IsPrefix written out

-- the status and the output of an input
abbrev pub EndsAs : {Status : Type 0} → Language Status → List ℕ → List ℕ → Status → Type 0
EndsAs l bytes written ended = (l.status_of bytes ≡ ended) × l.IsOut bytes written

-- how a run ends, by the cause, over bytes of which some were taken, where these were written
abbrev pub EndsBy : {Status : Type 0} → Language Status → List ℕ → List ℕ → List ℕ → SourceState → SourceState → SinkState → SinkState → Status → Cause → Type 0
EndsBy l bytes taken written s s' k k' ended AtEnd = (taken ≡ bytes) × EndsAs l bytes written ended × NoFaults s s' k k'
EndsBy l bytes taken written s s' k k' ended AtLine = EndsAs l bytes written ended × NoFaults s s' k k'
EndsBy l bytes taken written s s' k k' ended AtLimit = (length taken ≡ l.limit + 1) × EndsAs l bytes written ended × NoFaults s s' k k'
EndsBy l bytes taken written s s' k k' ended AtRead =
    Rose s.faults s'.faults × (k'.faults ≡ k.faults) × l.GoesOn taken × l.IsOutOfWhole taken written
EndsBy l bytes taken written s s' k k' ended AtWrite = Rose k.faults k'.faults × (s'.faults ≡ s.faults) × EndsWithin l taken written
EndsBy l bytes taken written s s' k k' ended AtMemory = l.IsShort taken written × NoFaults s s' k k'
EndsBy l bytes taken written s s' k k' ended AtNothing = ⊥

abbrev pub Ends : {Status : Type 0} → Language Status → List ℕ → List ℕ → List ℕ → SourceState → SourceState → SinkState → SinkState → Status → Type 0
Ends l bytes taken written s s' k k' ended = EndsBy l bytes taken written s s' k k' ended (l.cause ended)

-- a run over what a source gives
pub record EndsFrom {Status : Type 0} (l : Language Status) (s s' : SourceState) (k k' : SinkState) (ended : Status) : Type 0 where
  pub taken : List ℕ
  pub written : List ℕ
  pub took : Consumes s.left s'.left taken
  pub came_out : CameOut k k' written
  pub ends : (remaining : List ℕ) → IsLeft s'.left remaining → Ends l (taken ++ remaining) taken written s s' k k' ended

-- a run over the bytes that a source has left: some of them were taken, some bytes came out, and so it ended
pub record EndsOver {Status : Type 0} (l : Language Status) (bytes : List ℕ) (s s' : SourceState) (k k' : SinkState) (ended : Status) : Type 0 where
  pub taken : List ℕ
  pub remaining : List ℕ
  pub written : List ℕ
  pub parts : bytes ≡ taken ++ remaining
  pub left : s'.left ≡ Some remaining
  pub came_out : CameOut k k' written
  pub ends : Ends l bytes taken written s s' k k' ended

-- where nothing fails, the status is that of the bytes, and their output was written
pub record EndsAsTold {Status : Type 0} (l : Language Status) (bytes : List ℕ) (k k' : SinkState) (ended : Status) : Type 0 where
  pub out : List ℕ
  pub status : ended ≡ l.status_of bytes
  pub is_out : l.IsOut bytes out
  pub wrote : Wrote k k' out
