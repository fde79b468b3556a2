-- What one step of a reader gives.
use Rattle.std.specs.Prelude.{◌≡◌, ◌≢◌, ℕ, ◌+◌, ◌-◌, ◌^◌, ◌<◌, ◌≤◌, true, false, List, [], ◌++◌, length, take, drop}
use Rattle.std.specs.Io.KnownBytes.{Consumes, IsAtEnd}
use Rattle.km_edge.specs.Streams.{SourceState, Rose}
use Rattle.km_edge.specs.Lines.{Whole, TooLong, Unknown, next_of}
use Rattle.km_reader.specs.declared.reader.Next.{Next}
use Rattle.km_reader.specs.declared.reader.Next.TheVariants as next

-- a reader as contracts see it: the bytes of its buffer, how many of these at the start were given (a line and its
-- line feed, 0 where no line was), the number of bytes that were taken from the source, and the most bytes of the input
pub record Input : Type 0 where
  pub lines : List ℕ
  pub skip : ℕ
  pub taken : ℕ
  pub limit : ℕ

-- before the first line
abbrev pub unread : ℕ → Input
unread limit = record { lines = []; skip = 0; taken = 0; limit = limit }

-- the line that was given last
abbrev pub line_in : Input → List ℕ
line_in r = take (r.skip - 1) r.lines

-- the bytes that are held after it and its line feed
abbrev pub rest_in : Input → List ℕ
rest_in r = drop r.skip r.lines

-- under this limit no byte was taken after the first one over it, and what is held with that one has room in the buffer
pub record IsReady (limit : ℕ) (r : Input) : Type 0 where
  pub same : r.limit ≡ limit
  pub short : r.skip ≤ length r.lines + 1
  pub within : r.taken ≤ limit + 1
  pub room : length r.lines + (r.taken - limit) ≤ 4096

-- some bytes were taken: they stand after those that were held, but for the one over the limit
pub record Went (s s' : SourceState) (held : List ℕ) (total limit : ℕ) (held' : List ℕ) (total' : ℕ) : Type 0 where
  pub more : List ℕ
  pub over : List ℕ
  pub took : Consumes s.left s'.left more
  pub parts : held ++ more ≡ held' ++ over
  pub size : total' ≡ total + length more
  pub beyond : length over ≡ (total' - limit) - (total - limit)

-- one step of a reader: which bytes were taken, and that no byte after the first one over the limit was
pub record Step (s s' : SourceState) (r r' : Input) : Type 0 where
  pub went : Went s s' (rest_in r) r.taken r.limit r'.lines r'.taken
  pub ready : IsReady r.limit r'

-- what comes next, by the bytes that are held then
abbrev pub Is : SourceState → Input → Next → Type 0
Is s' r next.Line = (Whole (line_in r) ≡ next_of false r.lines) × (1 ≤ r.skip) × (r.skip ≤ length r.lines)
Is s' r next.Rest =
    (next_of false r.lines ≡ Unknown) × (Whole (line_in r) ≡ next_of true r.lines) × IsAtEnd s'.left × (r.taken ≤ r.limit)
Is s' r next.Long = (TooLong ≡ next_of false r.lines) × (r.skip ≡ 0)
Is s' r next.End = (r.lines ≡ []) × (r.skip ≡ 0) × IsAtEnd s'.left × (r.taken ≤ r.limit)
Is s' r next.Fault = (next_of false r.lines ≡ Unknown) × (r.skip ≡ 0) × (r.taken ≤ r.limit)
Is s' r next.TooLong = (next_of false r.lines ≡ Unknown) × (r.skip ≡ 0) × (r.taken ≡ r.limit + 1)

-- the count of faults rises in a step that gives a fault, and stays in every other
abbrev pub FaultsAre : SourceState → SourceState → Next → Type 0
FaultsAre s s' next.Line = s'.faults ≡ s.faults
FaultsAre s s' next.Rest = s'.faults ≡ s.faults
FaultsAre s s' next.Long = s'.faults ≡ s.faults
FaultsAre s s' next.End = s'.faults ≡ s.faults
FaultsAre s s' next.Fault = Rose s.faults s'.faults
FaultsAre s s' next.TooLong = s'.faults ≡ s.faults

-- what was found among the bytes that are held, whatever the source has left
pub record IsFound (held : List ℕ) (r : Input) (found : Next) : Type 0 where
  pub known : next_of false held ≢ Unknown
  pub is : (s : SourceState) → Is s r found
  pub faults : (s s' : SourceState) → s'.faults ≡ s.faults → FaultsAre s s' found
