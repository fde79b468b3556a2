-- Journal files as the table of causes takes them, and how a check of lines ends.
use Rattle.std.specs.Prelude.{◌≡◌, ℕ, ◌+◌, ◌≤◌, ◌⊎◌, true, nat_le, List, [], ◌++◌, length, Option, None, Some, if◌then◌else◌}
use Rattle.std.specs.Io.KnownBytes.{Consumes}
use Rattle.km_base.specs.declared.sizes.TheConstants.{LONGEST_LINE}
use Rattle.km_edge.specs.Streams.{SourceState, SinkState, StoppedAt, Rose, Wrote}
use Rattle.km_model.specs.Output.{between_line_feeds}
use Rattle.km_reader.specs.Causes.{AtEnd, AtLine, AtLimit, AtMemory, AtNothing, AtRead, AtWrite, Cause, Language}
use Rattle.km_reader.specs.Lines.{IsLeft}
use Rattle.km_entries.specs.declared.lines.JournalLine.TheVariants as line
use Rattle.km_entries.specs.declared.status.CheckStatus.{CheckStatus}
use Rattle.km_entries.specs.declared.status.CheckStatus.TheVariants as check
use Rattle.km_entries.specs.Lines.{journal_line_text}
use Rattle.km_entries.specs.Reading.{journal_line}
use Rattle.km_entries.specs.File.{Checked, IsNoLine, IsWrong, Right, Unbegun, check_text, cut_text, is_memory_size, limit, no_line_text, ok_text, outcome_from, outcome_of, verdict, wrong_text}
use Rattle.km_journal.specs.declared.replay.Replay.{Replay}
use Rattle.km_journal.specs.Replays.{HasRead}

-- the cause of a status
abbrev pub cause_of : CheckStatus → Cause
cause_of check.Ok = AtEnd
cause_of (check.Wrong _) = AtLine
cause_of check.ReadFault = AtRead
cause_of check.WriteFault = AtWrite
cause_of check.NoMemory = AtMemory
cause_of (check.BadWords _) = AtNothing
cause_of check.TooLong = AtLimit
cause_of (check.NotALine _) = AtLine
cause_of check.Cut = AtEnd

-- the status of a file
abbrev pub status_of : List ℕ → CheckStatus
status_of bytes = (outcome_of bytes).status

-- how the lines end that came before a read failed; a piece that is too long for a line is refused whatever comes after it
abbrev pub at_fault : ℕ → Checked → List ℕ → CheckStatus
at_fault n c rest = if nat_le (length rest) LONGEST_LINE then check.ReadFault else check.NotALine n

-- no line of these bytes is refused
abbrev pub GoesOn : List ℕ → Type 0
GoesOn taken = (outcome_from at_fault 1 Unbegun (between_line_feeds taken)).status ≡ check.ReadFault

-- the first line is right, and no more than a buffer has was taken after it
pub record EndsAfterHead (taken : List ℕ) : Type 0 where
  pub words : ℕ
  pub size : is_memory_size words ≡ true
  pub rest : List ℕ
  pub parts : taken ≡ journal_line_text (line.Head words) ++ rest
  pub few : length rest ≤ 4096

-- journal files: a check writes one text, at the end, and none after a fault of the source. It needs memory at the first line alone
abbrev pub journals : Language CheckStatus
journals = record {
  limit = limit;
  cause = cause_of;
  status_of = status_of;
  IsOut = λ bytes out. out ≡ check_text bytes;
  GoesOn = GoesOn;
  IsOutOfWhole = λ taken out. out ≡ [];
  IsShort = λ taken out. (out ≡ []) × EndsAfterHead taken;
}

-- a line is the first one, where no line was read
abbrev pub IsFirst : Checked → List ℕ → Type 0
IsFirst c bytes = (c ≡ Unbegun) × ((words : ℕ) × (journal_line bytes ≡ Some (line.Head words)) × (is_memory_size words ≡ true))

-- line n ends a check
abbrev pub EndsAt : ℕ → Checked → List ℕ → CheckStatus → Type 0
EndsAt n c bytes (check.Wrong m) = (m ≡ n) × (verdict c bytes ≡ IsWrong)
EndsAt n c bytes (check.NotALine m) = (m ≡ n) × (verdict c bytes ≡ IsNoLine)
EndsAt n c bytes check.NoMemory = IsFirst c bytes
EndsAt n c bytes check.Ok = ⊥
EndsAt n c bytes check.ReadFault = ⊥
EndsAt n c bytes check.WriteFault = ⊥
EndsAt n c bytes (check.BadWords _) = ⊥
EndsAt n c bytes check.TooLong = ⊥
EndsAt n c bytes check.Cut = ⊥

-- a line is right, and a replay stands for what it leads to
abbrev pub IsRight : Checked → List ℕ → Option Replay → Type 0
IsRight c bytes replay = (after : Checked) × (verdict c bytes ≡ Right after) × HasRead replay after

-- the whole of some bytes was read, and led here
abbrev pub Finds : List ℕ → List ℕ → SourceState → SourceState → Option Replay → CheckStatus → Type 0
Finds bytes taken s s' replay ended =
    (taken ≡ bytes) × ((after : Checked) × (outcome_of bytes ≡ record { status = ended; after = after }) × HasRead replay after) × (s'.faults ≡ s.faults)

-- a line of some bytes is refused, and no more of them was needed for that than was taken
abbrev pub Refuses : List ℕ → List ℕ → SourceState → SourceState → CheckStatus → Type 0
Refuses bytes taken s s' ended = (status_of bytes ≡ ended) × (status_of taken ≡ ended) × (s'.faults ≡ s.faults)

-- how a check of some bytes ends, of which these were taken
abbrev pub EndsCheck : List ℕ → List ℕ → SourceState → SourceState → Option Replay → CheckStatus → Type 0
EndsCheck bytes taken s s' replay check.Ok = Finds bytes taken s s' replay check.Ok
EndsCheck bytes taken s s' replay check.Cut = Finds bytes taken s s' replay check.Cut
EndsCheck bytes taken s s' replay (check.Wrong n) = Refuses bytes taken s s' (check.Wrong n)
EndsCheck bytes taken s s' replay (check.NotALine n) = Refuses bytes taken s s' (check.NotALine n)
EndsCheck bytes taken s s' replay check.TooLong = (length taken ≡ limit + 1) × (status_of bytes ≡ check.TooLong) × (s'.faults ≡ s.faults)
EndsCheck bytes taken s s' replay check.ReadFault = Rose s.faults s'.faults × GoesOn taken
EndsCheck bytes taken s s' replay check.NoMemory = EndsAfterHead taken × (s'.faults ≡ s.faults)
EndsCheck bytes taken s s' replay check.WriteFault = ⊥
EndsCheck bytes taken s s' replay (check.BadWords _) = ⊥

-- a check of what a source gives
pub record ChecksFile (s s' : SourceState) (replay : Option Replay) (ended : CheckStatus) : Type 0 where
  pub taken : List ℕ
  pub took : Consumes s.left s'.left taken
  pub ends : (remaining : List ℕ) → IsLeft s'.left remaining → EndsCheck (taken ++ remaining) taken s s' replay ended

-- the text of a check that ends so, if there is one
abbrev pub text_of : CheckStatus → Option Replay → Option (List ℕ)
text_of check.Ok (Some r) = Some (ok_text r.core.events r.scans)
text_of check.Ok None = None
text_of (check.Wrong n) replay = Some (wrong_text n)
text_of (check.NotALine n) replay = Some (no_line_text n)
text_of check.Cut replay = Some cut_text
text_of check.ReadFault replay = None
text_of check.WriteFault replay = None
text_of check.NoMemory replay = None
text_of (check.BadWords _) replay = None
text_of check.TooLong replay = None

-- a text is written, or stops at a fault; where there is none, nothing is done
abbrev pub WritesText : Option (List ℕ) → CheckStatus → SinkState → SinkState → CheckStatus → Type 0
WritesText None ended k k' result = (result ≡ ended) × (k' ≡ k)
WritesText (Some text) ended k k' result =
    ((result ≡ ended) × Wrote k k' text) ⊎ ((result ≡ check.WriteFault) × ((n : ℕ) × StoppedAt k k' text n))
