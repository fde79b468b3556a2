-- What a check of a script gives: its causes, and its text.
use Rattle.std.specs.Prelude.{◌≡◌, ℕ, List, []}
use Rattle.km_base.specs.declared.status.Status.{Status}
use Rattle.km_base.specs.declared.status.Status.TheVariants as status
use Rattle.km_model.specs.Output.{limit, status_of}
use Rattle.km_model.specs.Text.{commands_text, not_a_command_text}
use Rattle.km_edge.specs.Streams.{SinkState, Wrote, StoppedAt}
use Rattle.km_reader.specs.Causes.{AtEnd, AtLine, AtLimit, AtMemory, AtNothing, AtRead, AtWrite, Cause, Language}
use Rattle.km_forms.specs.Counts.{GoesOn, commands_of}
use Rattle.km_forms.specs.Lines.{Refuses}

-- what a check writes, by how the script would end and the number of its commands
abbrev pub check_text_by : Status → ℕ → List ℕ
check_text_by status.Ok n = commands_text n
check_text_by (status.NotACommand line column) n = not_a_command_text line column
check_text_by _ n = []

-- what a check of some bytes writes
abbrev pub check_text : List ℕ → List ℕ
check_text bytes = check_text_by (status_of bytes) (commands_of bytes)

-- the cause of a status
abbrev pub cause_of : Status → Cause
cause_of status.Ok = AtEnd
cause_of (status.NotACommand _ _) = AtLine
cause_of status.ReadFault = AtRead
cause_of status.WriteFault = AtWrite
cause_of status.NoMemory = AtMemory
cause_of (status.BadWords _) = AtNothing
cause_of status.TooLong = AtLimit

-- scripts of which a check writes what their lines are: at most one text, at the end, and none after a fault of the source.
-- A check needs no memory
abbrev pub checked : Language Status
checked = record {
  limit = limit;
  cause = cause_of;
  status_of = status_of;
  IsOut = λ bytes out. out ≡ check_text bytes;
  GoesOn = GoesOn;
  IsOutOfWhole = λ taken out. out ≡ [];
  IsShort = λ taken out. ⊥;
}

-- a number of commands is written, or stops at a fault
abbrev pub WritesCount : ℕ → SinkState → SinkState → Status → Type 0
WritesCount n k k' status.Ok = Wrote k k' (commands_text n)
WritesCount n k k' status.WriteFault = (m : ℕ) × StoppedAt k k' (commands_text n) m
WritesCount n k k' _ = ⊥

-- a refusal is written, or stops at a fault; nothing is where a script ends otherwise
abbrev pub WritesEnd : Status → SinkState → SinkState → Status → Type 0
WritesEnd (status.NotACommand n c) k k' result = Refuses n c k k' result
WritesEnd ended k k' result = (result ≡ ended) × Wrote k k' []
