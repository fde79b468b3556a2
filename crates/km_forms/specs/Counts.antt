-- What each part of a count does: one line, a script.
use Rattle.std.specs.Prelude.{◌≡◌, ℕ, ◌+◌, ◌==◌, Bool, true, List, ◌++◌, length, Result, Ok, Err, MatchResult}
use Rattle.std.specs.Io.KnownBytes.{Consumes}
use Rattle.km_base.specs.declared.lines.Line.{Line}
use Rattle.km_base.specs.declared.lines.Line.TheVariants as line
use Rattle.km_base.specs.declared.lines.NotACommand.{NotACommand as Refused}
use Rattle.km_base.specs.declared.status.Status.{Status}
use Rattle.km_base.specs.declared.status.Status.TheVariants as status
use Rattle.km_model.specs.Grammar.{rules, line_of}
use Rattle.km_model.specs.Output.{commands_in, limit, lines_of, status_from, status_of}
use Rattle.km_edge.specs.Streams.{SourceState, Rose}
use Rattle.km_forms.specs.declared.count.Count.{Count}
use Rattle.km_reader.specs.Lines.{whole_lines, IsLeft}

-- before the first line
abbrev pub first_count : Count
first_count = record { number = 1; commands = 0 }

-- whether no command was counted yet
abbrev pub is_fresh : Count → Bool
is_fresh c = c.commands == 0

-- after a line
abbrev pub behind : Count → Line → Count
behind c line.Blank = record { number = c.number + 1; commands = c.commands }
behind c (line.Command _) = record { number = c.number + 1; commands = c.commands + 1 }

-- the number of command lines of a script
abbrev pub commands_of : List ℕ → ℕ
commands_of bytes = commands_in rules true (lines_of bytes)

-- how a script ends of which these lines are left
abbrev pub status_at : Status → Count → List (List ℕ) → Status
status_at otherwise c ls = status_from rules otherwise (is_fresh c) c.number ls

-- how many commands it has
abbrev pub commands_at : Count → List (List ℕ) → ℕ
commands_at c ls = c.commands + commands_in rules (is_fresh c) ls

-- the next line is refused at a column
abbrev pub IsRefusal : Count → ℕ → Status → Type 0
IsRefusal c column ended = ended ≡ status.NotACommand c.number column

-- one line is counted, or ends the script
abbrev pub CountsLine : Count → Count → List ℕ → Result (Unit {0}) Status → Type 0
CountsLine c c' bytes result =
    MatchResult result
    (λ _. (l : Line) × (line_of (is_fresh c) bytes ≡ Ok l) × (c' ≡ behind c l))
    (λ ended. (e : Refused) × (line_of (is_fresh c) bytes ≡ Err e) × IsRefusal c e.column ended × (c' ≡ c))

-- how a script of these whole lines ends that has no line that is no command
abbrev pub GoesOn : List ℕ → Type 0
GoesOn taken = status_from rules status.Ok true 1 (whole_lines taken) ≡ status.Ok

-- why there is no count of some bytes, of which these were taken
abbrev pub Uncounted : List ℕ → List ℕ → SourceState → SourceState → Status → Type 0
Uncounted bytes taken s s' (status.NotACommand n c) =
    (status_of bytes ≡ status.NotACommand n c) × (status_of taken ≡ status.NotACommand n c) × (s'.faults ≡ s.faults)
Uncounted bytes taken s s' status.TooLong = (length taken ≡ limit + 1) × (status_of bytes ≡ status.TooLong) × (s'.faults ≡ s.faults)
Uncounted bytes taken s s' status.ReadFault = Rose s.faults s'.faults × GoesOn taken
Uncounted bytes taken s s' status.Ok = ⊥
Uncounted bytes taken s s' status.WriteFault = ⊥
Uncounted bytes taken s s' status.NoMemory = ⊥
Uncounted bytes taken s s' (status.BadWords _) = ⊥

-- the count of some bytes
abbrev pub Counts : List ℕ → List ℕ → SourceState → SourceState → Result ℕ Status → Type 0
Counts bytes taken s s' result =
    MatchResult result
    (λ n. (taken ≡ bytes) × (status_of bytes ≡ status.Ok) × (n ≡ commands_of bytes) × (s'.faults ≡ s.faults))
    (Uncounted bytes taken s s')

-- the count of what a source gives
pub record CountsScript (s s' : SourceState) (result : Result ℕ Status) : Type 0 where
  pub taken : List ℕ
  pub took : Consumes s.left s'.left taken
  pub counts : (remaining : List ℕ) → IsLeft s'.left remaining → Counts (taken ++ remaining) taken s s' result
