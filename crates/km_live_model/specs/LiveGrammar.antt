-- How a line of a live script is read by itself.
use Rattle.std.specs.Prelude.{ℕ, ◌+◌, Bool, false, not, nat_lt, List, [], ◌∷◌, length, find, filter, position, Option, Some, None, option_map, Result, Ok, Err, bytes_eq, codes, if◌then◌else◌}
use Rattle.std.specs.List.{list_any}
use Rattle.km_base.specs.declared.sizes.TheConstants.{LONGEST_LINE, MOST_WORDS, TOO_LONG}
use Rattle.km_base.specs.declared.acts.Reg.{Reg}
use Rattle.km_base.specs.Names.{name_of}
use Rattle.km_base.specs.declared.lines.Base.{Base}
use Rattle.km_base.specs.declared.lines.Base.TheVariants as base
use Rattle.km_base.specs.declared.lines.RegName.{RegName}
use Rattle.km_base.specs.declared.lines.Command.{Command}
use Rattle.km_base.specs.declared.lines.Command.TheVariants as command
use Rattle.km_base.specs.declared.lines.NotACommand.{NotACommand}
use Rattle.km_model.specs.Held.{same_bool}
use Rattle.km_model.specs.Pieces.{Piece, pieces}
use Rattle.km_model.specs.Grammar.{Rule, Reading, rules, apply_rule, number_within, operand, is_comment, is_foreign}
use Rattle.km_live_model.specs.declared.lines.JobCommand.{JobCommand}
use Rattle.km_live_model.specs.declared.lines.JobCommand.TheVariants as job
use Rattle.km_live_model.specs.declared.lines.LiveLine.{LiveLine}
use Rattle.km_live_model.specs.declared.lines.LiveLine.TheVariants as live

-- a line of a live script, or the column by which it is none
abbrev pub LiveReading : Type 0
LiveReading = Result LiveLine NotACommand

abbrev pub none_at : ℕ → LiveReading
none_at column = Err (record { column = column })

-- no word is left
abbrev pub only : List Piece → LiveLine → LiveReading
only [] l = Ok l
only (p ∷ _) l = none_at p.column

-- the next word has this form; the rest is read with what it says
abbrev pub then_reads : {A : Type 0} → (List ℕ → Option A) → ℕ → List Piece → (A → List Piece → LiveReading) → LiveReading
then_reads read end [] rest = none_at end
then_reads read end (p ∷ ps) rest = elim (read p.bytes) [ None ↦ none_at p.column | Some a ↦ rest a ps ]

-- `thread NAME`
abbrev pub thread_line : ℕ → List Piece → LiveReading
thread_line end ps = then_reads name_of end ps (λ name rest. only rest (live.Thread name))

-- `round SCANS GAP ENTRIES`
abbrev pub round_line : ℕ → List Piece → LiveReading
round_line end ps =
    then_reads (number_within 1 100) end ps (λ scans more.
    then_reads (number_within 0 3600000) end more (λ gap rest.
    then_reads (number_within 1 MOST_WORDS) end rest (λ entries last. only last (live.Round scans gap entries))))

-- a command outside a thread
abbrev pub as_command : Reading → LiveReading
as_command (Ok c) = Ok (live.Command c)
as_command (Err e) = Err e

-- the words of a line outside a thread
abbrev pub outside : Piece → ℕ → List Piece → LiveReading
outside p end ps =
    if bytes_eq p.bytes (codes "thread") then thread_line end ps
    else (if bytes_eq p.bytes (codes "round") then round_line end ps
    else as_command (apply_rule rules p end ps))

-- the commands that a thread may hold
abbrev pub job_words : List (List ℕ)
job_words =
    codes "set" ∷ codes "load" ∷ codes "store" ∷ codes "erase" ∷ codes "kmalloc" ∷ codes "kzalloc" ∷ codes "kfree"
    ∷ codes "not_leak" ∷ codes "ignore" ∷ codes "no_scan" ∷ codes "scan_area" ∷ []

-- the part of the table that is theirs
abbrev pub job_rules : List Rule
job_rules = filter (λ (rule : Rule). list_any (bytes_eq rule.keyword) job_words) rules

-- a register of the thread's own task, by its number alone
abbrev pub own_register : RegName → Reg
own_register r = r.reg

-- such a command, without the name of the thread's task
abbrev pub job_of : Command → Option JobCommand
job_of (command.Set r value) = Some (job.Set r.reg value)
job_of (command.Load r addr) = Some (job.Load r.reg addr)
job_of (command.Store addr value) = Some (job.Store addr value)
job_of (command.Erase addr) = Some (job.Erase addr)
job_of (command.Kmalloc size r) = Some (job.Kmalloc size (option_map own_register r))
job_of (command.Kzalloc size r) = Some (job.Kzalloc size (option_map own_register r))
job_of (command.Kfree addr) = Some (job.Kfree addr)
job_of (command.NotLeak addr) = Some (job.NotLeak addr)
job_of (command.Ignore addr) = Some (job.Ignore addr)
job_of (command.NoScan addr) = Some (job.NoScan addr)
job_of (command.ScanArea addr size) = Some (job.ScanArea addr size)
job_of _ = None

-- a command of a thread, whose first word stands at a column
abbrev pub as_job : ℕ → Reading → LiveReading
as_job column (Err e) = Err e
as_job column (Ok c) = elim (job_of c) [ None ↦ none_at column | Some j ↦ Ok (live.InThread j) ]

-- whether a base is another task's
abbrev pub is_others : List ℕ → Base → Bool
is_others own (base.Reg task _) = not (bytes_eq task own)
is_others own (base.Stack task) = not (bytes_eq task own)
is_others own _ = false

-- whether a word names a task other than the thread's own
abbrev pub names_other : List ℕ → Piece → Bool
names_other own p = elim (operand p.bytes) [ None ↦ false | Some o ↦ is_others own o.base ]

-- a reading, or the refusal of a word, whichever comes first in the line
abbrev pub unless_before : Option Piece → LiveReading → LiveReading
unless_before None reading = reading
unless_before (Some p) (Ok _) = none_at p.column
unless_before (Some p) (Err e) = if nat_lt p.column e.column then none_at p.column else Err e

-- the words of a line in the thread of a task: no other task may be named
abbrev pub inside : List ℕ → Piece → ℕ → List Piece → LiveReading
inside own p end ps =
    if bytes_eq p.bytes (codes "end") then only ps live.End
    else unless_before (find (names_other own) ps) (as_job p.column (apply_rule job_rules p end ps))

-- the words of a line. The first command is `memory`, and no other
abbrev pub words_of_line : Bool → Option (List ℕ) → ℕ → List Piece → LiveReading
words_of_line first thread end [] = Ok live.Blank
words_of_line first thread end (p ∷ ps) =
    if same_bool (bytes_eq p.bytes (codes "memory")) first
    then (elim thread [ None ↦ outside p end ps | Some own ↦ inside own p end ps ])
    else none_at p.column

-- a line that is neither blank nor a comment
abbrev pub live_command_line : Bool → Option (List ℕ) → List ℕ → LiveReading
live_command_line first thread bytes =
    elim (position is_foreign bytes) [
      | Some i ↦ none_at (i + 1)
      | None ↦ words_of_line first thread (length bytes + 1) (pieces bytes)
    ]

-- a line without its line feed, by itself; `first` says that no command was read before, `thread` is the open thread
unfoldable pub live_line_of : Bool → Option (List ℕ) → List ℕ → LiveReading
live_line_of first thread bytes =
    if nat_lt LONGEST_LINE (length bytes) then none_at TOO_LONG
    else (if is_comment (pieces bytes) then Ok live.Blank
    else (elim (pieces bytes) [ [] ↦ Ok live.Blank | _ ∷ _ ↦ live_command_line first thread bytes ]))
