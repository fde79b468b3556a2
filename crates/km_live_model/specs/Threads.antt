-- The threads of a live script: what is read of them between two rounds, and how a script ends by that.
use Rattle.std.specs.Prelude.{ℕ, ◌+◌, Bool, true, false, ◌||◌, nat_le, List, [], ◌∷◌, ◌++◌, length, Option, Some, None, option_map, Ok, Err, bytes_eq, if◌then◌else◌}
use Rattle.std.specs.List.{list_any}
use Rattle.km_base.specs.declared.status.Status.{Status}
use Rattle.km_base.specs.declared.status.Status.TheVariants as status
use Rattle.km_model.specs.Pieces.{Piece, pieces}
use Rattle.km_model.specs.Output.{lines_of, end_of_script}
use Rattle.km_live_model.specs.declared.lines.JobCommand.{JobCommand}
use Rattle.km_live_model.specs.declared.lines.LiveLine.{LiveLine}
use Rattle.km_live_model.specs.declared.lines.LiveLine.TheVariants.{Blank, Command, Thread as Begins, End, InThread, Round}
use Rattle.km_live_model.specs.LiveGrammar.{LiveReading, none_at, live_line_of}

-- a thread: the name of its task, and its commands in order
pub record Thread : Type 0 where
  pub name : List ℕ
  pub commands : List JobCommand

-- the threads that stand since the last round, in order, and the one whose lines are being read
pub record Threads : Type 0 where
  pub standing : List Thread
  pub opened : Option Thread

-- none
abbrev pub no_threads : Threads
no_threads = record { standing = []; opened = None }

-- the name of the open thread
abbrev pub open_name : Threads → Option (List ℕ)
open_name t = option_map (λ (x : Thread). x.name) t.opened

-- whether a thread may not begin: eight stand, or one with the name
abbrev pub is_crowded : List Thread → List ℕ → Bool
is_crowded standing name = nat_le 8 (length standing) || list_any (λ (x : Thread). bytes_eq x.name name) standing

-- whether a thread has as many commands as it may
abbrev pub is_long : Option Thread → Bool
is_long None = false
is_long (Some x) = nat_le 4096 (length x.commands)

-- whether a line that is allowed by itself is one too many
abbrev pub is_too_many : Threads → LiveLine → Bool
is_too_many t (Begins name) = is_crowded t.standing name
is_too_many t (InThread _) = is_long t.opened
is_too_many t _ = false

-- the column of a line's first word
abbrev pub first_column : List Piece → ℕ
first_column [] = 1
first_column (p ∷ _) = p.column

-- a line that is one too many is refused at its first word
abbrev pub unless_too_many : Threads → List Piece → LiveReading → LiveReading
unless_too_many t ps (Err e) = Err e
unless_too_many t ps (Ok l) = if is_too_many t l then none_at (first_column ps) else Ok l

-- a line without its line feed, where it stands
abbrev pub line_at : Bool → Threads → List ℕ → LiveReading
line_at first t bytes = unless_too_many t (pieces bytes) (live_line_of first (open_name t) bytes)

-- a thread with one more command
abbrev pub with_command : JobCommand → Thread → Thread
with_command c x = record x { commands = x.commands ++ c ∷ [] }

-- a thread that is closed stands after the others
abbrev pub with_closed : List Thread → Option Thread → List Thread
with_closed standing None = standing
with_closed standing (Some x) = standing ++ x ∷ []

-- the threads after a line. A round forgets them
abbrev pub threads_after : Threads → LiveLine → Threads
threads_after t Blank = t
threads_after t (Command _) = t
threads_after t (Begins name) = record t { opened = Some (record { name = name; commands = [] }) }
threads_after t End = record { standing = with_closed t.standing t.opened; opened = None }
threads_after t (InThread c) = record t { opened = option_map (with_command c) t.opened }
threads_after t (Round _ _ _) = no_threads

-- whether no command was read after a line, if none was before it
abbrev pub still_first : Bool → LiveLine → Bool
still_first first Blank = first
still_first first _ = false

-- how a script ends whose lines are all read: within a thread it is refused at the line after the last
abbrev pub end_at : Status → Threads → ℕ → Status
end_at status.Ok t n = elim t.opened [ None ↦ status.Ok | Some _ ↦ status.NotACommand n 1 ]
end_at otherwise t n = otherwise

-- how a script ends by a line, as it was read, and by the lines after it
abbrev pub live_status_then : Bool → Threads → ℕ → LiveReading → (Bool → Threads → Status) → Status
live_status_then first t n (Err e) rest = status.NotACommand n e.column
live_status_then first t n (Ok l) rest = rest (still_first first l) (threads_after t l)

-- how a script of these lines ends, from line number n on
abbrev pub live_status_from : Status → Bool → Threads → ℕ → List (List ℕ) → Status
live_status_from otherwise first t n [] = end_at otherwise t n
live_status_from otherwise first t n (l ∷ ls) =
    live_status_then first t n (line_at first t l) (λ first' t'. live_status_from otherwise first' t' (n + 1) ls)

-- how a live script ends, where nothing fails
abbrev pub live_status_of : List ℕ → Status
live_status_of bytes = live_status_from (end_of_script bytes) true no_threads 1 (lines_of bytes)
