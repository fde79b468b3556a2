-- What the words of a line are read as.
use Rattle.std.specs.Prelude.{ℕ, nat_lt, List, Option, Some, None, Ok, Err, if◌then◌else◌}
use Rattle.km_model.specs.Grammar.{apply_rule}
use Rattle.km_model.specs.Pieces.{Piece}
use Rattle.km_live_model.specs.LiveGrammar.{LiveReading, as_job, job_rules, none_at}

-- a command of a thread, whose operands may still name other tasks
unfoldable pub job_read : Piece → ℕ → List Piece → LiveReading
job_read p end ps = as_job p.column (apply_rule job_rules p end ps)

-- a reading, or the refusal at a column, whichever comes first in the line
abbrev pub unless_before_column : Option ℕ → LiveReading → LiveReading
unless_before_column None reading = reading
unless_before_column (Some column) (Ok _) = none_at column
unless_before_column (Some column) (Err e) = if nat_lt column e.column then none_at column else Err e
