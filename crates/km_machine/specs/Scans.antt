-- What scanner steps and automatic scans make of a run, and what answers print.
use Rattle.std.specs.Prelude.{◌≡◌, ℕ, ◌<◌, List, [], is_none, Result, IsTrue}
use Rattle.km_base.specs.declared.acts.Answer.{Answer}
use Rattle.km_base.specs.declared.acts.Answer.TheVariants.{Done, At, Loaded, Ended, Stopped, Skipped, Dumped, Refused}
use Rattle.km_edge.specs.declared.errors.Failed.{Failed}
use Rattle.km_edge.specs.Streams.{SinkState}
use Rattle.km_model.specs.Follows.{Run, past_of}
use Rattle.km_model.specs.Expansion.{world_after, is_idle, steps, due_by, ScansIfBegun, TicksOver}
use Rattle.km_model.specs.Text.{dump_text, new_text, refusal_text, stopped_text}
use Rattle.km_laws.specs.Left.{left}
use Rattle.km_machine.specs.Lines.{SoFar}
use Rattle.km_machine.specs.Machines.{Simulation}
use Rattle.km_machine.specs.Sayings.{Saying}

-- what an answer prints that is neither an address nor one to a read
abbrev pub shown : Answer → List ℕ
shown Done = []
shown (At _) = []
shown (Loaded _ _) = []
shown (Ended _ new) = new_text new
shown (Stopped scan) = stopped_text scan
shown Skipped = []
shown (Dumped info) = dump_text info
shown (Refused r) = refusal_text r

-- at most so many scanner steps were made and said. More than are left of the scan end it
pub record Stepped (says : Saying) (first run : Run) (most : ℕ) (machine : Simulation) (k k' : SinkState) (written : Result (Unit {0}) Failed) : Type 0 where
  pub behind : Run
  pub makes : steps most run ≡ behind
  pub so_far : SoFar says first behind machine k k' written
  pub ended : left (past_of run.history) < most → IsTrue (is_idle behind.history)

-- a whole scan was made and said if an event began one
pub record Scanned (says : Saying) (first run : Run) (machine : Simulation) (k k' : SinkState) (written : Result (Unit {0}) Failed) : Type 0 where
  pub behind : Run
  pub makes : ScansIfBegun run behind
  pub so_far : SoFar says first behind machine k k' written

-- over some automatic scans to a moment
abbrev pub ReachesOver : ℕ → Run → Run → Type 0
ReachesOver target run run' = (scans : ℕ) × TicksOver target scans run run'

-- the automatic scans that are due by a moment were made and said
pub record ScansUntil (says : Saying) (target : ℕ) (run : Run) (machine : Simulation) (k k' : SinkState) (written : Result (Unit {0}) Failed) : Type 0 where
  pub behind : Run
  pub over : (run' : Run) → ReachesOver target behind run' → ReachesOver target run run'
  pub none_due : IsTrue (is_none (due_by target (world_after behind.history)))
  pub so_far : SoFar says run behind machine k k' written
