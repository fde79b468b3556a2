-- What a round on a machine needs, and what it makes.
use Rattle.std.specs.Prelude.{ℕ, ◌+◌, ◌*◌, ◌≤◌, List, [], ◌++◌, length, map, flat_map, Option, Some, None, Result}
use Rattle.km_base.specs.declared.acts.Act.{Act}
use Rattle.km_edge.specs.declared.errors.Failed.{Failed}
use Rattle.km_edge.specs.Streams.{SinkState, WritesAll}
use Rattle.km_model.specs.Follows.{Run}
use Rattle.km_rounds.specs.declared.entry.Entry.{Entry}
use Rattle.km_rounds.specs.Journals.{Journal}
use Rattle.km_live_model.specs.Lives.{RoundLeads, journal_full_text, register_acts, scan_text}
use Rattle.km_live_workers.specs.declared.workers.Job.{Job as Task}
use Rattle.km_live_workers.specs.Jobs.{job_of}
use Rattle.km_machine.specs.Machines.{For, HasRoom, Simulation, Spent}

-- how many events a round of so many jobs makes at most: the entries with a last halt, and the registers of each job
abbrev pub round_events : ℕ → ℕ → ℕ
round_events entries jobs = entries + 1 + 4 * jobs

-- a round of these jobs may be run on a machine
pub record MayRunRound (m : Simulation) (tasks : List Task) (scans gap entries : ℕ) : Type 0 where
  -- it stands for a run
  pub begun : (run : Run) × For m run
  -- its events have room, and one more
  pub room : HasRoom m (round_events entries (length tasks) + 1) (scans * gap)
  -- the journal can have so many entries
  pub journal : (1 ≤ entries) × (entries ≤ 4194304)
  -- each job gets a thread
  pub few : length tasks ≤ 8

-- a round was run on a machine, and its text was written, or written up to a fault
pub record RunsRound (m : Simulation) (tasks : List Task) (scans gap entries : ℕ) (m' : Simulation) (k k' : SinkState) (result : Result (Unit {0}) Failed) : Type 0 where
  -- for each run for which the machine stood, a round leads on to one for which it stands now, and prints that text
  pub leads : (run : Run) → For m run
      → (run' : Run) × (out : List ℕ) × RoundLeads run (map job_of tasks) scans gap entries run' out × For m' run' × WritesAll k k' out result
  pub spent : Spent m m' (round_events entries (length tasks)) (scans * gap)

-- the registers of these jobs become those of their tasks, in order
abbrev pub acts_of_jobs : List Task → List Act
acts_of_jobs tasks = flat_map (λ (t : Task). register_acts t.task t.regs) tasks

-- the line of a full journal, which had room for so many entries, if one was full
abbrev pub full_text : Option ℕ → List ℕ
full_text None = []
full_text (Some entries) = journal_full_text entries

-- what a round prints by its journal and by what is told of a full one
abbrev pub told_text : Journal → Option ℕ → List ℕ
told_text journal full = flat_map (λ (e : Entry). scan_text e.answer) journal ++ full_text full
