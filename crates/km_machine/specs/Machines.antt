-- What a machine stands for, and what a line makes it do.
use Rattle.std.specs.Prelude.{◌≡◌, ℕ, ◌+◌, ◌≤◌, ◌^◌, List, length, Result}
use Rattle.km_edge.specs.declared.errors.Failed.{Failed}
use Rattle.km_edge.specs.Streams.{SinkState, WritesAll}
use Rattle.km_base.specs.declared.lines.Command.{Command}
use Rattle.km_model.specs.Headline.{IsMemorySize}
use Rattle.km_model.specs.Follows.{Run}
use Rattle.km_model.specs.Expansion.{Makes}
use Rattle.km_model.specs.Output.{line_text}
use Rattle.km_state.specs.State.{State}
use Rattle.km_core.specs.Cores.{Seen, Stands}

-- what a machine is seen as: its core, and the words of its memory
pub record Simulation : Type 0 where
  pub core : Seen
  pub memory : List ℕ

-- a machine stands for a run: the core for its history, and the words hold its memory, which is of a size that there
-- is. The history needn't have stored what they hold
pub record For (machine : Simulation) (run : Run) : Type 0 where
  pub size : IsMemorySize machine.core.parts.words
  pub words : run.words ≡ machine.core.parts.words
  pub whole : length machine.memory ≡ machine.core.parts.words
  pub state : State
  pub stands : Stands machine.core run.history state
  pub memory : machine.memory ≡ run.memory

-- there is room for so many further events and milliseconds, and the words are as many as the core's
pub record HasRoom (machine : Simulation) (acts ticks : ℕ) : Type 0 where
  pub size : length machine.memory ≡ machine.core.parts.words
  pub events : machine.core.events + acts ≤ 2 ^ 62
  pub moment : machine.core.parts.settings.now + ticks ≤ 2 ^ 62

-- between two calls: so many events, and so many milliseconds
pub record Spent (machine next : Simulation) (acts ticks : ℕ) : Type 0 where
  pub size : length next.memory ≡ length machine.memory
  pub words : next.core.parts.words ≡ machine.core.parts.words
  pub events : next.core.events ≤ machine.core.events + acts
  pub moment : next.core.parts.settings.now ≤ machine.core.parts.settings.now + ticks

-- a line is run and its text written, or written up to a fault. Its events are all made, also behind a fault
pub record RunsLine (next : Simulation) (run : Run) (c : Command) (k k' : SinkState) (result : Result (Unit {0}) Failed) : Type 0 where
  pub behind : Run
  pub makes : Makes run c behind
  pub stands : For next behind
  pub wrote : WritesAll k k' (line_text run c behind) result
