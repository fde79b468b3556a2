-- What the program does, by the words after its name.
use Rattle.std.specs.Prelude.{◌≡◌, ℕ, List, [], ◌∷◌, ◌++◌, Option}
use Rattle.km_base.specs.declared.status.Status.{Status}
use Rattle.km_base.specs.declared.status.Status.TheVariants as status
use Rattle.km_edge.specs.Streams.{SourceState, SinkState}
use Rattle.km_reader.specs.Lines.{IsLeft}
use Rattle.km_machine.specs.Machines.{Simulation}
use Rattle.km_engine.specs.Program.{IsAnswered}
use Rattle.km_live_engine.specs.Outcome.{live_scripts}
use Rattle.km_live_engine.specs.Steps.{LedTo}

-- a live script is run
pub record RunsLive (s s' : SourceState) (k k' : SinkState) (ended : Status) : Type 0 where
  -- how it ends, by the table of causes: where nothing fails, the status is that of the bytes, and what was written is one
  -- of their outputs
  pub answered : IsAnswered live_scripts s s' k k' ended
  -- one machine ran all its lines: where they were run to the end, or to one that is refused, it stands for the history
  -- that they came to with that text
  pub machine : Option Simulation
  pub led : (remaining : List ℕ) → IsLeft s'.left remaining → LedTo machine (answered.causes.taken ++ remaining) answered.causes.written ended

-- what is done. With no word a live script is run
abbrev pub DoesLive : {S K : Type 0} → (S → SourceState) → (K → SinkState) → List (List ℕ) → S → S → K → K → Status → Type 0
DoesLive source sink [] s s' k k' ended = RunsLive (source s) (source s') (sink k) (sink k') ended
-- a word is one too many: nothing is read or written
DoesLive source sink (_ ∷ _) s s' k k' ended = (ended ≡ status.BadWords 1) × (s' ≡ s) × (k' ≡ k)
