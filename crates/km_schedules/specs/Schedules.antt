-- Runs from which there are rounds.
use Rattle.std.specs.Prelude.{◌≡◌, ℕ, ◌<◌, ◌^◌, List, length}
use Rattle.km_base.specs.declared.lines.Command.{Command}
use Rattle.km_model.specs.Members.{Each}
use Rattle.km_model.specs.Follows.{Run, Follows, first_run}
use Rattle.km_model.specs.Expansion.{Makes}
use Rattle.km_model.specs.Headline.{IsMemorySize}
use Rattle.km_live_model.specs.Rounds.{Job}
use Rattle.km_live_model.specs.Lives.{RoundLeads}

-- a number of 64 bits
abbrev pub IsWord : ℕ → Type 0
IsWord v = v < 2 ^ 64

-- a run whose memory has an allowed size and holds words of 64 bits, and whose history follows. What the words hold
-- needn't be what the history stored
pub record IsSoundRun (r : Run) : Type 0 where
  pub size : IsMemorySize r.words
  pub whole : length r.memory ≡ r.words
  pub small : Each IsWord r.memory
  pub follows : Follows r.words r.history

-- a script begins with a sound run
abbrev pub FirstRunIsSound : Type 0
FirstRunIsSound = (words : ℕ) → IsMemorySize words → IsSoundRun (first_run words)

-- each line of a script leads from a sound run to a sound run, with as many words
abbrev pub LineKeeps : Type 0
LineKeeps = (r : Run) (c : Command) (r' : Run) → IsSoundRun r → Makes r c r' → IsSoundRun r' × (r'.words ≡ r.words)

-- from each sound run there is a round, whatever its jobs are and however few entries its journal may have
abbrev pub RoundIsThere : Type 0
RoundIsThere =
    (r : Run) (jobs : List Job) (scans gap entries : ℕ) → IsSoundRun r → (r' : Run) × (out : List ℕ) × RoundLeads r jobs scans gap entries r' out

-- each round leads from a sound run to a sound run, with as many words
abbrev pub RoundKeeps : Type 0
RoundKeeps =
    (r : Run) (jobs : List Job) (scans gap entries : ℕ) (r' : Run) (out : List ℕ) → IsSoundRun r → RoundLeads r jobs scans gap entries r' out
    → IsSoundRun r' × (r'.words ≡ r.words)
