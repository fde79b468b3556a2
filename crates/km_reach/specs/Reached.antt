-- States that histories lead to.
use Rattle.std.specs.Prelude.{◌≡◌, ℕ, ◌+◌, ◌*◌, ◌<◌, ◌≤◌, ◌^◌, true, length, Some}
use Rattle.km_base.specs.declared.acts.Act.{Act}
use Rattle.km_model.specs.History.{History}
use Rattle.km_model.specs.Memory.{in_memory}
use Rattle.km_model.specs.Past.{Place}
use Rattle.km_model.specs.Follows.{Follows}
use Rattle.km_model.specs.Headline.{IsMemorySize}
use Rattle.km_state.specs.State.{State, world_of}
use Rattle.km_state.specs.StateNext.{state_next}
use Rattle.km_state.specs.StateAnswers.{state_answer}
use Rattle.km_state.specs.StateAfter.{state_after}
use Rattle.km_state.specs.StandsFor.{StandsFor}
use Rattle.km_laws.specs.Laws.{IsPlaced}

-- what stands is placed, now and after one more event; the next load of a scan names a word; no count is greater than the
-- events allow
pub record IsReached (s : State) : Type 0 where
  pub memory : IsMemorySize s.words
  pub placed : IsPlaced s.words (world_of s)
  pub after : (act : Act) (value : ℕ) → value < 2 ^ 64 → IsPlaced s.words (world_of (state_after s act (state_answer s act value)))
  pub next : (p : Place) → state_next s ≡ Some p → in_memory s.words p.word ≡ true
  pub registered : s.registered ≤ 2 * s.events + 1
  pub started : s.started ≤ s.events
  pub scans : s.scans ≤ s.events

-- a state that stands for a history is such a state
abbrev pub StatesAreReached : Type 0
StatesAreReached = (words : ℕ) (h : History) (s : State) → IsMemorySize words → Follows words h → StandsFor words h s → IsReached s
