-- What a core is seen as, and the histories that it stands for.
use Rattle.std.specs.Prelude.{◌≡◌, ℕ, ◌+◌, ◌≤◌, ◌∷◌, length, true}
use Rattle.km_base.specs.declared.acts.Act.{Act}
use Rattle.km_base.specs.declared.acts.Act.TheVariants.{Step}
use Rattle.km_base.specs.declared.acts.Answer.{Answer}
use Rattle.km_laws.specs.Left.{left}
use Rattle.km_model.specs.Answers.{answer as answer_of}
use Rattle.km_model.specs.History.{History, ticks_of, value_of}
use Rattle.km_model.specs.Follows.{Follows, past_of}
use Rattle.km_model.specs.Past.{is_loaded}
use Rattle.km_state.specs.State.{State}
use Rattle.km_state.specs.StateAfter.{state_after}
use Rattle.km_state.specs.StateAnswers.{state_answer}
use Rattle.km_state.specs.StandsFor.{StandsFor}
use Rattle.km_core.specs.Parts.{IsWhole, Parts, StandsAs, Touches}
use Rattle.km_words.specs.Told.{Told}

-- how many acts were answered, and the kernel
pub record Seen : Type 0 where
  pub events : ℕ
  pub parts : Parts

-- a core stands for a history that follows, by the state that stands for it
pub record Stands (c : Seen) (h : History) (s : State) : Type 0 where
  pub events : c.events ≡ length h
  pub follows : Follows c.parts.words h
  pub history : StandsFor c.parts.words h s
  pub parts : StandsAs c.parts s

-- each core stands for some history
pub record IsCore (c : Seen) : Type 0 where
  pub past : History
  pub state : State
  pub stands : Stands c past state
  pub whole : IsWhole c.parts

-- a core answered an act: its answer, what it stands for then, and what was done to the words are those of the definitions
pub record IsAnswered (c d : Seen) (act : Act) (given : Answer) (t u : Told) : Type 0 where
  pub answer : (h : History) (s : State) → Stands c h s → given ≡ state_answer s act (value_of given)
  pub stands : (h : History) (s : State) → Stands c h s → Stands d (record { act = act; answer = given } ∷ h) (state_after s act given)
  pub history : (h : History) (s : State) → Stands c h s → given ≡ answer_of c.parts.words (past_of h) act (value_of given)
  pub left : (h : History) (s : State) → Stands c h s → is_loaded given ≡ true → act ≡ Step → left (past_of (record { act = act; answer = given } ∷ h)) + 1 ≤ left (past_of h)
  pub touches : Touches act given t u
  pub words : d.parts.words ≡ c.parts.words
  pub events : d.events ≡ c.events + 1
  pub now : d.parts.settings.now ≡ c.parts.settings.now + ticks_of act
