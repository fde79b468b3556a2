-- What a step of the scanner is.
use Rattle.std.specs.Prelude.{◌≡◌}
use Rattle.km_base.specs.declared.acts.Act.TheVariants.{Step}
use Rattle.km_base.specs.declared.acts.Answer.{Answer}
use Rattle.km_model.specs.History.{value_of}
use Rattle.km_state.specs.State.{State}
use Rattle.km_state.specs.StateAfter.{state_after}
use Rattle.km_state.specs.StateAnswers.{state_answer}
use Rattle.km_tasks.specs.Roll.{Roll}
use Rattle.km_objects.specs.Objects.{Agree, AreOf, Objects, places}

-- the answer and what is left are those of the states whose blocks and scans these are
pub record IsStep (o : Objects) (roll : Roll) (answer : Answer) (left : Objects) : Type 0 where
  pub answered : (s : State) → AreOf o s → s.tasks ≡ roll.tasks → answer ≡ state_answer s Step (value_of answer)
  pub state : (s : State) → AreOf o s → s.tasks ≡ roll.tasks → AreOf left (state_after s Step answer)
  pub agree : Agree left roll
  pub room : places left ≡ places o
