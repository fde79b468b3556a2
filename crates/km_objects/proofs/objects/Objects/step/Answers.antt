use Rattle.std.proofs.Common.{◌≡◌, Some, true, sym, subst}
use Rattle.km_model.specs.Memory.{in_memory}
use Rattle.km_model.specs.Past.{Place}
use Rattle.km_scan.specs.declared.sweep.Sweep.{Sweep}
use Rattle.km_scan.specs.Stand.{scanning_of, seen}
use Rattle.km_state.specs.StateNext.{next_in}
use Rattle.km_objects.specs.Objects.{Agree, Objects}
use Rattle.km_objects.proofs.Steps.{step_of}
use Rattle.km_objects.proofs.objects.Objects.step.Goals as goal

pub step-requires-clause-agree : goal.step-requires-clause-agree
step-requires-clause-agree g c = subst (λ (o : Objects). Agree o c.args.tasks.now) (sym c.self.view_is) c.requires.agree

pub step-requires-clause-words : goal.step-requires-clause-words
step-requires-clause-words g c =
    subst (λ (o : Objects). (w : Sweep) (p : Place) → o.stand.sweep ≡ Some w → next_in (seen o.stand.stacks o.tracker c.args.tasks.now) (scanning_of o.tracker w) ≡ Some p → in_memory (g.W.Words.told c.args.words.now).size p.word ≡ true) (sym c.self.view_is) c.requires.words

pub returns-clause-answer : goal.returns-clause-answer
returns-clause-answer g c = (step_of _ _ _ _ _ c.self.view_is c.step.ensures.step).answered

pub returns-clause-state : goal.returns-clause-state
returns-clause-state g c = (step_of _ _ _ _ _ c.self.view_is c.step.ensures.step).state

pub returns-clause-places : goal.returns-clause-places
returns-clause-places g c = (step_of _ _ _ _ _ c.self.view_is c.step.ensures.step).room
