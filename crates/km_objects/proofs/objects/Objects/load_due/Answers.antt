use Rattle.std.proofs.Common.{◌≡◌, Some, true, sym, subst}
use Rattle.km_model.specs.Memory.{in_memory}
use Rattle.km_model.specs.Past.{Place}
use Rattle.km_scan.specs.declared.sweep.Sweep.{Sweep}
use Rattle.km_scan.specs.Stand.{scanning_of, seen}
use Rattle.km_state.specs.StateNext.{next_in}
use Rattle.km_objects.specs.Objects.{Agree, Objects}
use Rattle.km_objects.proofs.objects.Objects.load_due.Goals as goal

pub load_due-requires-clause-agree : goal.load_due-requires-clause-agree
load_due-requires-clause-agree g c = subst (λ (o : Objects). Agree o c.args.tasks.now) (sym c.self.view_is) c.requires.agree

pub load_due-requires-clause-words : goal.load_due-requires-clause-words
load_due-requires-clause-words g c =
    subst (λ (o : Objects). (w : Sweep) (p : Place) → o.stand.sweep ≡ Some w → next_in (seen o.stand.stacks o.tracker c.args.tasks.now) (scanning_of o.tracker w) ≡ Some p → in_memory (g.W.Words.told c.args.words.now).size p.word ≡ true) (sym c.self.view_is) c.requires.words
