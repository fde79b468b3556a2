use Rattle.std.proofs.Common.{sym, subst}
use Rattle.km_objects.specs.Objects.{Agree}
use Rattle.km_core.proofs.kernel.Kernel.register.Goals as goal

pub returns-then-self-clause-agree : goal.returns-then-self-clause-agree
returns-then-self-clause-agree g c = λ roll a. c.register.ensures.agree roll (subst (λ p. Agree p.objects roll) (sym c.self.view_is) a)
