use Rattle.std.proofs.Common.{sym, subst}
use Rattle.km_model.specs.Follows.{all_happen}
use Rattle.km_model.specs.Expansion.{set_register}
use Rattle.km_machine.specs.Lines.{SoFar}
use Rattle.km_machine.proofs.behind.set.Goals as goal

pub returns-in-Some-clause-so_far : goal.returns-in-Some-clause-so_far
returns-in-Some-clause-so_far g c = λ first run k s.
    subst (λ r. SoFar (g.W.Witness.says c.args.witness.now) first (all_happen run (set_register r c.args.start)) c.made.new.machine k (g.K.Sink.state c.made.new.sink) c.made.result) (sym c.in-Some.is)
    (c.made.ensures.so_far first run k s)
