use Rattle.std.proofs.Common.{[], refl, lit≤}
use Rattle.km_base.specs.declared.lines.Command.TheVariants as command
use Rattle.km_machine.proofs.Lines.{says_line}
use Rattle.km_machine.proofs.Sayings.{begun}
use Rattle.km_machine.proofs.Stepping.{finished}
use Rattle.km_machine.proofs.scans.finish.Goals as goal

pub returns-clause-says : goal.returns-clause-says
returns-clause-says g c = λ run stands.
    let says = g.W.Witness.says c.args.witness.now in
    let m = c.args.machine.now in
    let k = g.K.Sink.state c.args.sink.now in
    let k' = g.K.Sink.state c.step_on.new.sink in
    let s = c.step_on.ensures.stepped run run k (begun says m run k stands) in
    says_line says c.step_on.new.machine run s.behind command.Finish k k' c.step_on.result [] refl
    (finished says run run 33554431 m c.step_on.new.machine k k' c.step_on.result stands s (lit≤ tt)) s.so_far
