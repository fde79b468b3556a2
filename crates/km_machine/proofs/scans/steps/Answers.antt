use Rattle.std.proofs.Common.{[], refl}
use Rattle.km_base.specs.declared.lines.Command.TheVariants as command
use Rattle.km_machine.proofs.Lines.{says_line}
use Rattle.km_machine.proofs.Sayings.{begun}
use Rattle.km_machine.proofs.scans.steps.Goals as goal

pub returns-clause-says : goal.returns-clause-says
returns-clause-says g c = λ run stands.
    let says = g.W.Witness.says c.args.witness.now in
    let k = g.K.Sink.state c.args.sink.now in
    let s = c.step_on.ensures.stepped run run k (begun says c.args.machine.now run k stands) in
    says_line says c.step_on.new.machine run s.behind (command.Step c.args.n) k (g.K.Sink.state c.step_on.new.sink) c.step_on.result [] refl s.makes s.so_far
