use Rattle.km_machine.proofs.Lines.{allocation_plain, refused_line}
use Rattle.km_machine.proofs.line.allocate.Goals as goal

pub returns-in-Err-clause-says : goal.returns-in-Err-clause-says
returns-in-Err-clause-says g c = λ run f.
    refused_line (g.W.Witness.says c.args.witness.now) c.args.machine.now run c.args.command.now (g.K.Sink.state c.args.sink.now) c.in-Err.refusal
    (allocation_plain c.args.command.now c.requires.allocation) f (c.in-Err.ensures.acts run f)
