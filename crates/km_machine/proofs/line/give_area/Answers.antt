use Rattle.km_machine.proofs.Lines.{gives, gives_none}
use Rattle.km_machine.proofs.line.give_area.Goals as goal

pub returns-in-Ok-clause-says : goal.returns-in-Ok-clause-says
returns-in-Ok-clause-says g c = λ run f.
    gives (g.W.Witness.says c.args.witness.now) c.give.new.machine run c.args.operand.now (g.K.Sink.state c.args.sink.now) (g.K.Sink.state c.give.new.sink) c.give.result c.in-Ok.start
    (c.in-Ok.ensures run f) (c.give.ensures.so_far run f)

pub returns-in-Err-clause-says : goal.returns-in-Err-clause-says
returns-in-Err-clause-says g c = λ run f.
    gives_none (g.W.Witness.says c.args.witness.now) c.args.machine.now run c.args.operand.now (g.K.Sink.state c.args.sink.now) c.in-Err.refusal f (c.in-Err.ensures run f)
