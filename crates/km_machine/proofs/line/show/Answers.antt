use Rattle.std.proofs.Common.{◌∙◌, subst}
use Rattle.km_edge.specs.Streams.{WritesAll}
use Rattle.km_machine.proofs.Lines.{shows}
use Rattle.km_machine.proofs.line.show.Goals as goal

pub returns-in-Ok : goal.returns-in-Ok
returns-in-Ok g c = λ run f.
    let k = g.K.Sink.state c.args.sink.now in
    let k' = g.K.Sink.state c.write_all.new.sink in
    shows c.args.machine.now run c.args.operand.now k k' c.write_all.result c.in-Ok.value f (c.in-Ok.ensures run f)
    (subst (λ t. WritesAll k k' t c.write_all.result) (c.bytes.ensures ∙ c.value-in-Ok.ensures) c.write_all.ensures)
