use Rattle.std.proofs.Common.{refl}
use Rattle.km_machine.proofs.Lines.{reads}
use Rattle.km_machine.proofs.Sayings.{said_none}
use Rattle.km_machine.proofs.line.read.Goals as goal

pub returns-clause-says : goal.returns-clause-says
returns-clause-says g c = λ run f.
    let says = g.W.Witness.says c.args.witness.now in
    let k = g.K.Sink.state c.args.sink.now in
    let e = c.event-answer.ensures in
    reads says c.say.new.machine run k (g.K.Sink.state c.say.new.sink) c.say.result
    (c.say.ensures.so_far run run k (said_none says run k) (e.happens run f) (e.answer run f) (λ request. absurd (let z : ⊥ = cc in z)) (λ read. refl))
