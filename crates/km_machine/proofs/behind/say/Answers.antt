use Rattle.std.proofs.Common.{subst, sym}
use Rattle.km_edge.specs.Streams.{WritesAll}
use Rattle.km_model.specs.Follows.{happens}
use Rattle.km_machine.specs.Machines.{For}
use Rattle.km_machine.specs.Sayings.{said_of}
use Rattle.km_machine.proofs.Pieces.{stops_early, writes_behind}
use Rattle.km_machine.proofs.Sayings.{said_more}
use Rattle.km_machine.proofs.behind.say.Goals as goal

pub returns-in-Ok-clause-so_far : goal.returns-in-Ok-clause-so_far
returns-in-Ok-clause-so_far g c = λ first run k said stands answered asks read.
    let says = g.W.Witness.says c.args.witness.now in
    let k' = g.K.Sink.state c.args.sink.now in
    let k'' = g.K.Sink.state c.event.new.sink in
    record {
      stands = subst (λ x. For x (happens run c.args.act.now)) (sym c.event.ensures.same) stands;
      said = said_more says first run k k' k'' _ c.event.result c.args.act.now c.args.answer.now said answered
          (writes_behind k k' k'' _ _ _ (subst (λ w. WritesAll k k' (said_of says first.memory said.count run.history) w) c.in-Ok.is said.wrote)
          (c.event.ensures.said run first.memory stands answered asks read));
    }

pub returns-in-Err-clause-so_far : goal.returns-in-Err-clause-so_far
returns-in-Err-clause-so_far g c = λ first run k said stands answered asks read.
    let says = g.W.Witness.says c.args.witness.now in
    let k' = g.K.Sink.state c.args.sink.now in
    record {
      stands = stands;
      said = said_more says first run k k' k' _ _ c.args.act.now c.args.answer.now said answered
          (stops_early k k' _ _ (subst (λ w. WritesAll k k' (said_of says first.memory said.count run.history) w) c.in-Err.is said.wrote));
    }
