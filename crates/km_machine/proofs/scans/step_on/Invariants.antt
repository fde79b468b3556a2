use Rattle.km_edge.specs.Streams.{SinkState}
use Rattle.km_model.specs.Follows.{Run}
use Rattle.km_machine.specs.Lines.{SoFar}
use Rattle.km_machine.specs.Machines.{Spent}
use Rattle.km_machine.proofs.Stepping.{Stepping}
use Rattle.km_machine.proofs.scans.step_on.Given as goal

-- so many steps were made and said, and each loaded
abbrev pub invariant-loop : goal.invariant-loop
invariant-loop g l = record {
  stepping : (first run : Run) (k : SinkState) → SoFar (g.W.Witness.says l.witness) first run l.initial.machine k (g.K.Sink.state l.initial.sink) l.initial.written
      → Stepping (g.W.Witness.says l.witness) first run l.most l.counter l.machine k (g.K.Sink.state l.sink) l.written;
  spent : Spent l.initial.machine l.machine l.counter 0;
}
