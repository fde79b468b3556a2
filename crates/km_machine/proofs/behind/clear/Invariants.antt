use Rattle.km_machine.proofs.Stores.{Cleared}
use Rattle.km_machine.proofs.behind.clear.Given as goal

abbrev pub invariant-loop-i : goal.invariant-loop-i
invariant-loop-i g l = Cleared (g.W.Witness.says l.witness) l.size l.start l.i l.fn.machine l.machine (g.K.Sink.state l.fn.sink) (g.K.Sink.state l.sink) l.fn.written l.written
