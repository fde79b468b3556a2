use Rattle.km_machine.proofs.Stores.{Filled}
use Rattle.km_machine.proofs.behind.fill.Given as goal

abbrev pub invariant-loop-i : goal.invariant-loop-i
invariant-loop-i g l = Filled (g.W.Witness.says l.witness) l.start l.values l.i l.fn.machine l.machine (g.K.Sink.state l.fn.sink) (g.K.Sink.state l.sink) l.fn.written l.written
