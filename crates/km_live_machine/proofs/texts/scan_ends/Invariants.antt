use Rattle.std.proofs.Common.{take}
use Rattle.km_edge.specs.Streams.{Wrote}
use Rattle.km_live_machine.proofs.Printed.{ends_text}
use Rattle.km_live_machine.proofs.texts.scan_ends.Given as goal

abbrev pub invariant-loop-entry : goal.invariant-loop-entry
invariant-loop-entry g l = Wrote (g.K.Sink.state l.fn.sink) (g.K.Sink.state l.sink) (ends_text (take l.entry-index l.journal))
