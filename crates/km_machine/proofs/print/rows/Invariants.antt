use Rattle.std.specs.Slice.Iter.{chunks_rest, chunks_size}
use Rattle.km_machine.proofs.Entries.{Rows}
use Rattle.km_machine.proofs.print.rows.Given as goal

abbrev pub invariant-loop-row : goal.invariant-loop-row
invariant-loop-row g l = Rows (chunks_size l.row-iterator) l.bytes (chunks_rest l.row-iterator) (g.K.Sink.state l.initial.sink) (g.K.Sink.state l.sink)
