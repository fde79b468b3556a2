use Rattle.std.proofs.Common.{take}
use Rattle.km_edge.specs.Streams.{Wrote}
use Rattle.km_notes.specs.Notes.{journal_lines}
use Rattle.km_notes.proofs.lines.note_entries.Given as goal

abbrev pub invariant-loop-entry : goal.invariant-loop-entry
invariant-loop-entry g l = Wrote (g.K.Sink.state l.fn.sink) (g.K.Sink.state l.sink) (journal_lines (take l.entry-index l.entries))
