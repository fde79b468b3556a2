use Rattle.km_machine.proofs.Pieces.{stopped}
use Rattle.km_notes.proofs.Pieces.{next_noted, next_stopped}
use Rattle.km_notes.proofs.lines.note_entries.Goals as goal

pub returns-in_err-write_event : goal.returns-in_err-write_event
returns-in_err-write_event g c =
    let a = g.K.Sink.state c.args.sink.now in
    let b = g.K.Sink.state c.loop-entry.sink in
    let d = g.K.Sink.state c.write_event.new.sink in
    stopped a d _ _ c.from_residual.ensures.0
    (next_stopped c.args.entries.now c.loop-entry.entry-index c.entry-item.result a b d c.loop-entry-test.true c.entry-item.is c.loop-entry.invariant c.in_err-write_event.ensures)

pub loop-entry-preserved : goal.loop-entry-preserved
loop-entry-preserved g c =
    let a = g.K.Sink.state c.args.sink.now in
    let b = g.K.Sink.state c.loop-entry.sink in
    let d = g.K.Sink.state c.write_event.new.sink in
    next_noted c.args.entries.now c.loop-entry.entry-index c.entry-item.result a b d c.loop-entry-test.true c.entry-item.is c.loop-entry.invariant c.in_ok-write_event.ensures
