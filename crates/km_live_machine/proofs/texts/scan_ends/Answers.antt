use Rattle.km_machine.proofs.Pieces.{stopped}
use Rattle.km_live_machine.proofs.Printed.{next_printed, next_stopped}
use Rattle.km_live_machine.proofs.texts.scan_ends.Goals as goal

pub returns-in_err-scan_end : goal.returns-in_err-scan_end
returns-in_err-scan_end g c =
    let a = g.K.Sink.state c.args.sink.now in
    let b = g.K.Sink.state c.loop-entry.sink in
    let d = g.K.Sink.state c.scan_end.new.sink in
    stopped a d _ _ c.from_residual.ensures.0
    (next_stopped c.args.journal.now c.loop-entry.entry-index c.entry-item.result a b d c.loop-entry-test.true c.entry-item.is c.loop-entry.invariant c.in_err-scan_end.ensures)

pub loop-entry-preserved : goal.loop-entry-preserved
loop-entry-preserved g c =
    let a = g.K.Sink.state c.args.sink.now in
    let b = g.K.Sink.state c.loop-entry.sink in
    let d = g.K.Sink.state c.scan_end.new.sink in
    next_printed c.args.journal.now c.loop-entry.entry-index c.entry-item.result a b d c.loop-entry-test.true c.entry-item.is c.loop-entry.invariant c.in_ok-scan_end.ensures
