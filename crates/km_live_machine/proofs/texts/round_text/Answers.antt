use Rattle.km_machine.proofs.Pieces.{writes_behind}
use Rattle.km_live_machine.specs.RoundRuns.{full_text}
use Rattle.km_live_machine.proofs.Printed.{ends_text}
use Rattle.km_live_machine.proofs.texts.round_text.Goals as goal

pub returns : goal.returns
returns g c =
    let a = g.K.Sink.state c.args.sink.now in
    let b = g.K.Sink.state c.scan_ends.new.sink in
    let d = g.K.Sink.state c.journal_full.new.sink in
    writes_behind a b d (ends_text c.args.journal.now) (full_text c.args.full) _ c.in_ok-scan_ends.ensures c.journal_full.ensures
