use Rattle.km_scan.proofs.Referred.{looked, looked_there}
use Rattle.km_track.specs.Tracker.{begins}
use Rattle.km_why.proofs.Looks.{begin_none, begin_is, is_there_as}
use Rattle.km_why.proofs.counts.beginning_at.Goals as goal

pub returns-in_err-id-clause-block : goal.returns-in_err-id-clause-block
returns-in_err-id-clause-block g c = rw c.from_residual.ensures (begin_none c.args.track.now c.args.start.0 (c.in_err-id.ensures {u = tt}))

pub returns-in_err-record-clause-block : goal.returns-in_err-record-clause-block
returns-in_err-record-clause-block g c =
    let k = looked (begins c.args.start.0) c.args.track.now c.in_ok-id.id (c.in_ok-id.ensures {u = tt}) in
    let e = c.in_err-record.ensures {u = tt} in
    absurd (looked_there (begins c.args.start.0) c.args.track.now c.in_ok-id.id k e.rising e.block)

pub returns-clause-block : goal.returns-clause-block
returns-clause-block g c =
    let e = c.in_ok-record.ensures {u = tt} in
    begin_is c.args.track.now c.args.start.0 c.in_ok-id.id c.in_ok-record.record.now e.rising (c.in_ok-id.ensures {u = tt}) e.block

pub returns-clause-there : goal.returns-clause-there
returns-clause-there g c = let e = c.in_ok-record.ensures {u = tt} in is_there_as c.args.track.now c.in_ok-id.id c.in_ok-record.record.now e.block
