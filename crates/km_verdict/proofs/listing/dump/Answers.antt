use Rattle.std.proofs.Common.{Some, ap, ◌∙◌}
use Rattle.km_verdict.proofs.Shown.{shows_none, shows_no_less, shows_record}
use Rattle.km_verdict.proofs.listing.dump.Goals as goal

pub returns-in_err-id : goal.returns-in_err-id
returns-in_err-id g c = c.from_residual.ensures ∙ shows_none c.args.a.0 c.args.track.now (c.in_err-id.ensures {u = tt})

pub returns-in_err-record : goal.returns-in_err-record
returns-in_err-record g c =
    let e = c.in_err-record.ensures {u = tt} in
    absurd (shows_no_less c.args.a.0 c.args.track.now c.in_ok-id.id e.rising (c.in_ok-id.ensures {u = tt}) e.block)

pub returns : goal.returns
returns g c =
    let e = c.in_ok-record.ensures {u = tt} in
    ap Some c.info.ensures ∙ shows_record c.args.a.0 c.args.track.now c.in_ok-id.id c.in_ok-record.record.now e.rising (c.in_ok-id.ensures {u = tt}) e.block
