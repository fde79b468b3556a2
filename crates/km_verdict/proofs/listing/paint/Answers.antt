use Rattle.std.proofs.Common.{sym, ◌∙◌}
use Rattle.km_track.specs.Tracker.{tracked_of}
use Rattle.km_verdict.proofs.Shown.{live_found, paints_one}
use Rattle.km_verdict.proofs.listing.paint.Goals as goal

pub returns-in_default : goal.returns-in_default
returns-in_default g c = absurd (live_found c.args.id c.args.track.now.live c.requires (sym (c.in_default.ensures {u = tt}).block))

pub returns : goal.returns
returns g c =
    let e = c.in-Some.ensures {u = tt} in
    c.annotate.ensures.block ∙ paints_one c.args.track.now c.args.id (record { slot = c.args.id.slot; tracked = tracked_of c.args.id.generation c.in-Some.record.now }) e.rising e.apart (sym e.block)
