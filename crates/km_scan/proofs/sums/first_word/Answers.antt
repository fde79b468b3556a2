use Rattle.std.proofs.Common.{sym}
use Rattle.km_track.specs.Tracker.{Live, tracked_of}
use Rattle.km_scan.proofs.Whites.{first_is_word}
use Rattle.km_scan.proofs.sums.first_word.Goals as goal

pub returns-clause-fits : goal.returns-clause-fits
returns-clause-fits g c =
    let e = c.in_ok-record.ensures {u = tt} in
    let k : Live = record { slot = c.args.id.slot; tracked = tracked_of c.args.id.generation c.in_ok-record.record.now } in
    λ stacks roll l f white. (l, f, first_is_word c.args.id c.args.track.now.live k l e.apart (sym e.block) f e.sound.size, white)
