use Rattle.std.proofs.Common.{length}
use Rattle.km_track.specs.Tracker.{live_from}
use Rattle.km_state.specs.StateNext.{first_white_in}
use Rattle.km_scan.specs.Stand.{tracked_from}
use Rattle.km_scan.proofs.Whites.{Seeking}
use Rattle.km_scan.proofs.sums.first_white.Given as goal

abbrev pub invariant-loop-next : goal.invariant-loop-next
invariant-loop-next g l = Seeking (first_white_in (tracked_from l.fn.from l.fn.track)) l.fn.track.live l.next

abbrev pub decreases-loop-next : goal.decreases-loop-next
decreases-loop-next g l = length (live_from l.next l.fn.track.live)
