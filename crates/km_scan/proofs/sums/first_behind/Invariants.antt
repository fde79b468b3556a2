use Rattle.std.proofs.Common.{length}
use Rattle.km_track.specs.Tracker.{live_from}
use Rattle.km_scan.proofs.Whites.{Skipping}
use Rattle.km_scan.proofs.sums.first_behind.Given as goal

abbrev pub invariant-loop-next : goal.invariant-loop-next
invariant-loop-next g l = Skipping l.generation l.fn.track.live l.next

abbrev pub decreases-loop-next : goal.decreases-loop-next
decreases-loop-next g l = length (live_from l.next l.fn.track.live)
