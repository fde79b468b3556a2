use Rattle.std.proofs.Common.{length}
use Rattle.km_track.specs.Tracker.{live_from}
use Rattle.km_why.proofs.Cleared.{IsClearing}
use Rattle.km_why.proofs.counts.clear.Given as goal

abbrev pub invariant-loop-next : goal.invariant-loop-next
invariant-loop-next g l = IsClearing l.track l.next l.fn.counts.items l.counts.items

abbrev pub decreases-loop-next : goal.decreases-loop-next
decreases-loop-next g l = length (live_from l.next l.track.live)
