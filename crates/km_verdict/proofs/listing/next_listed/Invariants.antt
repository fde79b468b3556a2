use Rattle.std.proofs.Common.{length}
use Rattle.km_track.specs.Tracker.{live_from}
use Rattle.km_verdict.proofs.Listings.{Looking}
use Rattle.km_verdict.proofs.listing.next_listed.Given as goal

abbrev pub invariant-loop-next : goal.invariant-loop-next
invariant-loop-next g l = Looking l.fn.id l.fn.track.live l.next

abbrev pub decreases-loop-next : goal.decreases-loop-next
decreases-loop-next g l = length (live_from l.next l.fn.track.live)
