use Rattle.km_notes.proofs.Walks.{Walk, left}
use Rattle.km_notes.proofs.listing.write_listing.Given as goal

abbrev pub invariant-loop-next : goal.invariant-loop-next
invariant-loop-next g l = Walk l.track (g.K.Sink.state l.initial.sink) (g.K.Sink.state l.sink) l.next

abbrev pub decreases-loop-next : goal.decreases-loop-next
decreases-loop-next g l = left l.next l.track.live
