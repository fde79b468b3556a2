use Rattle.std.proofs.Common.{◌≡◌}
use Rattle.km_machine.proofs.Listings.{Listing, left}
use Rattle.km_machine.proofs.print.listing.Given as goal

abbrev pub invariant-loop-next : goal.invariant-loop-next
invariant-loop-next g l = record {
  same : l.words ≡ l.initial.words;
  listing : Listing l.core.parts.objects.tracker l.core.parts.settings.now l.initial.words (g.K.Sink.state l.initial.sink) (g.K.Sink.state l.sink) l.next;
}

abbrev pub decreases-loop-next : goal.decreases-loop-next
decreases-loop-next g l = left l.next l.core.parts.objects.tracker.live
