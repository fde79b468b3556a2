use Rattle.std.proofs.Common.{refl, ap, ◌∙◌, subst}
use Rattle.km_edge.specs.Streams.{WritesAll, Wrote}
use Rattle.km_track.specs.Tracker.{Tracker}
use Rattle.km_verdict.specs.Listing.{behind, listed_in}
use Rattle.km_machine.specs.Machines.{Simulation}
use Rattle.km_machine.proofs.Listings.{all_lie, listing_begins, listing_ends, listing_goes_on, listing_is, listing_is_live, listing_stops}
use Rattle.km_machine.proofs.Pieces.{stopped}
use Rattle.km_machine.proofs.print.listing.Goals as goal

pub loop-next-init : goal.loop-next-init
loop-next-init g c = record { same = refl; listing = listing_begins _ _ _ _ _ (c.first_listed-next.ensures ∙ ap (λ (t : Tracker). listed_in t.live) c.track-track.ensures) }

pub returns-in_err-entry-clause-listing : goal.returns-in_err-entry-clause-listing
returns-in_err-entry-clause-listing g c = λ run stands.
    let a = g.K.Sink.state c.args.sink.now in
    let b = g.K.Sink.state c.entry.new.sink in
    let core = c.args.core.now in
    let machine : Simulation = record { core = core; memory = c.args.words.now } in
    let old = c.loop-next.invariant in
    subst (λ xs. WritesAll a b xs c.from_residual.result) (listing_is machine run stands)
    (stopped a b _ _ c.from_residual.ensures.0
    (listing_stops core.parts.objects.tracker core.parts.settings.now _ c.loop-next.words _ _ _ _ c.in-Some.id old.listing c.entry.ensures.rising c.in-Some.is old.same c.in_err-entry.ensures.entry (all_lie machine run stands)))

pub next_listed-next-requires : goal.next_listed-next-requires
next_listed-next-requires g c =
    rw c.track-track.ensures (listing_is_live c.args.core.now.parts.objects.tracker _ _ _ _ _ c.in-Some.id c.loop-next.invariant.listing c.entry.ensures.rising c.in-Some.is)

pub loop-next-smaller : goal.loop-next-smaller
loop-next-smaller g c =
    let t = c.args.core.now.parts.objects.tracker in
    let old = c.loop-next.invariant in
    (listing_goes_on t c.args.core.now.parts.settings.now _ c.loop-next.words _ _ (g.K.Sink.state c.entry.new.sink) _ _ c.in-Some.id old.listing c.entry.ensures.rising c.in-Some.is
    (c.next_listed-next.ensures ∙ ap (λ (u : Tracker). listed_in (behind c.in-Some.id u.live)) c.track-track.ensures) old.same c.in_ok-entry.ensures.entry).1

pub loop-next-preserved : goal.loop-next-preserved
loop-next-preserved g c =
    let t = c.args.core.now.parts.objects.tracker in
    let old = c.loop-next.invariant in
    record {
      same = c.entry.ensures.same ∙ old.same;
      listing = (listing_goes_on t c.args.core.now.parts.settings.now _ c.loop-next.words _ _ (g.K.Sink.state c.entry.new.sink) _ _ c.in-Some.id old.listing c.entry.ensures.rising c.in-Some.is
          (c.next_listed-next.ensures ∙ ap (λ (u : Tracker). listed_in (behind c.in-Some.id u.live)) c.track-track.ensures) old.same c.in_ok-entry.ensures.entry).0;
    }

pub returns-clause-listing : goal.returns-clause-listing
returns-clause-listing g c = λ run stands.
    let a = g.K.Sink.state c.args.sink.now in
    let b = g.K.Sink.state c.loop-next.sink in
    let core = c.args.core.now in
    let machine : Simulation = record { core = core; memory = c.args.words.now } in
    subst (λ xs. Wrote a b xs) (listing_is machine run stands)
    (listing_ends core.parts.objects.tracker _ _ _ _ _ c.loop-next.invariant.listing c.in_default.is (all_lie machine run stands))
