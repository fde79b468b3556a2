use Rattle.km_notes.proofs.Walks.{walk_begins, walk_ends, walk_goes_on, walk_is_live, walk_stops}
use Rattle.km_machine.proofs.Pieces.{stopped}
use Rattle.km_notes.proofs.listing.write_listing.Goals as goal

pub loop-next-init : goal.loop-next-init
loop-next-init g c = walk_begins _ _ _ c.first_listed-next.ensures

pub returns-in_err-write_listed : goal.returns-in_err-write_listed
returns-in_err-write_listed g c =
    let a = g.K.Sink.state c.args.sink.now in
    let b = g.K.Sink.state c.write_listed.new.sink in
    stopped a b _ _ c.from_residual.ensures.0
    (walk_stops c.args.track.now _ _ _ _ c.in-Some.id c.loop-next.invariant c.write_listed.ensures.rising c.in-Some.is c.in_err-write_listed.ensures.listed)

pub next_listed-next-requires : goal.next_listed-next-requires
next_listed-next-requires g c = walk_is_live c.args.track.now _ _ _ c.in-Some.id c.loop-next.invariant c.write_listed.ensures.rising c.in-Some.is

pub loop-next-smaller : goal.loop-next-smaller
loop-next-smaller g c =
    (walk_goes_on c.args.track.now _ _ (g.K.Sink.state c.write_listed.new.sink) _ _ c.in-Some.id c.loop-next.invariant c.write_listed.ensures.rising c.in-Some.is
    c.next_listed-next.ensures c.in_ok-write_listed.ensures.listed).1

pub loop-next-preserved : goal.loop-next-preserved
loop-next-preserved g c =
    (walk_goes_on c.args.track.now _ _ (g.K.Sink.state c.write_listed.new.sink) _ _ c.in-Some.id c.loop-next.invariant c.write_listed.ensures.rising c.in-Some.is
    c.next_listed-next.ensures c.in_ok-write_listed.ensures.listed).0

pub returns : goal.returns
returns g c = walk_ends _ _ _ _ c.loop-next.invariant c.in_default.is
