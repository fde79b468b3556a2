use Rattle.std.proofs.Common.{refl}
use Rattle.km_why.proofs.Opened.{begun_alone, begun_with, can, may_count, places_stay}
use Rattle.km_why.proofs.Sought.{can_after}
use Rattle.km_why.proofs.search.begin.Goals as goal

pub returns-then-not-stacks-clause-can : goal.returns-then-not-stacks-clause-can
returns-then-not-stacks-clause-can g c = can _ c.args.track.now _ c.requires.told c.requires.small c.requires.laid c.clear-3.ensures.rising c.clear-3.ensures.apart

pub returns-then-not-stacks-clause-begun : goal.returns-then-not-stacks-clause-begun
returns-then-not-stacks-clause-begun g c =
    begun_alone _ c.args.track.now _ c.requires.told c.requires.small c.requires.laid c.clear-3.ensures.rising c.clear-3.ensures.apart (record { counts = c.clear-3.new.counts; waiting = c.clear-2.new.self; members = c.clear.new.self })
    (record { counted = c.clear-3.ensures.counted _; items = c.clear-2.ensures.items; len = c.clear-2.ensures.len; ordered = c.clear-2.ensures.heap_order; members = c.clear.ensures.items; long = c.clear.ensures.len })
    (places_stay _ c.args.search.now _ c.requires.places c.clear-3.ensures.long c.clear-2.ensures.capacity c.clear.ensures.capacity) c.args.stacks c.if-not-stacks.true

pub count_stacks-requires-clause-can : goal.count_stacks-requires-clause-can
count_stacks-requires-clause-can g c =
    may_count _ c.args.track.now _ c.requires.told c.requires.small c.requires.laid c.clear-3.ensures.rising c.clear-3.ensures.apart (record { counts = c.clear-3.new.counts; waiting = c.clear-2.new.self; members = c.clear.new.self })
    (record { counted = c.clear-3.ensures.counted _; items = c.clear-2.ensures.items; len = c.clear-2.ensures.len; ordered = c.clear-2.ensures.heap_order; members = c.clear.ensures.items; long = c.clear.ensures.len })
    (places_stay _ c.args.search.now _ c.requires.places c.clear-3.ensures.long c.clear-2.ensures.capacity c.clear.ensures.capacity)

pub returns-clause-can : goal.returns-clause-can
returns-clause-can g c = can_after _ _ _ (can _ c.args.track.now _ c.requires.told c.requires.small c.requires.laid c.clear-3.ensures.rising c.clear-3.ensures.apart) c.count_stacks.ensures.told

pub returns-clause-begun : goal.returns-clause-begun
returns-clause-begun g c =
    begun_with _ c.args.track.now _ c.requires.told c.requires.small c.requires.laid c.clear-3.ensures.rising c.clear-3.ensures.apart (record { counts = c.clear-3.new.counts; waiting = c.clear-2.new.self; members = c.clear.new.self })
    (record { counted = c.clear-3.ensures.counted _; items = c.clear-2.ensures.items; len = c.clear-2.ensures.len; ordered = c.clear-2.ensures.heap_order; members = c.clear.ensures.items; long = c.clear.ensures.len })
    (places_stay _ c.args.search.now _ c.requires.places c.clear-3.ensures.long c.clear-2.ensures.capacity c.clear.ensures.capacity) c.args.stacks c.if-not-stacks.false _ c.count_stacks.ensures.counted c.count_stacks.ensures.waits c.count_stacks.ensures.long refl refl refl
