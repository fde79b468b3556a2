use Rattle.std.proofs.Common.{◌+◌, ◌<◌, length, refl, ap, ◌∙◌, arith}
use Rattle.std.proofs.lemmas.List.{length-map}
use Rattle.km_links.specs.Chains.{without}
use Rattle.km_track.specs.Holds.{live_at}
use Rattle.km_map.proofs.Places.{kept_none}
use Rattle.km_track.specs.Tracker.{Tracker, unregistered_at}
use Rattle.km_track.proofs.Searches.{read}
use Rattle.km_track.proofs.Writes.{no_start, at_start}
use Rattle.km_track.proofs.Leaves.{left, viewed_left, not_free}
use Rattle.km_track.proofs.track.Track.unregister.Goals as goal

pub invariant_of-self : goal.invariant_of-self
invariant_of-self g c =
    let i = c.self.invariant in
    let e = c.in_default.ensures {u = tt} in
    record { holds = rw (e.entries, ← kept_none c.args.start.0 (g.M.ObjectMap.entries c.self.inside.map) e.slot) i.holds; room = omega (arith, i.room, e.spare); lists = i.lists; within = i.within; reserved = i.reserved; small = i.small }

pub returns-in_default-clause-answer : goal.returns-in_default-clause-answer
returns-in_default-clause-answer g c =
    rw (← ap (λ (t : Tracker). t.live) c.self.view_is, no_start c.self.inside.slots.items c.self.inside.links.order c.self.inside.links.grey c.self.inside.links.free (g.M.ObjectMap.entries c.self.inside.map) c.self.inside.registered c.args.start.0 c.self.invariant.holds (c.in_default.ensures {u = tt}).slot) refl

pub release-requires-clause-table : goal.release-requires-clause-table
release-requires-clause-table g c =
    let i = c.self.invariant in
    let w = left c.self.inside.slots.items c.self.inside.links.order c.self.inside.links.grey c.self.inside.links.free (g.M.ObjectMap.entries c.self.inside.map) c.self.inside.registered c.args.start.0 c.in-Some.slot i.holds (c.in-Some.ensures {u = tt}).slot (rw (c.in-Some.ensures {u = tt}).entries at (c.in-Some.ensures {u = tt}).rising) in
    omega (arith, i.holds.within c.in-Some.slot w.here, c.self.inside.slots.ok.0, i.within, i.lists)

pub release-requires-clause-live : goal.release-requires-clause-live
release-requires-clause-live g c = (at_start c.self.inside.slots.items c.self.inside.links.order c.self.inside.links.grey c.self.inside.links.free (g.M.ObjectMap.entries c.self.inside.map) c.self.inside.registered c.args.start.0 c.in-Some.slot c.self.invariant.holds (c.in-Some.ensures {u = tt}).slot).0

pub release-requires-clause-out : goal.release-requires-clause-out
release-requires-clause-out g c =
    let h = c.self.invariant.holds in
    not_free c.self.inside.slots.items _ _ _ _ _ c.in-Some.slot h (at_start c.self.inside.slots.items c.self.inside.links.order c.self.inside.links.grey c.self.inside.links.free (g.M.ObjectMap.entries c.self.inside.map) c.self.inside.registered c.args.start.0 c.in-Some.slot h (c.in-Some.ensures {u = tt}).slot).0

pub index-requires : goal.index-requires
index-requires g c =
    let h = c.self.invariant.holds in
    omega (arith, h.within c.in-Some.slot (at_start c.self.inside.slots.items c.self.inside.links.order c.self.inside.links.grey c.self.inside.links.free (g.M.ObjectMap.entries c.self.inside.map) c.self.inside.registered c.args.start.0 c.in-Some.slot h (c.in-Some.ensures {u = tt}).slot).0, c.self.inside.slots.ok.0)

pub invariant_of-self-2 : goal.invariant_of-self-2
invariant_of-self-2 g c =
    let i = c.self.invariant in
    let e = c.in-Some.ensures {u = tt} in
    let w = left c.self.inside.slots.items c.self.inside.links.order c.self.inside.links.grey c.self.inside.links.free (g.M.ObjectMap.entries c.self.inside.map) c.self.inside.registered c.args.start.0 c.in-Some.slot i.holds (c.in-Some.ensures {u = tt}).slot (rw (c.in-Some.ensures {u = tt}).entries at (c.in-Some.ensures {u = tt}).rising) in
    rw (c.release.ensures, e.entries) (record { holds = w.holds; room = omega (arith, i.room, e.spare, w.shorter); lists = i.lists; within = i.within; reserved = i.reserved; small = i.small })

pub returns-clause-answer : goal.returns-clause-answer
returns-clause-answer g c =
    let i = c.self.invariant in
    let w = left c.self.inside.slots.items c.self.inside.links.order c.self.inside.links.grey c.self.inside.links.free (g.M.ObjectMap.entries c.self.inside.map) c.self.inside.registered c.args.start.0 c.in-Some.slot i.holds (c.in-Some.ensures {u = tt}).slot (rw (c.in-Some.ensures {u = tt}).entries at (c.in-Some.ensures {u = tt}).rising) in
    let is = read c.self.inside.slots.items c.in-Some.slot c.index.result.now (i.holds.within c.in-Some.slot w.here) c.index.ensures in
    rw (← ap (λ (t : Tracker). t.live) c.self.view_is, w.found, is) refl

pub returns-clause-after : goal.returns-clause-after
returns-clause-after g c =
    let i = c.self.invariant in
    let w = left c.self.inside.slots.items c.self.inside.links.order c.self.inside.links.grey c.self.inside.links.free (g.M.ObjectMap.entries c.self.inside.map) c.self.inside.registered c.args.start.0 c.in-Some.slot i.holds (c.in-Some.ensures {u = tt}).slot (rw (c.in-Some.ensures {u = tt}).entries at (c.in-Some.ensures {u = tt}).rising) in
    let room : length c.self.inside.links.order < c.self.inside.capacity + 1 = omega (arith, i.holds.count, i.within, c.self.inside.slots.ok.0) in
    rw c.release.ensures (viewed_left _ _ _ _ _ _ _ _ c.self.inside.capacity w room ∙ ap (λ (t : Tracker). unregistered_at c.args.start.0 t) c.self.view_is)

pub returns-clause-places : goal.returns-clause-places
returns-clause-places g c =
    let i = c.self.invariant in
    let w = left c.self.inside.slots.items c.self.inside.links.order c.self.inside.links.grey c.self.inside.links.free (g.M.ObjectMap.entries c.self.inside.map) c.self.inside.registered c.args.start.0 c.in-Some.slot i.holds (c.in-Some.ensures {u = tt}).slot (rw (c.in-Some.ensures {u = tt}).entries at (c.in-Some.ensures {u = tt}).rising) in
    rw c.release.ensures (omega (arith, ap (λ (t : Tracker). t.spare) c.self.view_is, ap (λ (t : Tracker). length t.live) c.self.view_is, length-map c.self.inside.links.order (live_at c.self.inside.slots.items), length-map (without c.in-Some.slot c.self.inside.links.order) (live_at c.self.inside.slots.items), w.shorter, i.holds.count, i.within, c.self.inside.slots.ok.0))
