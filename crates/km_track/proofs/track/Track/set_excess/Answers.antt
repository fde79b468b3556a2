use Rattle.std.proofs.Common.{ap, ◌∙◌, arith}
use Rattle.km_track.specs.Tracker.{Tracker, changed}
use Rattle.km_track.proofs.Writes.{wrote_excess, at_id, viewed}
use Rattle.km_track.proofs.track.Track.set_excess.Goals as goal

pub set_excess-requires : goal.set_excess-requires
set_excess-requires g c =
    c.self.invariant.holds.within c.args.id.slot (at_id c.self.inside.slots.items _ c.args.id (rw (← ap (λ (t : Tracker). t.live) c.self.view_is) at c.requires)).0

pub invariant_of-self : goal.invariant_of-self
invariant_of-self g c =
    let i = c.self.invariant in
    let w = wrote_excess c.args.to c.self.inside.slots.items c.set_excess.new.slots.items c.self.inside.links.order c.self.inside.links.grey c.self.inside.links.free _ c.self.inside.registered c.args.id i.holds (rw (← ap (λ (t : Tracker). t.live) c.self.view_is) at c.requires) c.set_excess.ensures.items in
    record { holds = w.holds; room = i.room; lists = i.lists; within = omega (arith, w.long, c.set_excess.new.slots.ok.0, c.self.inside.slots.ok.0); reserved = omega (arith, c.set_excess.ensures.capacity); small = i.small }

pub returns : goal.returns
returns g c =
    let i = c.self.invariant in
    let w = wrote_excess c.args.to c.self.inside.slots.items c.set_excess.new.slots.items c.self.inside.links.order c.self.inside.links.grey c.self.inside.links.free _ c.self.inside.registered c.args.id i.holds (rw (← ap (λ (t : Tracker). t.live) c.self.view_is) at c.requires) c.set_excess.ensures.items in
    viewed _ _ _ _ _ _ _ _ _ _ w ∙ ap (changed _ _) c.self.view_is
