use Rattle.std.proofs.Common.{◌-◌, length, ap, ◌∙◌, arith}
use Rattle.km_track.specs.Tracker.{scan_started}
use Rattle.km_track.proofs.Starts.{begun}
use Rattle.km_track.proofs.track.Track.start_scan.Goals as goal

pub invariant_of-self : goal.invariant_of-self
invariant_of-self g c =
    let i = c.self.invariant in
    let b = begun c.self.inside.slots.items c.start_all.new.slots.items c.self.inside.links.order c.self.inside.links.grey c.self.inside.links.free (g.M.ObjectMap.entries c.self.inside.map) c.self.inside.registered 0 i.holds c.start_all.ensures.items in
    rw c.start_all.ensures.links (record { holds = b.holds; room = i.room; lists = i.lists; within = omega (arith, i.within, b.long, c.start_all.new.slots.ok.0, c.self.inside.slots.ok.0); reserved = omega (arith, i.reserved, c.start_all.ensures.capacity); small = i.small })

pub returns : goal.returns
returns g c =
    let b = begun c.self.inside.slots.items c.start_all.new.slots.items c.self.inside.links.order c.self.inside.links.grey c.self.inside.links.free (g.M.ObjectMap.entries c.self.inside.map) c.self.inside.registered (c.self.inside.capacity - length c.self.inside.links.order) c.self.invariant.holds c.start_all.ensures.items in
    rw c.start_all.ensures.links (b.seen ∙ ap scan_started c.self.view_is)
