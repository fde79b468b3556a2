use Rattle.std.proofs.Common.{ap, sym, ◌∙◌}
use Rattle.km_track.specs.Tracker.{Tracker}
use Rattle.km_track.proofs.Writes.{ids_in}
use Rattle.km_track.proofs.Leaves.{none_queued}
use Rattle.km_track.proofs.track.Track.first_start.Goals as goal

pub returns-in_err-slot-clause-queue : goal.returns-in_err-slot-clause-queue
returns-in_err-slot-clause-queue g c = λ _.
    sym (ap (λ (t : Tracker). t.queue) c.self.view_is) ∙ ap (ids_in c.self.inside.slots.items) (none_queued c.self.inside.slots.items c.self.inside.links.order c.self.inside.links.grey c.self.inside.links.free (g.M.ObjectMap.entries c.self.inside.map) c.self.inside.registered c.self.invariant.holds (c.in_err-slot.ensures {u = tt}).slot)
