use Rattle.km_track.proofs.Leaves.{not_in_without}
use Rattle.km_track.proofs.slots.requeue.Goals as goal

pub queue_where-requires-clause-out : goal.queue_where-requires-clause-out
queue_where-requires-clause-out c = rw c.unqueue.ensures (not_in_without c.args.slot c.args.links.now.grey)
