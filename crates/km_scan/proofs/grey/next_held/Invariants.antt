use Rattle.std.proofs.Common.{length}
use Rattle.km_scan.proofs.Held.{Taking}
use Rattle.km_scan.proofs.grey.next_held.Given as goal

abbrev pub invariant-loop-id : goal.invariant-loop-id
invariant-loop-id g l = Taking l.pass l.fn.track l.track

abbrev pub decreases-loop-id : goal.decreases-loop-id
decreases-loop-id g l = length l.track.queue
