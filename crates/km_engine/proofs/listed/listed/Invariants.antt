use Rattle.std.proofs.Common.{◌-◌}
use Rattle.km_engine.proofs.ListedBlocks.{Counting, listed_among}
use Rattle.km_engine.proofs.listed.listed.Given as goal

abbrev pub invariant-loop-next : goal.invariant-loop-next
invariant-loop-next l = Counting l.track l.next l.count

abbrev pub decreases-loop-next : goal.decreases-loop-next
decreases-loop-next l = listed_among l.track.live - l.count
