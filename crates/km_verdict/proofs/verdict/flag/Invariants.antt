use Rattle.std.proofs.Common.{length}
use Rattle.km_track.specs.Tracker.{live_from}
use Rattle.km_verdict.proofs.Flags.{Flagging}
use Rattle.km_verdict.proofs.verdict.flag.Given as goal

abbrev pub invariant-loop-next : goal.invariant-loop-next
invariant-loop-next g l = Flagging l.fn.began l.fn.track l.track l.next l.new

abbrev pub decreases-loop-next : goal.decreases-loop-next
decreases-loop-next g l = length (live_from l.next l.track.live)
