use Rattle.std.proofs.Common.{length}
use Rattle.km_track.specs.Tracker.{live_from}
use Rattle.km_why.specs.Told.{TellsSame, blocks_by, memory_of, stacks_of}
use Rattle.km_why.specs.References.{passed_to, sources}
use Rattle.km_why.proofs.Heads.{IsWalk}
use Rattle.km_why.proofs.checks.after_heads.Given as goal

abbrev pub invariant-loop-next : goal.invariant-loop-next
invariant-loop-next g l =
    TellsSame (g.W.Words.told l.fn.words) (g.W.Words.told l.words)
    × IsWalk (passed_to (memory_of (g.W.Words.told l.fn.words)) (sources (stacks_of l.stacks l.tasks.tasks) (blocks_by l.track l.before)) l.to) l.fn.wanted l.track.live l.next l.lacking

abbrev pub decreases-loop-next : goal.decreases-loop-next
decreases-loop-next g l = length (live_from l.next l.track.live)
