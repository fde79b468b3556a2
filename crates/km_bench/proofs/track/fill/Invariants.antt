use Rattle.std.proofs.Common.{◌+◌, ◌≤◌}
use Rattle.km_bench.proofs.track.fill.Given as goal

abbrev pub invariant-loop-i : goal.invariant-loop-i
invariant-loop-i l = (l.fn.count ≤ l.track.spare + l.i) × (l.track.registered ≤ l.i)
