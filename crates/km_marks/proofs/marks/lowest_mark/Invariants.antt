use Rattle.std.proofs.Common.{◌≡◌, ℕ, ◌*◌, ◌<◌, ◌≤◌, false}
use Rattle.km_marks.specs.Sets.{has}
use Rattle.km_marks.proofs.marks.lowest_mark.Given as goal

abbrev pub invariant-loop-w : goal.invariant-loop-w
invariant-loop-w l = (j : ℕ) → 64 * l.first ≤ j → j < 64 * l.w → has l.words j ≡ false
