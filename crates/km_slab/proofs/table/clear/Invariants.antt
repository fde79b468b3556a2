use Rattle.std.proofs.Common.{◌≡◌, ℕ, ◌&&◌, not, nat_le, nat_lt, length}
use Rattle.km_marks.specs.Sets.{has}
use Rattle.km_slab.proofs.table.clear.Given as goal

abbrev pub invariant-loop-i : goal.invariant-loop-i
invariant-loop-i l = (length l.marks ≡ length l.initial.marks) × ((j : ℕ) → has l.marks j ≡ (not (nat_le l.first j && nat_lt j l.i) && has l.initial.marks j))
