use Rattle.std.proofs.Common.{◌≡◌, ℕ, ◌<◌, None}
use Rattle.km_vmalloc.specs.Areas.{area_at}
use Rattle.km_vmalloc.proofs.areas.free_slot.Given as goal

abbrev pub invariant-loop-s : goal.invariant-loop-s
invariant-loop-s l = (t : ℕ) → t < l.s → area_at l.areas t ≡ None → ⊥
