use Rattle.std.proofs.Common.{◌≡◌, ℕ, ◌<◌, Some}
use Rattle.km_vmalloc.specs.Areas.{area_at}
use Rattle.km_vmalloc.specs.declared.areas.VmArea.{VmArea}
use Rattle.km_vmalloc.proofs.areas.search.Given as goal

abbrev pub invariant-loop-s : goal.invariant-loop-s
invariant-loop-s l = (t : ℕ) → t < l.s → (v : VmArea) → area_at l.areas t ≡ Some v → v.area.start ≡ l.start → ⊥
