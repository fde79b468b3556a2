use Rattle.std.proofs.Common.{◌≡◌, ℕ, Option, Some, List, true, false, subst, ◌∙◌}
use Rattle.km_vmalloc.specs.declared.areas.VmArea.{VmArea}
use Rattle.km_vmalloc.specs.Areas.{area_at}
use Rattle.km_vmalloc.proofs.Live.{owned_among}
use Rattle.km_vmalloc.proofs.vmalloc.Vmalloc.owns.Goals as goal

pub returns-clause-among : goal.returns-clause-among
returns-clause-among c = λ used a.
    let now = c.deref.ensures.value ∙ c.self.view_is in
    owned_among c.args.self.now used c.args.start c.has_head.result
    (subst (λ (m : List (Option VmArea)). c.has_head.result ≡ true → (s : ℕ) × (v : VmArea) × (area_at m s ≡ Some v) × (v.head.start ≡ c.args.start)) now c.has_head.ensures.live)
    (subst (λ (m : List (Option VmArea)). c.has_head.result ≡ false → (s : ℕ) (v : VmArea) → area_at m s ≡ Some v → v.head.start ≡ c.args.start → ⊥) now c.has_head.ensures.none) a
