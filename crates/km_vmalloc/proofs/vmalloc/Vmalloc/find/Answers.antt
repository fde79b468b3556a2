use Rattle.std.proofs.Common.{◌≡◌, ℕ, IfSome, Option, Some, None, List, sym, subst, ◌∙◌}
use Rattle.km_vmalloc.specs.declared.areas.VmArea.{VmArea}
use Rattle.km_vmalloc.specs.Areas.{area_at}
use Rattle.km_vmalloc.proofs.Live.{found_among}
use Rattle.km_vmalloc.proofs.vmalloc.Vmalloc.find.Goals as goal

pub returns-clause-among : goal.returns-clause-among
returns-clause-among c = λ slab pages used fits a.
    let now = c.deref.ensures.value ∙ c.self.view_is in
    found_among c.args.self.now slab pages used c.args.start c.area_beginning.result
    (with_slot c.args.self.now c.area_beginning.result (subst (λ (m : List (Option VmArea)). (s : ℕ) (v : VmArea) → area_at m s ≡ Some v → v.slot ≡ s) c.self.view_is c.self.invariant.kept.slots)
    (subst (λ (m : List (Option VmArea)). IfSome c.area_beginning.result (λ (v : VmArea). (s : ℕ) × (area_at m s ≡ Some v))) now c.area_beginning.ensures.live))
    c.area_beginning.ensures.start
    (subst (λ (m : List (Option VmArea)). c.area_beginning.result ≡ None → (s : ℕ) (v : VmArea) → area_at m s ≡ Some v → v.area.start ≡ c.args.start → ⊥) now c.area_beginning.ensures.none)
    fits a where
      with_slot : (m : List (Option VmArea)) (r : Option VmArea) → ((s : ℕ) (v : VmArea) → area_at m s ≡ Some v → v.slot ≡ s) → IfSome r (λ (v : VmArea). (s : ℕ) × (area_at m s ≡ Some v)) → IfSome r (λ (v : VmArea). area_at m v.slot ≡ Some v)
      with_slot m None slots h = h
      with_slot m (Some v) slots h = subst (λ s. area_at m s ≡ Some v) (sym (slots h.0 v h.1)) h.1
