use Rattle.std.proofs.Common.{◌≡◌, Option, Some, None, IfSome, subst}
use Rattle.km_model.specs.Placement.{head_with}
use Rattle.km_state.specs.State.{State}
use Rattle.km_vmalloc.specs.declared.areas.VmArea.{VmArea}
use Rattle.km_vmalloc.specs.Areas.{area_at}
use Rattle.km_vmalloc.proofs.Live.{head_found}
use Rattle.km_core.specs.Parts.{Parts, StandsAs}
use Rattle.km_core.proofs.kernel.Kernel.area.Goals as goal

-- a live area's head is that of its slot
heads : (p : Parts) (o : Option VmArea) → IfSome o (λ v. area_at p.hosts.areas v.slot ≡ Some v) → IfSome o (λ v. (s : State) → StandsAs p s → head_with s.used v.slot ≡ Some v.head.start.0)
heads p None e = tt
heads p (Some v) e = λ s stands. head_found p.hosts.areas s.used v.slot v stands.hosts.held.areas e

pub returns-clause-head : goal.returns-clause-head
returns-clause-head g c =
    let i = c.self.inside in
    let p : Parts = record { words = i.words; hosts = i.hosts; objects = i.objects; settings = i.settings } in
    subst (λ q. IfSome c.area.result (λ v. (s : State) → StandsAs q s → head_with s.used v.slot ≡ Some v.head.start.0)) c.self.view_is (heads p c.area.result c.area.ensures.live)
