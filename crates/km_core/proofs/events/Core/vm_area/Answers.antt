use Rattle.std.proofs.Common.{◌≡◌, Option, Some, None, IfSome, subst}
use Rattle.km_model.specs.History.{History}
use Rattle.km_model.specs.Placement.{head_with}
use Rattle.km_state.specs.State.{State}
use Rattle.km_vmalloc.specs.declared.areas.VmArea.{VmArea}
use Rattle.km_core.specs.Cores.{Seen, Stands}
use Rattle.km_core.specs.Parts.{StandsAs}
use Rattle.km_core.proofs.events.Core.vm_area.Goals as goal

heads : (seen : Seen) (o : Option VmArea) → IfSome o (λ v. (s : State) → StandsAs seen.parts s → head_with s.used v.slot ≡ Some v.head.start.0)
    → IfSome o (λ v. (h : History) (s : State) → Stands seen h s → head_with s.used v.slot ≡ Some v.head.start.0)
heads seen None e = tt
heads seen (Some v) e = λ h s stands. e s stands.parts

pub returns-clause-head : goal.returns-clause-head
returns-clause-head g c =
    let i = c.self.inside in
    let seen : Seen = record { events = i.events; parts = i.kernel } in
    subst (λ q. IfSome c.area.result (λ v. (h : History) (s : State) → Stands q h s → head_with s.used v.slot ≡ Some v.head.start.0)) c.self.view_is (heads seen c.area.result c.area.ensures.head)
