use Rattle.std.proofs.Common.{Some, option_map, refl, sym, subst}
use Rattle.km_base.specs.declared.spans.Addr.{Addr}
use Rattle.km_state.specs.StateAfter.{registered_at}
use Rattle.km_objects.specs.Objects.{AreOf}
use Rattle.km_objects.proofs.Adds.{excess_are, registered_agree}
use Rattle.km_objects.proofs.Changes.{changed_agree, excess_keeps}
use Rattle.km_objects.proofs.objects.Objects.register.Goals as goal

pub returns-in-Some-clause-state : goal.returns-in-Some-clause-state
returns-in-Some-clause-state g c =
    let e = c.in-Ok.ensures {u = tt} in
    λ s enabled now are.
    subst (λ x. AreOf (record { tracker = c.set_excess.new.self; stand = c.self.inside.scanner }) (registered_at s c.args.span.start.0 c.args.span.size c.args.minimum (option_map (λ (a : Addr). a.0) x))) (sym c.in-Some.is)
    (excess_are _ _ _ _ _ s c.in-Ok.id c.args.span c.args.minimum c.args.born c.in-Some.to.0 c.self.view_is c.observe.ensures.rising e.id e.block c.set_excess.ensures enabled now are)

pub returns-in-Some-clause-agree : goal.returns-in-Some-clause-agree
returns-in-Some-clause-agree g c =
    λ roll agree.
    changed_agree _ _ _ _ _ _ roll (excess_keeps (Some c.in-Some.to.0)) refl c.set_excess.ensures (registered_agree _ _ _ _ roll _ _ _ _ c.self.view_is (c.in-Ok.ensures {u = tt}).block agree)

pub returns-in_default-excess-clause-agree : goal.returns-in_default-excess-clause-agree
returns-in_default-excess-clause-agree g c = λ roll agree. registered_agree _ _ _ _ roll _ _ _ _ c.self.view_is (c.in-Ok.ensures {u = tt}).block agree
