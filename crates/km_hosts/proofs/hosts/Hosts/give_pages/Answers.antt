use Rattle.std.proofs.Common.{IfOk, refl, sym, subst, List}
use Rattle.km_model.specs.Placement.{Allocation, without_allocation}
use Rattle.km_pages.specs.declared.runs.Use.TheVariants.{Plain}
use Rattle.km_hosts.specs.Hosting.{Hold, Hosting}
use Rattle.km_hosts.proofs.Agreeing.{agree_beside}
use Rattle.km_hosts.proofs.Holding.{hold_go}
use Rattle.km_hosts.proofs.hosts.Hosts.give_pages.Goals.{in-Ok, in-Err}
use Rattle.km_hosts.specs.contracts.hosts.Hosts.{the_view}
use Rattle.km_hosts.proofs.hosts.Hosts.give_pages.Goals as goal

pub invariant_of-self : goal.invariant_of-self
invariant_of-self c = agree_beside _ c.give.new.self c.self.inside.sections Plain refl refl refl c.give.ensures.size c.give.ensures.others c.self.invariant

pub returns-clause-held : goal.returns-clause-held
returns-clause-held c =
    let v : Hosting = the_view c.self.inside in
    let P = λ (u : Unit {0}). (used : List Allocation) → Hold c.args.self.now used → Hold (record v { pages = c.give.new.self }) (without_allocation used c.args.start.0) in
    elim c.match-give.branch [
      | in-Ok w ↦ subst (λ r. IfOk r P) (sym w.result-is) (λ used h.
          let held = subst (λ m. Hold m used) (sym c.self.view_is) h in
          hold_go v c.give.new.self used v.roll Plain c.args.start.0 _ refl refl refl c.self.invariant held (sym w.in-Ok.ensures.answer) (w.in-Ok.ensures.laid used held.laid refl))
      | in-Err w ↦ subst (λ r. IfOk r P) (sym w.result-is) tt
    ]
