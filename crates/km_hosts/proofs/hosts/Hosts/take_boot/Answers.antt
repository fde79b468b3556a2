use Rattle.std.proofs.Common.{◌*◌, IfOk, refl, sym, subst, List}
use Rattle.km_base.specs.declared.spans.Addr.{Addr}
use Rattle.km_model.specs.Placement.{Allocation, BootRun, pages_for}
use Rattle.km_pages.specs.declared.runs.Use.TheVariants.{Boot}
use Rattle.km_hosts.specs.Hosting.{Hold, Hosting, with_use}
use Rattle.km_hosts.proofs.Agreeing.{agree_beside}
use Rattle.km_hosts.proofs.Holding.{hold_run}
use Rattle.km_hosts.proofs.hosts.Hosts.take_boot.Goals.{in-Ok, in-Err}
use Rattle.km_hosts.specs.contracts.hosts.Hosts.{the_view}
use Rattle.km_hosts.proofs.hosts.Hosts.take_boot.Goals as goal

pub invariant_of-self : goal.invariant_of-self
invariant_of-self c = agree_beside _ c.take.new.self c.self.inside.sections Boot refl refl refl c.take.ensures.size c.take.ensures.others c.self.invariant

pub returns-clause-held : goal.returns-clause-held
returns-clause-held c =
    let v : Hosting = the_view c.self.inside in
    let P = λ (a : Addr). (used : List Allocation) → Hold c.args.self.now used → Hold (record v { pages = c.take.new.self }) (with_use used BootRun a.0 (4096 * pages_for c.args.size)) in
    elim c.match-take.branch [
      | in-Ok w ↦ subst (λ r. IfOk r P) (sym w.result-is) (λ used h.
          hold_run v c.take.new.self used BootRun w.in-Ok.start.0 (pages_for c.args.size) refl refl refl (subst (λ m. Hold m used) (sym c.self.view_is) h) (w.in-Ok.ensures.laid used))
      | in-Err w ↦ subst (λ r. IfOk r P) (sym w.result-is) tt
    ]
