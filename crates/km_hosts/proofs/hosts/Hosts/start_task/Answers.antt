use Rattle.std.proofs.Common.{IfOk, refl, sym, subst, List}
use Rattle.km_model.specs.Placement.{Allocation, StackPage, lowest_run, page_start}
use Rattle.km_pages.specs.declared.runs.Use.TheVariants.{Slab, Vmalloc}
use Rattle.km_hosts.specs.Hosting.{Hold, Hosting, with_use}
use Rattle.km_hosts.proofs.Agreeing.{agree}
use Rattle.km_hosts.proofs.Holding.{hold_come, sections_come}
use Rattle.km_hosts.proofs.hosts.Hosts.start_task.Goals.{in-Ok, in-Err}
use Rattle.km_hosts.specs.contracts.hosts.Hosts.{the_view}
use Rattle.km_hosts.proofs.hosts.Hosts.start_task.Goals as goal

pub invariant_of-self : goal.invariant_of-self
invariant_of-self c =
    agree _ c.start.new.pages c.self.inside.sections c.start.new.self c.start.ensures.pages_count (λ p. c.start.ensures.others Slab p refl) (λ p. c.start.ensures.others Vmalloc p refl)
    (c.start.ensures.fits c.self.invariant.tasks) c.self.invariant

pub returns-clause-held : goal.returns-clause-held
returns-clause-held c =
    let v : Hosting = the_view c.self.inside in
    let P = λ (u : Unit {0}). (used : List Allocation) → Hold c.args.self.now used
    → Hold (record v { pages = c.start.new.pages; roll = c.start.new.self }) (with_use used StackPage (page_start (lowest_run used 1)) 4096) in
    elim c.match-start.branch [
      | in-Ok w ↦ subst (λ r. IfOk r P) (sym w.result-is) (λ used h.
          let held = subst (λ m. Hold m used) (sym c.self.view_is) h in
          hold_come v c.start.new.pages v.sections used c.start.new.self _ refl refl held (w.in-Ok.ensures.laid used held.laid) (sections_come v.sections used _ held.sections refl))
      | in-Err w ↦ subst (λ r. IfOk r P) (sym w.result-is) tt
    ]
