use Rattle.std.proofs.Common.{◌*◌, IfOk, refl, sym, subst, List}
use Rattle.km_base.specs.declared.spans.Span.{Span}
use Rattle.km_model.specs.Placement.{Allocation, SectionRun, pages_for}
use Rattle.km_pages.specs.declared.runs.Use.TheVariants.{Section}
use Rattle.km_hosts.specs.Hosting.{Hold, Hosting, with_use}
use Rattle.km_hosts.proofs.Agreeing.{agree_beside}
use Rattle.km_hosts.proofs.Holding.{hold_come}
use Rattle.km_hosts.proofs.hosts.Hosts.section.Goals.{in-Ok, in-Err}
use Rattle.km_hosts.specs.contracts.hosts.Hosts.{the_view}
use Rattle.km_hosts.proofs.hosts.Hosts.section.Goals as goal

pub invariant_of-self : goal.invariant_of-self
invariant_of-self c = agree_beside _ c.add.new.pages c.add.new.self Section refl refl refl c.add.ensures.pages_count c.add.ensures.others c.self.invariant

pub returns-clause-held : goal.returns-clause-held
returns-clause-held c =
    let v : Hosting = the_view c.self.inside in
    let P = λ (s : Span). (used : List Allocation) → Hold c.args.self.now used
    → Hold (record v { pages = c.add.new.pages; sections = c.add.new.self }) (with_use used (SectionRun c.args.name) s.start.0 (4096 * pages_for (8 * c.args.words))) in
    elim c.match-add.branch [
      | in-Ok w ↦ subst (λ r. IfOk r P) (sym w.result-is) (λ used h.
          let held = subst (λ m. Hold m used) (sym c.self.view_is) h in
          hold_come v c.add.new.pages c.add.new.self used v.roll _ refl refl held (w.in-Ok.ensures.laid used held.laid) (w.in-Ok.ensures.sections used held.sections))
      | in-Err w ↦ subst (λ r. IfOk r P) (sym w.result-is) tt
    ]
