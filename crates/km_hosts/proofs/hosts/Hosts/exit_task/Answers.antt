use Rattle.std.proofs.Common.{bytes_eq, ◌≡◌, IfOk, IfSome, Some, refl, sym, ap, ◌∙◌, subst, List}
use Rattle.km_model.specs.Placement.{Allocation, without_allocation}
use Rattle.km_model.specs.Tasks.{Task, task_named}
use Rattle.km_pages.specs.declared.runs.Use.TheVariants.{Slab, Stack, Vmalloc}
use Rattle.km_pages.specs.Laid.{AreLaid}
use Rattle.km_pages.specs.Runs.{run_at}
use Rattle.km_hosts.specs.Hosting.{Hold, Hosting}
use Rattle.km_hosts.proofs.Agreeing.{agree}
use Rattle.km_hosts.proofs.Holding.{found_holds, hold_go}
use Rattle.km_hosts.proofs.hosts.Hosts.exit_task.Goals.{in-Ok, in-Err}
use Rattle.km_hosts.specs.contracts.hosts.Hosts.{the_view}
use Rattle.km_hosts.proofs.hosts.Hosts.exit_task.Goals as goal

pub invariant_of-self : goal.invariant_of-self
invariant_of-self c =
    agree _ c.exit.new.pages c.self.inside.sections c.exit.new.self c.exit.ensures.pages_count (λ p. c.exit.ensures.others Slab p refl) (λ p. c.exit.ensures.others Vmalloc p refl)
    c.exit.ensures.fits c.self.invariant

pub returns-clause-held : goal.returns-clause-held
returns-clause-held c =
    let v : Hosting = the_view c.self.inside in
    let P = λ (u : Unit {0}). (used : List Allocation) (t : Task) → Hold c.args.self.now used → task_named c.args.self.now.roll.tasks c.args.name ≡ Some t
    → Hold (record v { pages = c.exit.new.pages; roll = c.exit.new.self }) (without_allocation used t.stack) in
    elim c.match-exit.branch [
      | in-Ok w ↦ subst (λ r. IfOk r P) (sym w.result-is) (λ used t h named.
          let held = subst (λ m. Hold m used) (sym c.self.view_is) h in
          let here : task_named v.roll.tasks c.args.name ≡ Some t = ap (λ (m : Hosting). task_named m.roll.tasks c.args.name) c.self.view_is ∙ named in
          hold_go v c.exit.new.pages used c.exit.new.self Stack t.stack 1 refl refl refl c.self.invariant held
          (found_holds (λ (u : Task). run_at v.pages Stack u.stack ≡ Some 1) (λ (u : Task). bytes_eq u.name c.args.name) v.roll.tasks t c.self.invariant.tasks.stacks here)
          (subst (λ o. IfSome o (λ (u : Task). AreLaid c.exit.new.pages (without_allocation used u.stack))) here (w.in-Ok.ensures.laid used held.laid)))
      | in-Err w ↦ subst (λ r. IfOk r P) (sym w.result-is) tt
    ]
