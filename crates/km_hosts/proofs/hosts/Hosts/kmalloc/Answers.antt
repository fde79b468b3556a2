use Rattle.std.proofs.Common.{IfOk, refl, sym, subst, List}
use Rattle.km_base.specs.declared.spans.Span.{Span}
use Rattle.km_model.specs.Placement.{Allocation, kmalloc_span, kmalloc_use}
use Rattle.km_pages.specs.declared.runs.Use.TheVariants.{Stack, Vmalloc}
use Rattle.km_vmalloc.proofs.Beside.{areas_come}
use Rattle.km_hosts.specs.Hosting.{Hold, Hosting, with_use}
use Rattle.km_hosts.proofs.Agreeing.{areas_fit, tasks_fit}
use Rattle.km_hosts.proofs.Blocks.{block_no_part, block_no_section, block_of}
use Rattle.km_hosts.proofs.Holding.{sections_come}
use Rattle.km_hosts.proofs.hosts.Hosts.kmalloc.Goals.{in-Ok, in-Err}
use Rattle.km_hosts.specs.contracts.hosts.Hosts.{the_view}
use Rattle.km_hosts.proofs.hosts.Hosts.kmalloc.Goals as goal

pub invariant_of-self : goal.invariant_of-self
invariant_of-self c = record {
  slab = c.kmalloc.ensures.fits;
  areas = areas_fit c.self.inside.vmalloc c.self.inside.slab c.kmalloc.new.self c.self.inside.pages c.kmalloc.new.pages (λ s v live. c.kmalloc.ensures.still 64 v.head.start.0 (c.self.invariant.areas.heads s v live))
      (λ p. c.kmalloc.ensures.others Vmalloc p refl refl) c.self.invariant.areas;
  tasks = tasks_fit c.self.inside.tasks.tasks c.self.inside.pages c.kmalloc.new.pages (λ p. c.kmalloc.ensures.others Stack p refl refl) c.self.invariant.tasks;
}

pub returns-clause-held : goal.returns-clause-held
returns-clause-held c =
    let v : Hosting = the_view c.self.inside in
    let P = λ (s : Span). (used : List Allocation) → Hold c.args.self.now used
    → Hold (record v { pages = c.kmalloc.new.pages; slab = c.kmalloc.new.self }) (with_use used (kmalloc_use c.args.size) s.start.0 (kmalloc_span c.args.size)) in
    elim c.match-kmalloc.branch [
      | in-Ok w ↦ subst (λ r. IfOk r P) (sym w.result-is) (λ used h.
          let held = subst (λ m. Hold m used) (sym c.self.view_is) h in
          let a = w.in-Ok.span.start.0 in
          let n = kmalloc_span c.args.size in
          let block = block_of c.args.size a in
          record {
            laid = w.in-Ok.ensures.laid used _ held.laid block;
            blocks = w.in-Ok.ensures.blocks used _ held.blocks block;
            areas = areas_come v.areas used _ held.areas (block_no_part c.args.size a n);
            sections = sections_come v.sections used _ held.sections (block_no_section c.args.size a n);
          })
      | in-Err w ↦ subst (λ r. IfOk r P) (sym w.result-is) tt
    ]
