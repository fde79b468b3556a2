use Rattle.std.proofs.Common.{◌≡◌, IfOk, Some, is_ok, not, refl, sym, ap, ◌∙◌, subst, List}
use Rattle.std.proofs.lemmas.Bool.{both_ways}
use Rattle.km_base.specs.declared.acts.Answer.TheVariants.{Done}
use Rattle.km_base.specs.declared.acts.Refusal.TheVariants.{NotAllocated}
use Rattle.km_model.specs.Answers.{unless}
use Rattle.km_model.specs.Placement.{Allocation, without_allocation}
use Rattle.km_pages.specs.declared.runs.Use.TheVariants.{Section, Stack, Vmalloc}
use Rattle.km_pages.specs.Runs.{run_at}
use Rattle.km_pages.specs.Uses.{same_use}
use Rattle.km_slab.proofs.Owners.{at_page}
use Rattle.km_vmalloc.proofs.Beside.{areas_go}
use Rattle.km_vmalloc.proofs.Live.{same_addr}
use Rattle.km_hosts.specs.Hosting.{Hold, Hosting, StartsDiffer, done}
use Rattle.km_hosts.proofs.Agreeing.{areas_fit, tasks_fit}
use Rattle.km_hosts.proofs.Blocks.{blocks_alike, head_alone}
use Rattle.km_hosts.proofs.Holding.{block_there, one_use, run_use, sections_go}
use Rattle.km_hosts.proofs.hosts.Hosts.kfree.Goals.{in-Ok, in-Err}
use Rattle.km_hosts.specs.contracts.hosts.Hosts.{the_view}
use Rattle.km_hosts.proofs.hosts.Hosts.kfree.Goals as goal

pub returns-then-owns-clause-answer : goal.returns-then-owns-clause-answer
returns-then-owns-clause-answer c = λ used h differ.
    let held = subst (λ m. Hold m used) (sym c.self.view_is) h in
    ap (λ b. unless (not b) NotAllocated Done) (sym (head_alone used c.args.start.0 differ (sym (c.owns.ensures.among used held.areas) ∙ c.if-owns.true)))

pub invariant_of-self : goal.invariant_of-self
invariant_of-self c = record {
  slab = c.kfree.ensures.fits;
  areas = areas_fit c.self.inside.vmalloc c.self.inside.slab c.kfree.new.self c.self.inside.pages c.kfree.new.pages
      (λ s v live. c.kfree.ensures.still 64 v.head.start.0 (c.self.invariant.areas.heads s v live) (λ e. c.owns.ensures.none c.if-owns.false s v live (same_addr v.head.start c.args.start e)))
      (λ p. c.kfree.ensures.others Vmalloc p refl refl) c.self.invariant.areas;
  tasks = tasks_fit c.self.inside.tasks.tasks c.self.inside.pages c.kfree.new.pages (λ p. c.kfree.ensures.others Stack p refl refl) c.self.invariant.tasks;
}

pub returns-clause-answer : goal.returns-clause-answer
returns-clause-answer c = λ used h differ.
    let held = subst (λ m. Hold m used) (sym c.self.view_is) h in
    let same = c.kfree.ensures.answer used held.laid held.blocks ∙ blocks_alike used c.args.start.0 (sym (c.owns.ensures.among used held.areas) ∙ c.if-owns.false) in
    elim c.match-kfree.branch [
      | in-Ok w ↦ ap done w.result-is ∙ ap (λ b. unless (not b) NotAllocated Done) (sym (ap is_ok w.in-Ok.is) ∙ same)
      | in-Err w ↦ ap done w.result-is ∙ ap (λ b. unless (not b) NotAllocated Done) (sym (ap is_ok w.in-Err.is) ∙ same)
    ]

pub returns-clause-held : goal.returns-clause-held
returns-clause-held c =
    let v : Hosting = the_view c.self.inside in
    let P = λ (u : Unit {0}). (used : List Allocation) → Hold c.args.self.now used → StartsDiffer used
    → Hold (record v { pages = c.kfree.new.pages; slab = c.kfree.new.self }) (without_allocation used c.args.start.0) in
    elim c.match-kfree.branch [
      | in-Ok w ↦ subst (λ r. IfOk r P) (sym w.result-is) (λ used h differ.
          let held = subst (λ m. Hold m used) (sym c.self.view_is) h in
          let a = c.args.start.0 in
          let block = block_there v.pages used a held.laid (sym (c.kfree.ensures.answer used held.laid held.blocks) ∙ ap is_ok w.in-Ok.is) in
          record {
            laid = w.in-Ok.ensures.laid used held.laid held.blocks;
            blocks = w.in-Ok.ensures.blocks used held.blocks;
            areas = areas_go v.areas used a held.areas (λ s x live e. c.owns.ensures.none c.if-owns.false s x live (same_addr x.head.start c.args.start e))
                (λ s x live e.
                let r = c.self.invariant.areas.runs s x live in
                let run = subst (λ b. run_at v.pages Vmalloc b ≡ Some r.count) e r.run in
                both_ways (same_use block.kind Vmalloc) block.no_area (run_use v.pages Vmalloc block.kind a r.count (at_page v.pages Vmalloc a r.count run).1 block.here));
            sections = sections_go v.sections used v.pages a held.sections held.laid.each
                (λ e. both_ways (same_use block.kind Section) block.no_section (ap (λ k. same_use k Section) (one_use block.kind Section (sym block.here ∙ e))));
          })
      | in-Err w ↦ subst (λ r. IfOk r P) (sym w.result-is) tt
    ]
