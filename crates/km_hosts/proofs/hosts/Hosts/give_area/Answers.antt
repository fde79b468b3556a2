use Rattle.std.proofs.Common.{IfOk, not, ◌==◌, refl, sym, subst, List, arith}
use Rattle.std.proofs.lemmas.Bool.{both_ways}
use Rattle.std.proofs.lemmas.List.Elements.{All-filter}
use Rattle.km_base.specs.declared.spans.Addr.{Addr}
use Rattle.km_model.specs.Placement.{Allocation, without_allocation}
use Rattle.km_pages.specs.declared.runs.Use.TheVariants.{Section, Slab, Vmalloc}
use Rattle.km_pages.specs.Laid.{IsLaid}
use Rattle.km_pages.specs.Uses.{same_use}
use Rattle.km_slab.proofs.Owners.{at_page}
use Rattle.km_vmalloc.specs.declared.areas.VmArea.{VmArea}
use Rattle.km_vmalloc.specs.Areas.{without_area}
use Rattle.km_hosts.specs.Hosting.{Hold, Hosting}
use Rattle.km_hosts.proofs.Holding.{run_use, sections_go, slot_page}
use Rattle.km_hosts.proofs.hosts.Hosts.give_area.Goals.{in-Ok, in-Err}
use Rattle.km_hosts.specs.contracts.hosts.Hosts.{the_view}
use Rattle.km_hosts.proofs.hosts.Hosts.give_area.Goals as goal

pub returns-clause-held : goal.returns-clause-held
returns-clause-held c =
    let v : Hosting = the_view c.self.inside in
    let new : Hosting = record v { pages = c.give.new.pages; slab = c.give.new.slab; areas = c.give.new.self } in
    let P = λ (a : VmArea). (used : List Allocation) → Hold c.args.self.now used → Hold new (without_allocation (without_allocation used c.args.start.0) a.head.start.0) in
    elim c.match-give.branch [
      | in-Ok w ↦ subst (λ r. IfOk r P) (sym w.result-is) (λ used h.
          let held = subst (λ m. Hold m used) (sym c.self.view_is) h in
          let a = w.in-Ok.area in
          let live = w.in-Ok.ensures.live.0 in
          let r = c.self.invariant.areas.runs a.slot a live in
          let left = without_allocation used a.area.start.0 in
          let all : Hold new (without_area used a) = record {
            laid = w.in-Ok.ensures.laid used held.laid held.blocks;
            blocks = w.in-Ok.ensures.blocks used held.laid held.blocks;
            areas = w.in-Ok.ensures.areas used held.areas;
            sections = sections_go v.sections left v.pages a.head.start.0
                (sections_go v.sections used v.pages a.area.start.0 held.sections held.laid.each
                (λ e. both_ways (same_use Section Vmalloc) refl (run_use v.pages Vmalloc Section a.area.start.0 r.count (at_page v.pages Vmalloc a.area.start.0 r.count r.run).1 e)))
                (All-filter (λ (x : Allocation). not (x.start == a.area.start.0)) (IsLaid v.pages) used held.laid.each)
                (λ e. both_ways (same_use Section Slab) refl (run_use v.pages Slab Section a.head.start.0 1 (slot_page v.slab v.pages 64 a.head.start.0 (omega arith) c.self.invariant.slab (c.self.invariant.areas.heads a.slot a live)) e));
          } in
          subst (λ (b : Addr). Hold new (without_allocation (without_allocation used b.0) a.head.start.0)) w.in-Ok.ensures.live.1 all)
      | in-Err w ↦ subst (λ r. IfOk r P) (sym w.result-is) tt
    ]
