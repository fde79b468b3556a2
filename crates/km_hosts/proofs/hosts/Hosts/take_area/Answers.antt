use Rattle.std.proofs.Common.{◌≡◌, ℕ, ◌*◌, IfOk, OnErr, Option, refl, sym, ap, ◌∙◌, subst, List}
use Rattle.km_pages.specs.declared.runs.Run.{Run}
use Rattle.km_slab.specs.Blocks.{Sheets}
use Rattle.km_model.specs.Placement.{Allocation, AreaRun, HeadBlock, pages_for}
use Rattle.km_vmalloc.specs.declared.areas.VmArea.{VmArea}
use Rattle.km_vmalloc.specs.Areas.{area_of, head_of, with_area}
use Rattle.km_hosts.specs.Hosting.{Hold, Hosting, with_use}
use Rattle.km_hosts.proofs.Holding.{sections_come}
use Rattle.km_hosts.proofs.hosts.Hosts.take_area.Goals.{in-Ok, in-Err}
use Rattle.km_hosts.specs.contracts.hosts.Hosts.{the_view}
use Rattle.km_hosts.proofs.hosts.Hosts.take_area.Goals as goal

pub returns-clause-held : goal.returns-clause-held
returns-clause-held c =
    let v : Hosting = the_view c.self.inside in
    let new : Hosting = record v { pages = c.take.new.pages; slab = c.take.new.slab; areas = c.take.new.self } in
    let L = λ (used : List Allocation) (a : VmArea) (n m : ℕ). with_use (with_use used (HeadBlock a.slot) a.head.start.0 n) (AreaRun a.slot) a.area.start.0 m in
    let P = λ (a : VmArea). (used : List Allocation) → Hold c.args.self.now used → Hold new (L used a 64 (4096 * pages_for c.args.size)) in
    elim c.match-take.branch [
      | in-Ok w ↦ subst (λ r. IfOk r P) (sym w.result-is) (λ used h.
          let held = subst (λ m. Hold m used) (sym c.self.view_is) h in
          let a = w.in-Ok.area in
          let sizes = w.in-Ok.ensures.sizes in
          let all : Hold new (with_area used a) = record {
            laid = w.in-Ok.ensures.laid used held.laid held.blocks;
            blocks = w.in-Ok.ensures.blocks used held.blocks;
            areas = w.in-Ok.ensures.areas used held.areas;
            sections = sections_come v.sections (with_use used (HeadBlock a.slot) a.head.start.0 a.head.size) (area_of a) (sections_come v.sections used (head_of a) held.sections refl) refl;
          } in
          subst (λ m. Hold new (L used a 64 m)) sizes.1 (subst (λ n. Hold new (L used a n a.area.size)) sizes.0 all))
      | in-Err w ↦ subst (λ r. IfOk r P) (sym w.result-is) tt
    ]

pub returns-clause-refused : goal.returns-clause-refused
returns-clause-refused c =
    let v : Hosting = the_view c.self.inside in
    let P = record v { pages = c.take.new.pages; slab = c.take.new.slab; areas = c.take.new.self } ≡ c.args.self.now in
    elim c.match-take.branch [
      | in-Ok w ↦ subst (λ r. OnErr r P) (sym w.result-is) tt
      | in-Err w ↦ subst (λ r. OnErr r P) (sym w.result-is)
          (ap (λ (x : List (Option Run)). record v { pages = x; slab = c.take.new.slab; areas = c.take.new.self }) w.in-Err.ensures.pages_stay
          ∙ ap (λ (x : Sheets). record v { slab = x; areas = c.take.new.self }) w.in-Err.ensures.slab_stays
          ∙ ap (λ (x : List (Option VmArea)). record v { areas = x }) w.in-Err.ensures.refused ∙ c.self.view_is)
    ]
