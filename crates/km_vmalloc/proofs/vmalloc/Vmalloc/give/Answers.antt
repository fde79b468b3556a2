use Rattle.std.proofs.Common.{◌≡◌, ℕ, ◌==◌, List, Option, Some, None, if◌then◌else◌, sym, subst}
use Rattle.km_base.specs.declared.spans.Addr.{Addr}
use Rattle.km_model.specs.Placement.{page_of, without_allocation}
use Rattle.km_pages.specs.declared.runs.Use.TheVariants.{Vmalloc}
use Rattle.km_pages.specs.Runs.{run_at, run_from}
use Rattle.km_pages.specs.Laid.{AreLaid}
use Rattle.km_slab.specs.Blocks.{AreBlocks}
use Rattle.km_vmalloc.specs.declared.areas.VmArea.{VmArea}
use Rattle.km_vmalloc.specs.Areas.{AreAreas, Fits, area_at}
use Rattle.km_vmalloc.proofs.Live.{head_found, live_within}
use Rattle.km_vmalloc.proofs.Changing.{seen_gone, fits_gone, areas_gone}
use Rattle.km_vmalloc.proofs.vmalloc.Vmalloc.give.Goals as goal

pub give_parts-requires-clause-run : goal.give_parts-requires-clause-run
give_parts-requires-clause-run c =
    let v = c.in-Some.area in
    let r = c.requires.fits.runs v.slot v c.in-Some.ensures.live in
    (r.count, subst (λ (a : Addr). run_at c.args.pages.now Vmalloc a.0 ≡ Some r.count) c.in-Some.ensures.start r.run)

pub invariant_of-self : goal.invariant_of-self
invariant_of-self c =
    let v = c.in-Some.area in
    let live = subst (λ (m : List (Option VmArea)). area_at m v.slot ≡ Some v) (sym c.self.view_is) c.in-Some.ensures.live in
    seen_gone c.self.inside.areas.items c.self.inside.reach v.slot c.self.inside.hints.items (live_within c.self.inside.areas.items v.slot v live) c.self.invariant

pub returns-clause-head : goal.returns-clause-head
returns-clause-head c = λ used a. let v = c.in-Some.area in head_found c.args.self.now used v.slot v a c.in-Some.ensures.live

pub returns-clause-fits : goal.returns-clause-fits
returns-clause-fits c =
    let v = c.in-Some.area in
    let live = subst (λ (m : List (Option VmArea)). area_at m v.slot ≡ Some v) (sym c.self.view_is) c.in-Some.ensures.live in
    fits_gone c.self.inside.areas.items c.args.slab.now c.give_parts.new.slab c.args.pages.now c.give_parts.new.pages v (live_within c.self.inside.areas.items v.slot v live) live c.give_parts.ensures.loses
    (subst (λ (a : Addr). (p : ℕ) → run_from c.give_parts.new.pages Vmalloc p ≡ (if p == page_of a.0 then None else run_from c.args.pages.now Vmalloc p)) (sym c.in-Some.ensures.start) c.give_parts.ensures.runs)
    (subst (λ (m : List (Option VmArea)). Fits m c.args.slab.now c.args.pages.now) (sym c.self.view_is) c.requires.fits)

pub returns-clause-laid : goal.returns-clause-laid
returns-clause-laid c = λ used laid blocks.
    let v = c.in-Some.area in
    subst (λ (a : Addr). AreLaid c.give_parts.new.pages (without_allocation (without_allocation used a.0) v.head.start.0)) (sym c.in-Some.ensures.start) (c.give_parts.ensures.laid used laid blocks)

pub returns-clause-blocks : goal.returns-clause-blocks
returns-clause-blocks c = λ used laid blocks.
    let v = c.in-Some.area in
    subst (λ (a : Addr). AreBlocks c.give_parts.new.slab (without_allocation (without_allocation used a.0) v.head.start.0)) (sym c.in-Some.ensures.start) (c.give_parts.ensures.blocks used laid blocks)

pub returns-clause-areas : goal.returns-clause-areas
returns-clause-areas c = λ used a.
    let v = c.in-Some.area in
    let live = subst (λ (m : List (Option VmArea)). area_at m v.slot ≡ Some v) (sym c.self.view_is) c.in-Some.ensures.live in
    areas_gone c.self.inside.areas.items c.args.slab.now c.args.pages.now used v (live_within c.self.inside.areas.items v.slot v live) live c.requires.slab_fits
    (subst (λ (m : List (Option VmArea)). Fits m c.args.slab.now c.args.pages.now) (sym c.self.view_is) c.requires.fits)
    (subst (λ (m : List (Option VmArea)). AreAreas m used) (sym c.self.view_is) a)
