use Rattle.std.specs.List.{All}
use Rattle.std.proofs.Common.{arith, slice_index_or, ◌<◌, ◌≤◌, ◌+◌, ◌*◌, ◌||◌, ◌⊎◌, inl, Some, None, ◌++◌, ◌∷◌, [], refl, sym, ap, subst, ◌∙◌}
use Rattle.std.proofs.lemmas.Bool.{eq-eqb}
use Rattle.km_marks.specs.Sets.{has}
use Rattle.km_slab.specs.Blocks.{AreBlocks, Fits, Gains, slot_start}
use Rattle.km_slab.proofs.Places.{free_slot_found, slot_within, some_number}
use Rattle.km_slab.proofs.Growing.{slot_grown, blocks_grown, laid_grown, fits_grown, fresh_slot, gained}
use Rattle.km_slab.proofs.Apart.{slot_apart}
use Rattle.km_model.specs.Placement.{Allocation}
use Rattle.km_slab.specs.Tables.{sheets}
use Rattle.km_slab.proofs.small.take_open.Goals as goal

pub returns-clause-place : goal.returns-clause-place
returns-clause-place c = λ pages used fits laid blocks.
    let t = c.args.table.now in let s = c.requires.size.0 in
    free_slot_found (record { classes = t.classes.items; live = t.live }) pages used c.args.class c.args.page c.take_lowest-slot.result laid blocks fits (omega (arith, s))
    c.take_lowest-slot.ensures.slot c.requires.lowest
    ∙ ap Some (sym c.span_of.ensures.start)

pub returns-clause-fits : goal.returns-clause-fits
returns-clause-fits c = λ pages fits.
    let t = c.args.table.now in let new = c.take_lowest-slot.new.table in
    let g = slot_grown t.classes.items t.free t.live t.opened new.live t.row c.args.class c.args.page c.take_lowest-slot.result c.requires.marks c.take_lowest-slot.ensures.slot c.take_lowest-slot.ensures.live in
    subst (λ xs. Fits (record { classes = xs; live = new.live }) pages) (sym c.take_lowest-slot.ensures.classes)
    (fits_grown (record { classes = t.classes.items; live = t.live }) (record { classes = t.classes.items; live = new.live }) pages c.args.class c.args.page c.take_lowest-slot.result g refl fits)

pub returns-clause-laid : goal.returns-clause-laid
returns-clause-laid c = λ pages used x fits laid slab size start.
    let t = c.args.table.now in let s = c.requires.size.0 in let slot = c.take_lowest-slot.ensures.slot in
    let some : 0 < c.args.class = omega (arith, s) in
    laid_grown (record { classes = t.classes.items; live = t.live }) pages used c.args.class c.args.page c.take_lowest-slot.result x fits slot.0 some
    (slot_within c.args.class c.take_lowest-slot.result some slot.1) laid slab size (start ∙ c.span_of.ensures.start)

pub returns-clause-blocks : goal.returns-clause-blocks
returns-clause-blocks c = λ used x blocks slab size start.
    let t = c.args.table.now in let new = c.take_lowest-slot.new.table in
    let g = slot_grown t.classes.items t.free t.live t.opened new.live t.row c.args.class c.args.page c.take_lowest-slot.result c.requires.marks c.take_lowest-slot.ensures.slot c.take_lowest-slot.ensures.live in
    subst (λ xs. AreBlocks (record { classes = xs; live = new.live }) (used ++ x ∷ [])) (sym c.take_lowest-slot.ensures.classes)
    (blocks_grown (record { classes = t.classes.items; live = t.live }) (record { classes = t.classes.items; live = new.live }) used c.args.class c.args.page c.take_lowest-slot.result x g blocks slab size (start ∙ c.span_of.ensures.start))

pub returns-clause-apart : goal.returns-clause-apart
returns-clause-apart c = λ pages used fits laid blocks.
    let t = c.args.table.now in let s = c.requires.size.0 in let slot = c.take_lowest-slot.ensures.slot in
    let some : 0 < c.args.class = omega (arith, s) in
    subst (λ n. All (λ (x : Allocation). (x.start + x.size ≤ c.span_of.result.start.0) ⊎ (c.span_of.result.start.0 + n ≤ x.start)) used) (sym c.span_of.ensures.size)
    (subst (λ a. All (λ (x : Allocation). (x.start + x.size ≤ a) ⊎ (a + c.args.class ≤ x.start)) used) (sym c.span_of.ensures.start)
    (slot_apart (sheets t) pages used c.args.class c.args.page c.take_lowest-slot.result some (slot_within c.args.class c.take_lowest-slot.result some slot.1) slot.0 slot.2 fits laid blocks))

pub returns-clause-gains : goal.returns-clause-gains
returns-clause-gains c =
    let t = c.args.table.now in let new = c.take_lowest-slot.new.table in
    let g = slot_grown t.classes.items t.free t.live t.opened new.live t.row c.args.class c.args.page c.take_lowest-slot.result c.requires.marks c.take_lowest-slot.ensures.slot c.take_lowest-slot.ensures.live in
    let slot = c.take_lowest-slot.ensures.slot in
    let fresh = fresh_slot (sheets t) c.args.class c.args.page c.take_lowest-slot.result (λ q cl at. (c.requires.marks.sizes q cl at).0) g.some g.fits (λ cl at. (some_number cl c.args.class (sym at ∙ slot.0), slot.2)) in
    subst (Gains (sheets t) (sheets new) c.args.class) (sym c.span_of.ensures.start)
    (subst (λ xs. Gains (sheets t) (record { classes = xs; live = new.live }) c.args.class (slot_start c.args.class c.args.page c.take_lowest-slot.result)) (sym c.take_lowest-slot.ensures.classes)
    (gained (sheets t) (record { classes = t.classes.items; live = new.live }) c.args.class c.args.page c.take_lowest-slot.result (λ q cl at. (c.requires.marks.sizes q cl at).0) fresh g))

pub returns-clause-takes : goal.returns-clause-takes
returns-clause-takes c = λ pages fits.
    let t = c.args.table.now in let s = c.requires.size.0 in
    let slot = c.take_lowest-slot.ensures.slot in let place = c.take_lowest-slot.result in let number = 512 * c.args.page + c.take_lowest-slot.result in
    record {
      page = c.args.page;
      place = place;
      class = ap (λ xs. slice_index_or xs c.args.page None) c.take_lowest-slot.ensures.classes ∙ slot.0;
      fits = slot_within c.args.class place (omega (arith, s)) slot.1;
      start = c.span_of.ensures.start;
      live = c.take_lowest-slot.ensures.live number ∙ ap (λ b. b || has t.live number) (eq-eqb number number refl);
      takes = record {
        marked = c.take_lowest-slot.ensures.marked;
        there = inl (record { class = slot.0; other = fits.some c.args.page c.args.class slot.0; classes = c.take_lowest-slot.ensures.classes; pages_stay = refl });
      };
    }
