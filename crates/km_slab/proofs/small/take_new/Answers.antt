use Rattle.std.proofs.Common.{arith, ◌≡◌, ◌≤◌, ℕ, slice_index_or, ◌+◌, ◌-◌, ◌*◌, ◌/◌, ◌<◌, ◌==◌, ◌||◌, length, slice_set, Some, None, ◌++◌, ◌∷◌, [], refl, sym, ap, subst, ◌∙◌, inr}
use Rattle.std.proofs.lemmas.Bool.{both_ways, eq-eqb}
use Rattle.std.proofs.lemmas.List.{get_or-set_same}
use Rattle.km_model.specs.Memory.{base}
use Rattle.km_model.specs.Placement.{page_start, is_slab_block}
use Rattle.km_marks.specs.Sets.{has, with_mark}
use Rattle.km_pages.specs.declared.runs.Use.TheVariants.{Slab}
use Rattle.km_pages.specs.Runs.{IsTaken, run_at}
use Rattle.km_slab.specs.Blocks.{AreBlocks, Fits, Gains, class_at, slot_start}
use Rattle.km_slab.specs.Tables.{sheets}
use Rattle.km_slab.proofs.Growing.{blocks_grown, fresh_slot, gained, slab_block_use}
use Rattle.km_slab.proofs.Rows.{no_class}
use Rattle.km_slab.proofs.Fresh.{dead_there, no_slab_there, page_grown, page_fits}
use Rattle.km_slab.proofs.small.take_new.Goals as goal

pub returns-clause-fits : goal.returns-clause-fits
returns-clause-fits c =
    let t = c.args.table.now in let new = c.take_slot.new.table in
    let low = c.in_ok-start.ensures.lowest in let inside = c.in_ok-start.ensures.inside in let count = c.requires.fits.count in
    let page = (c.in_ok-start.start.0 - base) / 4096 in
    let at : c.in_ok-start.start.0 ≡ page_start ((c.in_ok-start.start.0 - base) / 4096) = omega (arith, low) in
    let within : (c.in_ok-start.start.0 - base) / 4096 < length t.classes.items = omega (arith, low, inside, count) in
    let none = no_slab_there (record { classes = t.classes.items; live = t.live }) c.args.pages.now page c.requires.fits (subst (λ a. run_at c.args.pages.now Slab a ≡ None) at (c.in_ok-start.ensures.fresh Slab)) in
    let g = page_grown t.classes.items t.free t.live t.opened new.live t.row c.args.class page c.requires.marks c.requires.size within none
    (λ n. c.take_slot.ensures.live n ∙ ap (λ l. n == 512 * page + 0 || has l n) c.take_page.ensures.live) in
    let set = c.take_slot.ensures.classes ∙ c.take_page.ensures.classes in
    subst (λ xs. Fits (record { classes = xs; live = new.live }) c.take.new.self) (sym set)
    (page_fits (record { classes = t.classes.items; live = t.live }) (record { classes = slice_set t.classes.items page (Some c.args.class); live = new.live }) c.args.pages.now c.take.new.self c.args.class page g refl c.in_ok-start.ensures.size c.in_ok-start.ensures.runs c.requires.fits)

pub returns-clause-blocks : goal.returns-clause-blocks
returns-clause-blocks c = λ used x blocks slab size start.
    let t = c.args.table.now in let new = c.take_slot.new.table in
    let low = c.in_ok-start.ensures.lowest in let inside = c.in_ok-start.ensures.inside in let count = c.requires.fits.count in
    let page = (c.in_ok-start.start.0 - base) / 4096 in
    let at : c.in_ok-start.start.0 ≡ page_start ((c.in_ok-start.start.0 - base) / 4096) = omega (arith, low) in
    let within : (c.in_ok-start.start.0 - base) / 4096 < length t.classes.items = omega (arith, low, inside, count) in
    let none = no_slab_there (record { classes = t.classes.items; live = t.live }) c.args.pages.now page c.requires.fits (subst (λ a. run_at c.args.pages.now Slab a ≡ None) at (c.in_ok-start.ensures.fresh Slab)) in
    let g = page_grown t.classes.items t.free t.live t.opened new.live t.row c.args.class page c.requires.marks c.requires.size within none
    (λ n. c.take_slot.ensures.live n ∙ ap (λ l. n == 512 * page + 0 || has l n) c.take_page.ensures.live) in
    let set = c.take_slot.ensures.classes ∙ c.take_page.ensures.classes in
    subst (λ xs. AreBlocks (record { classes = xs; live = new.live }) (used ++ x ∷ [])) (sym set)
    (blocks_grown (record { classes = t.classes.items; live = t.live }) (record { classes = slice_set t.classes.items page (Some c.args.class); live = new.live }) used c.args.class page 0 x g blocks slab size (omega (arith, start, at)))

pub returns-clause-laid : goal.returns-clause-laid
returns-clause-laid c = λ used x laid slab size start.
    let some = c.requires.size.0 in let most = c.requires.size.1 in
    c.in_ok-start.ensures.laid used x laid (record {
      its_use = sym (slab_block_use x.«use» slab);
      start = start;
      long = omega (arith, size, some);
      fits = omega (arith, size, most);
      whole = λ e. absurd (both_ways (is_slab_block x) e slab);
    })

pub returns-clause-gains : goal.returns-clause-gains
returns-clause-gains c =
    let t = c.args.table.now in let new = c.take_slot.new.table in
    let low = c.in_ok-start.ensures.lowest in let inside = c.in_ok-start.ensures.inside in let count = c.requires.fits.count in
    let page = (c.in_ok-start.start.0 - base) / 4096 in
    let at : slot_start c.args.class ((c.in_ok-start.start.0 - base) / 4096) 0 ≡ c.in_ok-start.start.0 = omega (arith, low) in
    let start : c.in_ok-start.start.0 ≡ page_start ((c.in_ok-start.start.0 - base) / 4096) = omega (arith, low) in
    let within : (c.in_ok-start.start.0 - base) / 4096 < length t.classes.items = omega (arith, low, inside, count) in
    let none = no_slab_there (sheets t) c.args.pages.now page c.requires.fits (subst (λ a. run_at c.args.pages.now Slab a ≡ None) start (c.in_ok-start.ensures.fresh Slab)) in
    let g = page_grown t.classes.items t.free t.live t.opened new.live t.row c.args.class page c.requires.marks c.requires.size within none
    (λ n. c.take_slot.ensures.live n ∙ ap (λ l. n == 512 * page + 0 || has l n) c.take_page.ensures.live) in
    let set = c.take_slot.ensures.classes ∙ c.take_page.ensures.classes in
    let sizes = subst (λ xs. (q cl : ℕ) → slice_index_or xs q None ≡ Some cl → 8 ≤ cl) set (λ q cl a. (c.take_slot.ensures.marks.sizes q cl a).0) in
    let fresh = fresh_slot (sheets t) c.args.class page 0 (λ q cl a. (c.requires.marks.sizes q cl a).0) g.some g.fits (λ cl a. absurd (no_class (class_at (sheets t) page) cl none a)) in
    subst (Gains (sheets t) (sheets new) c.args.class) at
    (subst (λ xs. Gains (sheets t) (record { classes = xs; live = new.live }) c.args.class (slot_start c.args.class page 0)) (sym set)
    (gained (sheets t) (record { classes = slice_set t.classes.items page (Some c.args.class); live = new.live }) c.args.class page 0 sizes fresh g))

pub returns-clause-still : goal.returns-clause-still
returns-clause-still c = (returns-clause-gains c).still

pub returns-clause-takes : goal.returns-clause-takes
returns-clause-takes c =
    let t = c.args.table.now in
    let low = c.in_ok-start.ensures.lowest in let inside = c.in_ok-start.ensures.inside in let count = c.requires.fits.count in
    let page = (c.in_ok-start.start.0 - base) / 4096 in
    let at : c.in_ok-start.start.0 ≡ page_start ((c.in_ok-start.start.0 - base) / 4096) = omega (arith, low) in
    let within : (c.in_ok-start.start.0 - base) / 4096 < length t.classes.items = omega (arith, low, inside, count) in
    let none = no_slab_there (sheets t) c.args.pages.now page c.requires.fits (subst (λ a. run_at c.args.pages.now Slab a ≡ None) at (c.in_ok-start.ensures.fresh Slab)) in
    let set = c.take_slot.ensures.classes ∙ c.take_page.ensures.classes in
    let most = c.requires.size.1 in
    record {
      page = page;
      place = 0;
      class = ap (λ xs. slice_index_or xs page None) set ∙ get_or-set_same t.classes.items page (Some c.args.class) None within;
      fits = omega (arith, most);
      start = omega (arith, at);
      live = c.take_slot.ensures.live (512 * page + 0) ∙ ap (λ b. b || has c.take_page.new.table.live (512 * page + 0)) (eq-eqb (512 * page + 0) (512 * page + 0) refl);
      takes = record {
        marked = c.take_slot.ensures.marked ∙ ap (λ l. with_mark l (512 * page + 0)) c.take_page.ensures.live;
        there = inr (record {
          within = within;
          none = none;
          dead = λ i lt. dead_there t.classes.items t.free t.live t.opened t.row page i c.requires.marks none lt;
          classes = set;
          taken = subst (λ a. IsTaken c.args.pages.now c.take.new.self Slab a 1) at c.in_ok-start.ensures.took;
        });
      };
    }
