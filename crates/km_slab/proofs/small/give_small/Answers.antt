use Rattle.std.proofs.Common.{◌≡◌, ℕ, ◌+◌, ◌-◌, ◌*◌, ◌/◌, ◌<◌, slice_index_or, slice_set, Some, None, true, false, refl, sym, ap, subst, ◌∙◌, arith, inl, inr, ltb-true}
use Rattle.std.proofs.lemmas.Bool.{both_ways}
use Rattle.km_model.specs.Placement.{page_start, without_allocation}
use Rattle.km_marks.specs.Sets.{has}
use Rattle.km_slab.specs.Blocks.{AreBlocks, Fits, Loses, Sheets, has_place, slot_start}
use Rattle.km_slab.specs.Tables.{sheets}
use Rattle.km_slab.proofs.Rows.{place_small}
use Rattle.km_slab.proofs.Changing.{slab_within}
use Rattle.km_slab.proofs.Shrinking.{slot_shrunk, blocks_shrunk, fits_shrunk, laid_shrunk, page_shrunk, page_fits, alone, lost, other_live, same_sheets, slab_starts}
use Rattle.km_slab.proofs.Undoing.{no_page_again, was_free, was_open}
use Rattle.km_slab.proofs.small.give_small.Goals as goal

pub give_slot-requires-clause-size : goal.give_slot-requires-clause-size
give_slot-requires-clause-size c = c.requires.marks.sizes c.args.page c.args.class c.requires.class

pub returns-in-Some-clause-fits : goal.returns-in-Some-clause-fits
returns-in-Some-clause-fits c =
    let t = c.args.table.now in let new = c.give_slot.new.table in
    let m = c.requires.marks in
    let within = ltb-true c.args.slot (4096 / c.args.class) (subst (λ o. has_place o c.args.slot ≡ true) c.requires.class (m.live_in c.args.page c.args.slot c.requires.small c.requires.live)) in
    let g = slot_shrunk t.classes.items t.free t.live t.opened new.live t.row c.args.class c.args.page c.args.slot m c.requires.class c.requires.small within c.give_slot.ensures.live in
    let from = c.in-Some.ensures.from in let before = c.in-Some.ensures.before in
    let at : slice_index_or new.classes.items c.args.page None ≡ Some c.args.class = ap (λ xs. slice_index_or xs c.args.page None) c.give_slot.ensures.classes ∙ c.requires.class in
    let o = other_live new.classes.items new.free new.live new.opened new.row c.args.class c.args.page c.in-Some.field-0 c.give_slot.ensures.marks at (omega (arith, from)) (omega (arith, before)) c.in-Some.ensures.here in
    subst (λ xs. Fits (record { classes = xs; live = new.live }) c.args.pages.now) (sym c.give_slot.ensures.classes)
    (fits_shrunk (record { classes = t.classes.items; live = t.live }) (record { classes = t.classes.items; live = new.live }) c.args.pages.now c.args.class c.args.page c.args.slot (c.in-Some.field-0 - 512 * c.args.page)
    (λ q cl a. (m.sizes q cl a).0) g refl o.0 o.1 c.requires.fits)

pub returns-in-Some-clause-laid : goal.returns-in-Some-clause-laid
returns-in-Some-clause-laid c = λ used laid blocks.
    let t = c.args.table.now in let new = c.give_slot.new.table in
    let m = c.requires.marks in
    let within = ltb-true c.args.slot (4096 / c.args.class) (subst (λ o. has_place o c.args.slot ≡ true) c.requires.class (m.live_in c.args.page c.args.slot c.requires.small c.requires.live)) in
    let g = slot_shrunk t.classes.items t.free t.live t.opened new.live t.row c.args.class c.args.page c.args.slot m c.requires.class c.requires.small within c.give_slot.ensures.live in
    let from = c.in-Some.ensures.from in let before = c.in-Some.ensures.before in
    let at : slice_index_or new.classes.items c.args.page None ≡ Some c.args.class = ap (λ xs. slice_index_or xs c.args.page None) c.give_slot.ensures.classes ∙ c.requires.class in
    let o = other_live new.classes.items new.free new.live new.opened new.row c.args.class c.args.page c.in-Some.field-0 c.give_slot.ensures.marks at (omega (arith, from)) (omega (arith, before)) c.in-Some.ensures.here in
    laid_shrunk (record { classes = t.classes.items; live = t.live }) (record { classes = t.classes.items; live = new.live }) c.args.pages.now used c.args.class c.args.page c.args.slot (c.in-Some.field-0 - 512 * c.args.page)
    (λ q cl a. (m.sizes q cl a).0) g c.requires.class o.0 o.1 c.requires.fits laid blocks

pub returns-in-Some-clause-blocks : goal.returns-in-Some-clause-blocks
returns-in-Some-clause-blocks c = λ used blocks.
    let t = c.args.table.now in let new = c.give_slot.new.table in
    let m = c.requires.marks in
    let within = ltb-true c.args.slot (4096 / c.args.class) (subst (λ o. has_place o c.args.slot ≡ true) c.requires.class (m.live_in c.args.page c.args.slot c.requires.small c.requires.live)) in
    let g = slot_shrunk t.classes.items t.free t.live t.opened new.live t.row c.args.class c.args.page c.args.slot m c.requires.class c.requires.small within c.give_slot.ensures.live in
    subst (λ xs. AreBlocks (record { classes = xs; live = new.live }) (without_allocation used (page_start c.args.page + c.args.class * c.args.slot))) (sym c.give_slot.ensures.classes)
    (blocks_shrunk (record { classes = t.classes.items; live = t.live }) (record { classes = t.classes.items; live = new.live }) used c.args.class c.args.page c.args.slot (λ q cl a. (m.sizes q cl a).0) g blocks)

pub give_page-requires-clause-run : goal.give_page-requires-clause-run
give_page-requires-clause-run c =
    let t = c.args.table.now in
    slab_starts (record { classes = t.classes.items; live = t.live }) c.args.pages.now c.args.class c.args.page c.requires.fits c.requires.class

pub returns-in-None-clause-fits : goal.returns-in-None-clause-fits
returns-in-None-clause-fits c =
    let t = c.args.table.now in let new = c.give_slot.new.table in let last = c.give_page.new.table in
    let m = c.requires.marks in
    let within = ltb-true c.args.slot (4096 / c.args.class) (subst (λ o. has_place o c.args.slot ≡ true) c.requires.class (m.live_in c.args.page c.args.slot c.requires.small c.requires.live)) in
    let g = slot_shrunk t.classes.items t.free t.live t.opened new.live t.row c.args.class c.args.page c.args.slot m c.requires.class c.requires.small within c.give_slot.ensures.live in
    let size = (m.sizes c.args.page c.args.class c.requires.class).0 in
    let dead : (j : ℕ) → j < 4096 / c.args.class → has new.live (512 * c.args.page + j) ≡ false = λ j lt.
    let few = place_small c.args.class j size lt in c.in-None.ensures.none refl (512 * c.args.page + j) (omega arith) (omega (arith, few)) in
    let inside = slab_within t.classes.items c.args.page c.args.class c.requires.class in
    let old : Sheets = record { classes = t.classes.items; live = t.live } in
    let less : Sheets = record { classes = slice_set t.classes.items c.args.page None; live = new.live } in
    let none = page_shrunk old less c.args.class c.args.page c.args.slot g inside refl dead in
    subst (λ s. Fits s c.give_page.new.pages)
    (sym (same_sheets (record { classes = last.classes.items; live = last.live }) less (c.give_page.ensures.classes ∙ ap (λ xs. slice_set xs c.args.page None) c.give_slot.ensures.classes) c.give_page.ensures.live))
    (page_fits old less c.args.pages.now c.give_page.new.pages c.args.class c.args.page c.args.slot (λ q cl a. (m.sizes q cl a).0) none inside refl c.give_page.ensures.pages_count c.give_page.ensures.runs c.requires.fits)

pub returns-in-None-clause-laid : goal.returns-in-None-clause-laid
returns-in-None-clause-laid c = λ used laid blocks.
    let t = c.args.table.now in let new = c.give_slot.new.table in
    let m = c.requires.marks in
    let within = ltb-true c.args.slot (4096 / c.args.class) (subst (λ o. has_place o c.args.slot ≡ true) c.requires.class (m.live_in c.args.page c.args.slot c.requires.small c.requires.live)) in
    let g = slot_shrunk t.classes.items t.free t.live t.opened new.live t.row c.args.class c.args.page c.args.slot m c.requires.class c.requires.small within c.give_slot.ensures.live in
    let size = (m.sizes c.args.page c.args.class c.requires.class).0 in
    let only : (j : ℕ) → j < 4096 / c.args.class → has t.live (512 * c.args.page + j) ≡ true → j ≡ c.args.slot = λ j lt here.
    let few = place_small c.args.class j size lt in
    elim (g.still c.args.page c.args.class j c.requires.class lt here) [
      | inl same ↦ same.1
      | inr k ↦ absurd (both_ways (has new.live (512 * c.args.page + j)) (c.in-None.ensures.none refl (512 * c.args.page + j) (omega arith) (omega (arith, few))) k.1)
    ] in
    c.give_page.ensures.emptied used (page_start c.args.page + c.args.class * c.args.slot) laid
    (alone (record { classes = t.classes.items; live = t.live }) c.args.pages.now used c.args.class c.args.page c.args.slot g.some g.fits c.requires.class only c.requires.fits laid blocks)

pub returns-in-None-clause-blocks : goal.returns-in-None-clause-blocks
returns-in-None-clause-blocks c = λ used blocks.
    let t = c.args.table.now in let new = c.give_slot.new.table in let last = c.give_page.new.table in
    let m = c.requires.marks in
    let within = ltb-true c.args.slot (4096 / c.args.class) (subst (λ o. has_place o c.args.slot ≡ true) c.requires.class (m.live_in c.args.page c.args.slot c.requires.small c.requires.live)) in
    let g = slot_shrunk t.classes.items t.free t.live t.opened new.live t.row c.args.class c.args.page c.args.slot m c.requires.class c.requires.small within c.give_slot.ensures.live in
    let size = (m.sizes c.args.page c.args.class c.requires.class).0 in
    let dead : (j : ℕ) → j < 4096 / c.args.class → has new.live (512 * c.args.page + j) ≡ false = λ j lt.
    let few = place_small c.args.class j size lt in c.in-None.ensures.none refl (512 * c.args.page + j) (omega arith) (omega (arith, few)) in
    let inside = slab_within t.classes.items c.args.page c.args.class c.requires.class in
    let old : Sheets = record { classes = t.classes.items; live = t.live } in
    let less : Sheets = record { classes = slice_set t.classes.items c.args.page None; live = new.live } in
    let none = page_shrunk old less c.args.class c.args.page c.args.slot g inside refl dead in
    subst (λ s. AreBlocks s (without_allocation used (page_start c.args.page + c.args.class * c.args.slot)))
    (sym (same_sheets (record { classes = last.classes.items; live = last.live }) less (c.give_page.ensures.classes ∙ ap (λ xs. slice_set xs c.args.page None) c.give_slot.ensures.classes) c.give_page.ensures.live))
    (blocks_shrunk old less used c.args.class c.args.page c.args.slot (λ q cl a. (m.sizes q cl a).0) none blocks)

pub returns-in-Some-clause-loses : goal.returns-in-Some-clause-loses
returns-in-Some-clause-loses c =
    let t = c.args.table.now in let new = c.give_slot.new.table in
    let m = c.requires.marks in
    let within = ltb-true c.args.slot (4096 / c.args.class) (subst (λ o. has_place o c.args.slot ≡ true) c.requires.class (m.live_in c.args.page c.args.slot c.requires.small c.requires.live)) in
    let g = slot_shrunk t.classes.items t.free t.live t.opened new.live t.row c.args.class c.args.page c.args.slot m c.requires.class c.requires.small within c.give_slot.ensures.live in
    subst (λ xs. Loses (sheets t) (record { classes = xs; live = new.live }) (slot_start c.args.class c.args.page c.args.slot)) (sym c.give_slot.ensures.classes)
    (lost (sheets t) (record { classes = t.classes.items; live = new.live }) c.args.class c.args.page c.args.slot (λ q cl a. (m.sizes q cl a).0) g)

pub returns-in-None-clause-loses : goal.returns-in-None-clause-loses
returns-in-None-clause-loses c =
    let t = c.args.table.now in let new = c.give_slot.new.table in let last = c.give_page.new.table in
    let m = c.requires.marks in
    let within = ltb-true c.args.slot (4096 / c.args.class) (subst (λ o. has_place o c.args.slot ≡ true) c.requires.class (m.live_in c.args.page c.args.slot c.requires.small c.requires.live)) in
    let g = slot_shrunk t.classes.items t.free t.live t.opened new.live t.row c.args.class c.args.page c.args.slot m c.requires.class c.requires.small within c.give_slot.ensures.live in
    let size = (m.sizes c.args.page c.args.class c.requires.class).0 in
    let dead : (j : ℕ) → j < 4096 / c.args.class → has new.live (512 * c.args.page + j) ≡ false = λ j lt.
    let few = place_small c.args.class j size lt in c.in-None.ensures.none refl (512 * c.args.page + j) (omega arith) (omega (arith, few)) in
    let inside = slab_within t.classes.items c.args.page c.args.class c.requires.class in
    let less : Sheets = record { classes = slice_set t.classes.items c.args.page None; live = new.live } in
    let none = page_shrunk (sheets t) less c.args.class c.args.page c.args.slot g inside refl dead in
    subst (λ s. Loses (sheets t) s (slot_start c.args.class c.args.page c.args.slot))
    (sym (same_sheets (sheets last) less (c.give_page.ensures.classes ∙ ap (λ xs. slice_set xs c.args.page None) c.give_slot.ensures.classes) c.give_page.ensures.live))
    (lost (sheets t) less c.args.class c.args.page c.args.slot (λ q cl a. (m.sizes q cl a).0) none)

pub returns-in-Some-clause-back : goal.returns-in-Some-clause-back
returns-in-Some-clause-back c = λ before held takes.
    let live = c.give_slot.ensures.back before.live takes.marked c.requires.live in
    let here = was_open before (sheets c.args.table.now) held c.args.pages.now c.args.class c.args.page c.args.slot c.in-Some.field-0 takes (let from = c.in-Some.ensures.from in omega (arith, from)) (let end = c.in-Some.ensures.before in omega (arith, end))
    (ap (λ l. has l c.in-Some.field-0) (sym live) ∙ c.in-Some.ensures.here) in
    (same_sheets (sheets c.give_slot.new.table) before (c.give_slot.ensures.classes ∙ here.classes) live, here.pages_stay)

pub returns-in-None-clause-back : goal.returns-in-None-clause-back
returns-in-None-clause-back c = λ before held takes.
    let live = c.give_slot.ensures.back before.live takes.marked c.requires.live in
    let free = was_free before (sheets c.args.table.now) held c.args.pages.now c.args.class c.args.page c.args.slot (c.requires.marks.sizes c.args.page c.args.class c.requires.class).0 takes
    (λ n low high. ap (λ l. has l n) (sym live) ∙ c.in-None.ensures.none refl n (omega (arith, low)) (omega (arith, high))) in
    let classes = c.give_page.ensures.classes ∙ ap (λ xs. slice_set xs c.args.page None) (c.give_slot.ensures.classes ∙ free.classes) ∙ no_page_again before.classes c.args.page c.args.class free.none in
    (same_sheets (sheets c.give_page.new.table) before classes (c.give_page.ensures.live ∙ live), c.give_page.ensures.back held free.taken)
