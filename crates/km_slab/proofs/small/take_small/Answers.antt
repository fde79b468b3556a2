use Rattle.std.proofs.Common.{◌≡◌, ℕ, Option, Some, None, List, length, ◌*◌, unwrap_or, refl, sym, ap, ◌∙◌}
use Rattle.km_base.specs.declared.spans.Span.{Span}
use Rattle.std.proofs.lemmas.Result.{IfOk-weaker}
use Rattle.km_model.specs.Placement.{Allocation, lowest_run, lowest_slab, page_start, run_place}
use Rattle.km_pages.specs.Laid.{AreLaid}
use Rattle.km_slab.specs.Blocks.{AreBlocks}
use Rattle.km_slab.specs.Tables.{sheets}
use Rattle.km_slab.proofs.Places.{free_slot_none}
use Rattle.km_slab.proofs.small.take_small.Goals as goal

pub returns-in-Some-clause-laid : goal.returns-in-Some-clause-laid
returns-in-Some-clause-laid c = λ used x laid slab size start. c.take_open.ensures.laid c.args.pages.now used x c.requires.fits laid slab size start

pub returns-in-None-clause-place : goal.returns-in-None-clause-place
returns-in-None-clause-place c = λ used laid blocks.
    let t = c.args.table.now in
    let none = free_slot_none (sheets t) c.args.pages.now used c.args.class laid blocks (c.in-None.ensures.none refl) in
    c.take_new.ensures.place used laid
    ∙ sym (ap (λ (o : Option ℕ). elim o as (λ _. Option ℕ) [ Some a ↦ Some a | None ↦ run_place (512 * length c.args.pages.now) used 1 ]) none)

pub returns-in-None-clause-lowest : goal.returns-in-None-clause-lowest
returns-in-None-clause-lowest c =
    let t = c.args.table.now in
    IfOk-weaker c.take_new.result
    (λ (s : Span). (used : List Allocation) → AreLaid c.args.pages.now used → s.start.0 ≡ page_start (lowest_run used 1))
    (λ (s : Span). (used : List Allocation) → AreLaid c.args.pages.now used → AreBlocks (sheets t) used → s.start.0 ≡ lowest_slab used c.args.class)
    (λ s h used laid blocks. h used laid ∙ sym (ap (λ o. unwrap_or o (page_start (lowest_run used 1)))
    (free_slot_none (sheets t) c.args.pages.now used c.args.class laid blocks (c.in-None.ensures.none refl)))) c.take_new.ensures.lowest
