use Rattle.std.proofs.Common.{◌*◌, ◌==◌, ◌++◌, ◌∷◌, [], length, Some, if◌then◌else◌, refl, sym, ap, subst, ◌∙◌}
use Rattle.km_model.specs.Placement.{next_head, page_of, pages_for}
use Rattle.km_pages.specs.declared.runs.Use.TheVariants.{Vmalloc}
use Rattle.km_slab.specs.Blocks.{Gains}
use Rattle.km_slab.proofs.Owners.{blocks_more}
use Rattle.km_vmalloc.specs.Areas.{as_head, as_area}
use Rattle.km_vmalloc.proofs.Taking.{area_placed, head_block, next_block, same_at}
use Rattle.km_vmalloc.proofs.parts.take_parts.Goals as goal

pub returns-in-Ok-take_run-clause-place : goal.returns-in-Ok-take_run-clause-place
returns-in-Ok-take_run-clause-place c = λ used laid blocks.
    let a = c.in-Ok.head.start.0 in
    area_placed (512 * length c.args.pages.now) (512 * length c.kmalloc.new.pages) used c.args.size a (Some c.in-Ok-take_run.area.start.0) (c.in-Ok.ensures.answer used laid blocks) (ap (λ n. 512 * n) c.in-Ok.ensures.pages_count)
    (c.in-Ok-take_run.ensures.place (used ++ next_head used a ∷ []) (c.in-Ok.ensures.laid used (next_head used a) laid (next_block used a)))

pub returns-in-Ok-take_run-clause-parts : goal.returns-in-Ok-take_run-clause-parts
returns-in-Ok-take_run-clause-parts c =
    let head = c.in-Ok.head in let area = c.in-Ok-take_run.area in
    let small = c.in-Ok.ensures.small refl in
    record {
      head_size = c.in-Ok.ensures.span;
      area_size = c.in-Ok-take_run.ensures.size;
      gains = subst (λ n. Gains c.args.slab.now c.kmalloc.new.self n c.in-Ok.head.start.0) c.in-Ok.ensures.span (c.in-Ok.ensures.gains refl);
      fresh = sym (same_at c.args.pages.now c.kmalloc.new.pages Vmalloc area.start.0 (small Vmalloc (page_of area.start.0) refl)) ∙ c.in-Ok-take_run.ensures.fresh;
      run = c.in-Ok-take_run.ensures.here;
      runs = λ p. c.in-Ok-take_run.ensures.runs p ∙ ap (λ o. if p == page_of c.in-Ok-take_run.area.start.0 then Some (pages_for c.args.size) else o) (small Vmalloc p refl);
      lowest = λ used laid blocks. c.in-Ok.ensures.lowest used laid blocks refl;
      head_apart = c.in-Ok.ensures.apart;
      area_apart = λ used slot laid blocks. c.in-Ok-take_run.ensures.apart (used ++ as_head slot head ∷ []) (c.in-Ok.ensures.laid used (as_head slot head) laid (head_block slot head c.in-Ok.ensures.span));
      laid = λ used slot laid blocks. c.in-Ok-take_run.ensures.laid (used ++ as_head slot head ∷ []) slot (c.in-Ok.ensures.laid used (as_head slot head) laid (head_block slot head c.in-Ok.ensures.span));
      blocks = λ used slot blocks. blocks_more c.kmalloc.new.self (used ++ as_head slot head ∷ []) (as_area slot area) (c.in-Ok.ensures.blocks used (as_head slot head) blocks (head_block slot head c.in-Ok.ensures.span)) refl;
    }

pub returns-in-Err-clause-place : goal.returns-in-Err-clause-place
returns-in-Err-clause-place c = λ used laid blocks.
    let a = c.in-Ok.head.start.0 in
    area_placed (512 * length c.args.pages.now) (512 * length c.kmalloc.new.pages) used c.args.size a _ (c.in-Ok.ensures.answer used laid blocks) (ap (λ n. 512 * n) c.in-Ok.ensures.pages_count)
    (c.in-Err.ensures.place (used ++ next_head used a ∷ []) (c.in-Ok.ensures.laid used (next_head used a) laid (next_block used a)))
