use Rattle.std.proofs.Common.{◌==◌, None, if◌then◌else◌, sym, ap, subst, ◌∙◌}
use Rattle.km_model.specs.Memory.{base}
use Rattle.km_model.specs.Placement.{page_start}
use Rattle.km_pages.specs.declared.runs.Use.TheVariants.{Slab}
use Rattle.km_pages.specs.Runs.{run_from}
use Rattle.km_pages.specs.Laid.{BeginAt}
use Rattle.km_pages.proofs.Touching.{page_of_start}
use Rattle.km_slab.proofs.Places.{some_number}
use Rattle.km_slab.proofs.small.give_page.Goals as goal

pub drop_page-requires-clause-size : goal.drop_page-requires-clause-size
drop_page-requires-clause-size c = c.requires.marks.sizes c.args.page c.args.class c.requires.class

pub returns-clause-runs : goal.returns-clause-runs
returns-clause-runs c = λ p.
    c.in-Ok.ensures.runs p ∙ ap (λ q. if p == q then None else run_from c.args.pages.now Slab p) (page_of_start base c.args.page)

pub returns-clause-emptied : goal.returns-clause-emptied
returns-clause-emptied c = λ used b laid begin.
    let one = some_number 1 c.in-Ok.field-0 (sym c.requires.run ∙ sym c.in-Ok.ensures.answer) in
    c.in-Ok.ensures.emptied used b laid (subst (λ n. BeginAt used n (page_start c.args.page) b) one begin)
