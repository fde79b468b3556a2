use Rattle.std.proofs.Common.{sym, ap, subst, ◌∙◌, option_map}
use Rattle.km_model.specs.Placement.{page_of}
use Rattle.km_pages.specs.Runs.{run_with}
use Rattle.km_pages.specs.Laid.{AreLaid}
use Rattle.km_pages.proofs.Owners.{boot_there, boot_from}
use Rattle.km_pages.proofs.pages.Pages.run_at.Goals as goal

pub returns-clause-boot : goal.returns-clause-boot
returns-clause-boot c = λ used laid.
    let old = subst (λ m. AreLaid m used) (sym c.self.view_is) laid in
    let e = c.use_of_page.ensures ∙ ap (λ m. option_map (λ r. r.kind) (run_with m (page_of c.args.a.0))) c.deref.ensures.value in (
      λ h. e ∙ boot_there c.self.inside.pages.items used c.args.a.0 old c.requires.memory h,
      λ h. boot_from c.self.inside.pages.items used c.args.a.0 c.self.invariant old c.requires.memory (sym e ∙ h),
    )
