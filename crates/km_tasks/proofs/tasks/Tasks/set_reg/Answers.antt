use Rattle.std.proofs.Common.{ap, sym, subst, ◌∙◌}
use Rattle.km_model.specs.Tasks.{with_register}
use Rattle.km_tasks.specs.Roll.{Fits, Roll}
use Rattle.km_tasks.proofs.Stacks.{fits_set}
use Rattle.km_tasks.proofs.tasks.Tasks.set_reg.Goals as goal

pub returns-clause-fits : goal.returns-clause-fits
returns-clause-fits c = λ pages fits.
    subst (λ ts. Fits ts pages) (sym (c.set_at.ensures.set ∙ ap (λ (r : Roll). with_register r.tasks c.args.name c.args.reg c.args.value) c.self.view_is)) (fits_set c.args.self.now.tasks c.args.name c.args.reg c.args.value pages fits)
