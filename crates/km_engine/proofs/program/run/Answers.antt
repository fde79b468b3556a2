use Rattle.std.proofs.Common.{◌≡◌, Ok, refl, ap, sym, ◌∙◌}
use Rattle.km_engine.proofs.Answered.{does_as, is_checked, is_run}
use Rattle.km_engine.proofs.program.run.Goals as goal

pub returns-in-Err : goal.returns-in-Err
returns-in-Err g c = does_as _ _ _ _ _ _ _ _ _ (sym c.in-Err.ensures.form) (refl, refl, refl)

pub returns-in-Ok-Run : goal.returns-in-Ok-Run
returns-in-Ok-Run g c = does_as _ _ _ _ _ _ _ _ _ (sym c.in-Ok-Run.ensures.form ∙ ap Ok c.in-Ok-Run.field-0-is) (is_run _ _ _ _ _ _ c.run_script.ensures.1)

pub returns-in-Ok-Check : goal.returns-in-Ok-Check
returns-in-Ok-Check g c = does_as _ _ _ _ _ _ _ _ _ (sym c.in-Ok-Check.ensures.form ∙ ap Ok c.in-Ok-Check.field-0-is) (is_checked _ _ _ _ _ c.check.ensures)

pub returns-in-Ok-Bench : goal.returns-in-Ok-Bench
returns-in-Ok-Bench g c = does_as _ _ _ _ _ _ _ _ _ (sym c.in-Ok-Bench.ensures.form ∙ ap Ok c.in-Ok-Bench.field-0-is) (c.bench.ensures, refl)
