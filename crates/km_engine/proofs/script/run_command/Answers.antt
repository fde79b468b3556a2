use Rattle.std.proofs.Common.{refl, subst}
use Rattle.km_engine.specs.Session.{HasLed}
use Rattle.km_engine.proofs.Lines.{memory_runs, later_runs, later_ends}
use Rattle.km_engine.proofs.script.run_command.Goals as goal

pub returns-in_ok-boot-in-None-clause-runs : goal.returns-in_ok-boot-in-None-clause-runs
returns-in_ok-boot-in-None-clause-runs g c =
    let made = c.in_ok-boot-in-None.ensures in
    λ m led. memory_runs c.in_ok-boot-in-None.field-0 _ m _ _ _ led c.in-None.is refl made.asked made.stands

pub returns-in-Ok-clause-runs : goal.returns-in-Ok-clause-runs
returns-in-Ok-clause-runs g c =
    let ran = c.in-Ok.ensures in
    λ m led. later_runs c.in-Some.machine c.line.new.self m c.args.command.now _ _ (subst (λ o. HasLed o m) c.in-Some.is led) ran.runs

pub returns-in-Err-clause-runs : goal.returns-in-Err-clause-runs
returns-in-Err-clause-runs g c =
    λ m led. later_ends c.in-Some.machine c.line.new.self m c.args.command.now _ _ c.in-Err.field-0 (subst (λ o. HasLed o m) c.in-Some.is led) c.in-Err.ensures.runs
