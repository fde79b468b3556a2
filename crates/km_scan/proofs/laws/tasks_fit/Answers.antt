use Rattle.km_scan.proofs.FitLaws.{exit_kept, register_kept, start_kept}
use Rattle.km_scan.proofs.laws.tasks_fit.Goals as goal

pub returns-clause-start : goal.returns-clause-start
returns-clause-start c = start_kept

pub returns-clause-exit : goal.returns-clause-exit
returns-clause-exit c = exit_kept

pub returns-clause-register : goal.returns-clause-register
returns-clause-register c = register_kept
