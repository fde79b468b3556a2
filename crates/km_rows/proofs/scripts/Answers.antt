use Rattle.km_rows.proofs.Rows.{all_are_out}
use Rattle.km_rows.proofs.scripts.Goals as goal

pub returns-clause-reports : goal.returns-clause-reports
returns-clause-reports c = all_are_out
