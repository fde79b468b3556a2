use Rattle.km_scan.proofs.FitLaws.{registered_kept}
use Rattle.km_scan.proofs.laws.registered_fits.Goals as goal

pub returns : goal.returns
returns c = registered_kept
