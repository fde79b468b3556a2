use Rattle.km_laws.proofs.Room.{scans_end}
use Rattle.km_laws.proofs.scans_end.Goals as goal

pub returns : goal.returns
returns c = scans_end
