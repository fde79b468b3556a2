use Rattle.km_laws.proofs.Laws.{loads_lower}
use Rattle.km_laws.proofs.loads_lower.Goals as goal

pub returns : goal.returns
returns c = loads_lower
