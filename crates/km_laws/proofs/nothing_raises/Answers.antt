use Rattle.km_laws.proofs.Laws.{nothing_raises}
use Rattle.km_laws.proofs.nothing_raises.Goals as goal

pub returns : goal.returns
returns c = nothing_raises
