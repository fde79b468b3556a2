use Rattle.km_laws.proofs.Laws.{names_rise}
use Rattle.km_laws.proofs.names_rise.Goals as goal

pub returns : goal.returns
returns c = names_rise
