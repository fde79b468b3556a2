use Rattle.km_converse.proofs.Forgotten.{forgotten_are_listed_by_loads}
use Rattle.km_converse.proofs.forgotten_are_listed_by_loads.Goals as goal

pub returns : goal.returns
returns c = forgotten_are_listed_by_loads
