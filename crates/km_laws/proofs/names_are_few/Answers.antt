use Rattle.km_laws.proofs.Few.{names_are_few}
use Rattle.km_laws.proofs.names_are_few.Goals as goal

pub returns : goal.returns
returns c = names_are_few
