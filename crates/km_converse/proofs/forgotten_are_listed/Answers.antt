use Rattle.km_converse.proofs.ToldLaw.{forgotten_are_listed}
use Rattle.km_converse.proofs.forgotten_are_listed.Goals as goal

pub returns : goal.returns
returns c = forgotten_are_listed
