use Rattle.km_converse.proofs.ToldLaw.{forgotten_are_new_once}
use Rattle.km_converse.proofs.forgotten_are_new_once.Goals as goal

pub returns : goal.returns
returns c = forgotten_are_new_once
