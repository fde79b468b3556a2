use Rattle.km_laws.proofs.NotHeld.{listed_are_not_held}
use Rattle.km_laws.proofs.soundness.listed_are_not_held.Goals as goal

pub returns : goal.returns
returns c = listed_are_not_held
