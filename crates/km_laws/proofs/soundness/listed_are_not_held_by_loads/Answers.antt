use Rattle.km_laws.proofs.NotHeld.{listed_not_held_by_loads}
use Rattle.km_laws.proofs.soundness.listed_are_not_held_by_loads.Goals as goal

pub returns : goal.returns
returns c = listed_not_held_by_loads
