use Rattle.km_laws.proofs.NotHeld.{white_not_held_by_loads}
use Rattle.km_laws.proofs.soundness.white_are_not_held_by_loads.Goals as goal

pub returns : goal.returns
returns c = white_not_held_by_loads
