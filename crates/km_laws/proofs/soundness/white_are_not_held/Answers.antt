use Rattle.km_laws.proofs.NotHeld.{white_are_not_held}
use Rattle.km_laws.proofs.soundness.white_are_not_held.Goals as goal

pub returns : goal.returns
returns c = white_are_not_held
