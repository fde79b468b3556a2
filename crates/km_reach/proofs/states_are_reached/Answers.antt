use Rattle.km_reach.proofs.Reached.{states_are_reached}
use Rattle.km_reach.proofs.states_are_reached.Goals as goal

pub returns : goal.returns
returns c = states_are_reached
