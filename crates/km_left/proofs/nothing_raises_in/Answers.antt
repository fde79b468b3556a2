use Rattle.km_left.proofs.Raises.{nothing_raises_in}
use Rattle.km_left.proofs.nothing_raises_in.Goals as goal

pub returns : goal.returns
returns c = nothing_raises_in
