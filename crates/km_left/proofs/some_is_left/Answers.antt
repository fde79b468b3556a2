use Rattle.km_left.proofs.Bounds.{some_is_left}
use Rattle.km_left.proofs.some_is_left.Goals as goal

pub returns : goal.returns
returns c = some_is_left
