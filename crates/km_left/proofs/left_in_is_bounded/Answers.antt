use Rattle.km_left.proofs.Bounds.{left_in_is_bounded}
use Rattle.km_left.proofs.left_in_is_bounded.Goals as goal

pub returns : goal.returns
returns c = left_in_is_bounded
