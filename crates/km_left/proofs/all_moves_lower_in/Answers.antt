use Rattle.km_left.proofs.Moves.{all_moves_lower_in}
use Rattle.km_left.proofs.all_moves_lower_in.Goals as goal

pub returns : goal.returns
returns c = all_moves_lower_in
