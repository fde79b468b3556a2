use Rattle.km_laws.proofs.Laws.{left_is_bounded}
use Rattle.km_laws.proofs.left_is_bounded.Goals as goal

pub returns : goal.returns
returns c = left_is_bounded
