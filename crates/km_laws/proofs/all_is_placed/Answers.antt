use Rattle.km_laws.proofs.Laws.{all_is_placed}
use Rattle.km_laws.proofs.all_is_placed.Goals as goal

pub returns : goal.returns
returns c = all_is_placed
