use Rattle.km_why.proofs.Begun.{none_wait}
use Rattle.km_why.proofs.laws.none_wait_at_first.Goals as goal

pub returns : goal.returns
returns c = none_wait
