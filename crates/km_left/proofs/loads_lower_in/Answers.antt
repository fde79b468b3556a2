use Rattle.km_left.proofs.LoadsLower.{loads_lower_in}
use Rattle.km_left.proofs.loads_lower_in.Goals as goal

pub returns : goal.returns
returns c = loads_lower_in
