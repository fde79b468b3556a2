use Rattle.km_laws.proofs.Answered.{only_loads_load}
use Rattle.km_laws.proofs.only_loads_load.Goals as goal

pub returns : goal.returns
returns c = only_loads_load
