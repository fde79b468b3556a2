use Rattle.km_laws.proofs.Answered.{blocks_lie}
use Rattle.km_laws.proofs.blocks_lie.Goals as goal

pub returns : goal.returns
returns c = blocks_lie
