use Rattle.km_slab.proofs.Owners.{blocks_go, blocks_more}
use Rattle.km_slab.proofs.laws.others_leave_blocks.Goals as goal

pub returns-clause-come : goal.returns-clause-come
returns-clause-come c = blocks_more

pub returns-clause-go : goal.returns-clause-go
returns-clause-go c = blocks_go
