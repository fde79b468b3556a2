use Rattle.km_slab.proofs.Owners.{request_block}
use Rattle.km_slab.proofs.laws.requests_make_blocks.Goals as goal

pub returns : goal.returns
returns c = request_block
