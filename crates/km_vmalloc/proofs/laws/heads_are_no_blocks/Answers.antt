use Rattle.km_vmalloc.proofs.Beside.{block_elsewhere, no_block_here}
use Rattle.km_vmalloc.proofs.laws.heads_are_no_blocks.Goals as goal

pub returns-clause-elsewhere : goal.returns-clause-elsewhere
returns-clause-elsewhere c = block_elsewhere

pub returns-clause-here : goal.returns-clause-here
returns-clause-here c = no_block_here
