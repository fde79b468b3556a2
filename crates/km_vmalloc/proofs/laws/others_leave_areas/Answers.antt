use Rattle.km_vmalloc.proofs.Beside.{areas_come, areas_go, areas_go_block, areas_go_run, block_comes}
use Rattle.km_vmalloc.proofs.laws.others_leave_areas.Goals as goal

pub returns-clause-come : goal.returns-clause-come
returns-clause-come c = areas_come

pub returns-clause-go : goal.returns-clause-go
returns-clause-go c = areas_go

pub returns-clause-go_run : goal.returns-clause-go_run
returns-clause-go_run c = areas_go_run

pub returns-clause-come_block : goal.returns-clause-come_block
returns-clause-come_block c = block_comes

pub returns-clause-go_block : goal.returns-clause-go_block
returns-clause-go_block c = areas_go_block
