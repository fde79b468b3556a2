use Rattle.km_sections.proofs.Beside.{area_goes, block_comes, block_goes, run_goes, sections_come}
use Rattle.km_sections.proofs.laws.others_leave_sections.Goals as goal

pub returns-clause-come : goal.returns-clause-come
returns-clause-come c = sections_come

pub returns-clause-come_block : goal.returns-clause-come_block
returns-clause-come_block c = block_comes

pub returns-clause-go_run : goal.returns-clause-go_run
returns-clause-go_run c = run_goes

pub returns-clause-go_block : goal.returns-clause-go_block
returns-clause-go_block c = block_goes

pub returns-clause-go_area : goal.returns-clause-go_area
returns-clause-go_area c = area_goes
