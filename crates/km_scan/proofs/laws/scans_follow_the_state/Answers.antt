use Rattle.km_scan.proofs.InState.{begun_step, blocks_step, due_step, left_step, moved_step, uncounted_step}
use Rattle.km_scan.proofs.laws.scans_follow_the_state.Goals as goal

pub returns-clause-due : goal.returns-clause-due
returns-clause-due c = due_step

pub returns-clause-moved : goal.returns-clause-moved
returns-clause-moved c = moved_step

pub returns-clause-blocks : goal.returns-clause-blocks
returns-clause-blocks c = blocks_step

pub returns-clause-left : goal.returns-clause-left
returns-clause-left c = left_step

pub returns-clause-begun : goal.returns-clause-begun
returns-clause-begun c = begun_step

pub returns-clause-uncounted : goal.returns-clause-uncounted
returns-clause-uncounted c = uncounted_step
