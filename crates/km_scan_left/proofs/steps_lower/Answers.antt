use Rattle.km_scan_left.proofs.Steps.{ends, moves, stops, takes, tells}
use Rattle.km_scan_left.proofs.steps_lower.Goals as goal

pub returns-clause-moves : goal.returns-clause-moves
returns-clause-moves c = moves

pub returns-clause-ends : goal.returns-clause-ends
returns-clause-ends c = ends

pub returns-clause-stops : goal.returns-clause-stops
returns-clause-stops c = stops

pub returns-clause-told : goal.returns-clause-told
returns-clause-told c = tells

pub returns-clause-taken : goal.returns-clause-taken
returns-clause-taken c = takes
