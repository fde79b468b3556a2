use Rattle.km_pages.proofs.Beside.{apart_come, apart_go, apart_none, starts_apart}
use Rattle.km_pages.proofs.laws.allocations_stay_apart.Goals as goal

pub returns-clause-none : goal.returns-clause-none
returns-clause-none c = apart_none

pub returns-clause-come : goal.returns-clause-come
returns-clause-come c = apart_come

pub returns-clause-go : goal.returns-clause-go
returns-clause-go c = apart_go

pub returns-clause-starts : goal.returns-clause-starts
returns-clause-starts c = starts_apart
