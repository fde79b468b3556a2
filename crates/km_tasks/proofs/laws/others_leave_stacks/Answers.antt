use Rattle.km_tasks.proofs.Stacks.{fits_beside}
use Rattle.km_tasks.proofs.laws.others_leave_stacks.Goals as goal

pub returns : goal.returns
returns c = fits_beside
