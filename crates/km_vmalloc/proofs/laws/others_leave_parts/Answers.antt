use Rattle.km_vmalloc.proofs.Changing.{fits_back, fits_freed}
use Rattle.km_vmalloc.proofs.laws.others_leave_parts.Goals as goal

pub returns-clause-come : goal.returns-clause-come
returns-clause-come c = fits_back

pub returns-clause-go : goal.returns-clause-go
returns-clause-go c = fits_freed
