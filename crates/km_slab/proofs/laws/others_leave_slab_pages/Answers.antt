use Rattle.km_slab.proofs.Owners.{fits_beside}
use Rattle.km_slab.proofs.laws.others_leave_slab_pages.Goals as goal

pub returns : goal.returns
returns c = fits_beside
