use Rattle.km_model.proofs.RefusalLaws.{refused_leaves_all}
use Rattle.km_model.proofs.laws.refused_leave_all.Goals as goal

pub returns : goal.returns
returns c = refused_leaves_all
