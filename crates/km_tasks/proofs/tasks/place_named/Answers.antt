use Rattle.std.proofs.Common.{ap, ◌∙◌, is_some}
use Rattle.km_tasks.proofs.Names.{named_some}
use Rattle.km_tasks.proofs.tasks.place_named.Goals as goal

pub returns-clause-some : goal.returns-clause-some
returns-clause-some c = ap is_some c.first_named.ensures ∙ named_some c.args.lives.now c.args.name
