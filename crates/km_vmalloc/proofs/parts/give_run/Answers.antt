use Rattle.std.proofs.Common.{refl}
use Rattle.km_vmalloc.proofs.parts.give_run.Goals as goal

pub returns-clause-laid : goal.returns-clause-laid
returns-clause-laid c = λ used laid. c.in-Ok.ensures.laid used laid refl
