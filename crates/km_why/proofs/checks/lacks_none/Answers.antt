use Rattle.km_why.proofs.Chosen.{readable_after}
use Rattle.km_why.proofs.checks.lacks_none.Goals as goal

pub after_heads-requires-clause-readable : goal.after_heads-requires-clause-readable
after_heads-requires-clause-readable g c = readable_after _ _ _ _ c.requires c.in_sources-lacking.ensures.told
