use Rattle.std.proofs.Common.{arith}
use Rattle.km_vmalloc.proofs.Opening.{none_among, none_fit, none_seen}
use Rattle.km_vmalloc.proofs.vmalloc.Vmalloc.new.Goals as goal

pub invariant_of-result : goal.invariant_of-result
invariant_of-result c = none_seen c.in_ok-areas.areas.items c.in-Ok.hints.items c.in_ok-areas.ensures.count c.in_ok-areas.ensures.none (omega (arith, c.in-Ok.ensures.len))

pub returns-in-Ok-clause-fits : goal.returns-in-Ok-clause-fits
returns-in-Ok-clause-fits c = λ slab pages runs. none_fit c.in_ok-areas.areas.items slab pages c.in_ok-areas.ensures.none runs

pub returns-in-Ok-clause-areas : goal.returns-in-Ok-clause-areas
returns-in-Ok-clause-areas c = λ used others. none_among c.in_ok-areas.areas.items used c.in_ok-areas.ensures.none others
