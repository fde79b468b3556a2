use Rattle.km_slab.specs.Blocks.{Fits}
use Rattle.km_bench.proofs.slab.allocate.Given as goal

abbrev pub invariant-loop : goal.invariant-loop
invariant-loop l = Fits l.slab l.pages
