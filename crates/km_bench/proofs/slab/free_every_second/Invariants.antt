use Rattle.km_slab.specs.Blocks.{Fits}
use Rattle.km_bench.proofs.slab.free_every_second.Given as goal

abbrev pub invariant-loop-i : goal.invariant-loop-i
invariant-loop-i l = Fits l.slab l.pages
