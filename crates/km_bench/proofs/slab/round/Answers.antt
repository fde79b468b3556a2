use Rattle.km_pages.specs.declared.runs.Use.TheVariants.{Slab}
use Rattle.km_bench.proofs.slab.round.Goals as goal

pub allocate-first-requires : goal.allocate-first-requires
allocate-first-requires c = c.in_ok-slab.ensures.fits c.in_ok-pages.pages c.in_ok-pages.ensures.size (c.in_ok-pages.ensures.runs Slab)
