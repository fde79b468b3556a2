use Rattle.std.proofs.Common.{arith}
use Rattle.km_engine.proofs.ListedBlocks.{counting_begins, counting_ends, counting_fits, counting_goes_on, counting_is_live}
use Rattle.km_engine.proofs.listed.listed.Goals as goal

pub loop-next-init : goal.loop-next-init
loop-next-init c = counting_begins _ _ c.first.ensures.rising c.first.ensures.few c.first_listed-next.ensures

pub overflow_add-count : goal.overflow_add-count
overflow_add-count c = let fits = counting_fits _ _ _ c.in-Some.id c.loop-next.invariant c.in-Some.is in omega (arith, fits.0)

pub next_listed-next-requires : goal.next_listed-next-requires
next_listed-next-requires c = counting_is_live _ _ _ c.in-Some.id c.loop-next.invariant c.in-Some.is

pub loop-next-preserved : goal.loop-next-preserved
loop-next-preserved c = counting_goes_on _ _ _ _ c.in-Some.id c.loop-next.invariant c.in-Some.is c.next_listed-next.ensures

pub loop-next-smaller : goal.loop-next-smaller
loop-next-smaller c = let fits = counting_fits _ _ _ c.in-Some.id c.loop-next.invariant c.in-Some.is in omega (arith, fits.1)

pub returns : goal.returns
returns c = counting_ends _ _ _ c.loop-next.invariant c.in_default.is
