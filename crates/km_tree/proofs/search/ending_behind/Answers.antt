use Rattle.std.proofs.Common.{arith}
use Rattle.km_tree.proofs.Walks.{starts, step}
use Rattle.km_tree.proofs.Tables.{zero_node}
use Rattle.km_tree.proofs.search.ending_behind.Goals as goal

pub loop-at-init : goal.loop-at-init
loop-at-init c = starts c.args.nodes.now c.args.root c.args.a c.requires

pub bounds-nodes-at : goal.bounds-nodes-at
bounds-nodes-at c = (step zero_node c.loop-at.invariant c.loop-at-test.true).inside

pub loop-at-smaller-then-a-span : goal.loop-at-smaller-then-a-span
loop-at-smaller-then-a-span c = (step _ c.loop-at.invariant c.loop-at-test.true).lower_left

pub loop-at-preserved-then-a-span : goal.loop-at-preserved-then-a-span
loop-at-preserved-then-a-span c = (step zero_node c.loop-at.invariant c.loop-at-test.true).left (omega (arith, c.if-a-span.true))

pub returns-then-a-span-2 : goal.returns-then-a-span-2
returns-then-a-span-2 c t is stands rising =
    (step zero_node c.loop-at.invariant c.loop-at-test.true).here (omega (arith, c.if-a-span.false)) (omega (arith, c.if-a-span.false, c.if-a-span-2.true)) t is stands rising

pub loop-at-smaller : goal.loop-at-smaller
loop-at-smaller c = (step _ c.loop-at.invariant c.loop-at-test.true).lower_right

pub loop-at-preserved : goal.loop-at-preserved
loop-at-preserved c = (step zero_node c.loop-at.invariant c.loop-at-test.true).right (omega (arith, c.if-a-span.false, c.if-a-span-2.false))
