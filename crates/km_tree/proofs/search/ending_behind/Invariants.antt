use Rattle.km_tree.specs.Tables.{height_at}
use Rattle.km_tree.proofs.Walks.{Walk}
use Rattle.km_tree.proofs.search.ending_behind.Given as goal

abbrev pub invariant-loop-at : goal.invariant-loop-at
invariant-loop-at l = Walk l.nodes l.fn.root l.a l.at l.found

abbrev pub decreases-loop-at : goal.decreases-loop-at
decreases-loop-at l = height_at l.nodes l.at
