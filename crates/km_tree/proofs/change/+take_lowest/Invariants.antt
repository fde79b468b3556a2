use Rattle.km_tree.specs.Tables.{height_at}
use Rattle.km_tree.proofs.change.+take_lowest.Given as goal

abbrev pub decreases-take_lowest : goal.decreases-take_lowest
decreases-take_lowest l = height_at l.nodes.now l.i
