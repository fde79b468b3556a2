use Rattle.km_tree.specs.Tables.{height_at}
use Rattle.km_tree.proofs.change.+try_hang.Given as goal

abbrev pub decreases-try_hang : goal.decreases-try_hang
decreases-try_hang l = height_at l.nodes.now l.root
