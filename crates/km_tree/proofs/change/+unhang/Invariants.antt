use Rattle.km_tree.specs.Tables.{height_at}
use Rattle.km_tree.proofs.change.+unhang.Given as goal

abbrev pub decreases-unhang : goal.decreases-unhang
decreases-unhang l = height_at l.nodes.now l.root
