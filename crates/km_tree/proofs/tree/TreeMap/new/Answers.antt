use Rattle.std.proofs.Common.{arith}
use Rattle.km_tree.proofs.Maps.{empty}
use Rattle.km_tree.proofs.tree.TreeMap.new.Goals as goal

pub invariant_of-result : goal.invariant_of-result
invariant_of-result c = let made = c.in-Ok.ensures {u = tt} in record { any = empty made.items (omega arith) (omega (arith, made.capacity)); within = tt }
