use Rattle.std.proofs.Common.{arith}
use Rattle.km_links.proofs.Chains.{none_linked}
use Rattle.km_links.proofs.chain.Chain.new.Goals as goal

pub invariant_of-result : goal.invariant_of-result
invariant_of-result c =
    let made = c.in_ok-with_capacity.ensures {u = tt} in
    record { linked = none_linked _ made.items; within = omega (arith, made.len); reserved = made.capacity; small = omega arith }
