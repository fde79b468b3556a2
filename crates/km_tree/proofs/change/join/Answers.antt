use Rattle.km_tree.proofs.Changes.{joins}
use Rattle.km_tree.proofs.change.join.Goals as goal

pub take_lowest-place-requires : goal.take_lowest-place-requires
take_lowest-place-requires c =
    let z = joins c.requires.level c.requires.pair c.if-right-eq-NO_NODE.false in record { left = z.left; entry = z.entry; right = z.right; held = z.held; level = z.level }

pub level-requires : goal.level-requires
level-requires c =
    let z = joins c.requires.level c.requires.pair c.if-right-eq-NO_NODE.false in
    let low = c.take_lowest-place.ensures _ _ _ z.level z.held in
    record { left = _; right = _; sides = z.sides _ _ _ low.0 low.2 }

pub returns : goal.returns
returns c t u level h =
    let z = joins level h c.if-right-eq-NO_NODE.false in
    let low = c.take_lowest-place.ensures _ _ _ z.level z.held in
    z.done _ _ _ _ _ _ low.0 low.1 low.2 (c.level.ensures _ _ (z.sides _ _ _ low.0 low.2))
