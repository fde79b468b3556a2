use Rattle.std.proofs.Common.{arith}
use Rattle.km_tree.proofs.Changes.{lowers}
use Rattle.km_tree.proofs.change.+take_lowest.Goals as goal

pub height-before-requires : goal.height-before-requires
height-before-requires m c = let z = lowers _ c.requires.level c.requires.held c.if-node.false in record { tree = _; held = z.held }

pub take_lowest-place-requires : goal.take_lowest-place-requires
take_lowest-place-requires m c =
    let z = lowers _ c.requires.level c.requires.held c.if-node.false in (omega (arith, z.falls, c.decreases), record { left = z.left; entry = z.entry; right = z.right; held = z.held; level = z.level })

pub relevel_left-requires : goal.relevel_left-requires
relevel_left-requires m c =
    let z = lowers _ c.requires.level c.requires.held c.if-node.false in
    record { old = _; new = _; entry = _; right = _; over = z.over _ _ _ (c.height-before.ensures _ z.held) (c.take_lowest-place.ensures _ _ _ z.level z.held).2 }

pub returns : goal.returns
returns m c l e r level h =
    let z = lowers _ level h c.if-node.false in
    let low = c.take_lowest-place.ensures _ _ _ z.level z.held in
    z.done _ _ _ _ _ _ low.0 low.1 low.2 (c.relevel_left.ensures _ _ _ _ (z.over _ _ _ (c.height-before.ensures _ z.held) low.2))
