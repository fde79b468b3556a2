use Rattle.std.proofs.Common.{arith}
use Rattle.km_tree.proofs.Shapes.{held_left, held_right, forked, height_size}
use Rattle.km_tree.proofs.shape.fork.Goals as goal

pub overflow_add-height : goal.overflow_add-height
overflow_add-height c =
    let s = c.requires.sides in
    omega (arith, s.small, height_size c.requires.left, height_size c.requires.right, c.height.ensures _ (held_left s), c.height-2.ensures _ (held_right s), c.max-height.ensures)

pub returns : goal.returns
returns c t u s =
    forked c.args.entry _ s (omega (arith, c.height.ensures _ (held_left s), c.height-2.ensures _ (held_right s), c.max-height.ensures))
