use Rattle.std.proofs.Common.{arith}
use Rattle.km_tree.proofs.Shapes.{held_right, over_right_sides, over_right_level, over_right_same}
use Rattle.km_tree.proofs.Tables.{zero_node}
use Rattle.km_tree.proofs.shape.relevel_right.Goals as goal

pub slice_copy_out-node : goal.slice_copy_out-node
slice_copy_out-node c = c.requires.over.sides.inside

pub height-requires : goal.height-requires
height-requires c = record { tree = _; held = held_right c.requires.over.sides }

pub level-requires : goal.level-requires
level-requires c = record { left = _; right = _; sides = over_right_sides _ c.requires.over }

pub returns-then-height-before : goal.returns-then-height-before
returns-then-height-before c l e r m o = over_right_same zero_node o c.if-right-node.true (omega (arith, c.if-height-before.true, c.height.ensures _ (held_right o.sides)))

pub returns : goal.returns
returns c l e r m o = over_right_level zero_node o (c.level.ensures _ _ (over_right_sides _ o))
