use Rattle.std.proofs.Common.{arith}
use Rattle.km_tree.proofs.Shapes.{held_left, over_left_sides, over_left_level, over_left_same}
use Rattle.km_tree.proofs.Tables.{zero_node}
use Rattle.km_tree.proofs.shape.relevel_left.Goals as goal

pub slice_copy_out-node : goal.slice_copy_out-node
slice_copy_out-node c = c.requires.over.sides.inside

pub height-requires : goal.height-requires
height-requires c = record { tree = _; held = held_left c.requires.over.sides }

pub level-requires : goal.level-requires
level-requires c = record { left = _; right = _; sides = over_left_sides _ c.requires.over }

pub returns-then-height-before : goal.returns-then-height-before
returns-then-height-before c l m e r o = over_left_same zero_node o c.if-left-node.true (omega (arith, c.if-height-before.true, c.height.ensures _ (held_left o.sides)))

pub returns : goal.returns
returns c l m e r o = over_left_level zero_node o (c.level.ensures _ _ (over_left_sides _ o))
