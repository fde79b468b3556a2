use Rattle.std.proofs.Common.{arith}
use Rattle.km_tree.proofs.Shapes.{held_left, held_right, height_size, leant_sides_left, leant_sides_right, levels_left, levels_right, levels_none}
use Rattle.km_tree.proofs.shape.level.Goals as goal

pub overflow_add-right_height : goal.overflow_add-right_height
overflow_add-right_height c =
    let s = c.requires.sides in omega (arith, s.small, height_size c.requires.right, c.height-right_height.ensures _ (held_right s))

pub lean_left-left-requires : goal.lean_left-left-requires
lean_left-left-requires c = record { tree = c.requires.left; held = held_left c.requires.sides }

pub lift_left-requires : goal.lift_left-requires
lift_left-requires c = let s = c.requires.sides in record { left = _; right = _; sides = leant_sides_left s (c.lean_left-left.ensures _ (held_left s)) }

pub overflow_add-left_height : goal.overflow_add-left_height
overflow_add-left_height c =
    let s = c.requires.sides in omega (arith, s.small, height_size c.requires.left, c.height-left_height.ensures _ (held_left s))

pub lean_right-right-requires : goal.lean_right-right-requires
lean_right-right-requires c = record { tree = c.requires.right; held = held_right c.requires.sides }

pub lift_right-requires : goal.lift_right-requires
lift_right-requires c = let s = c.requires.sides in record { left = _; right = _; sides = leant_sides_right s (c.lean_right-right.ensures _ (held_right s)) }

pub returns-then-right_height-left_height : goal.returns-then-right_height-left_height
returns-then-right_height-left_height c t u s =
    let lean = c.lean_left-left.ensures _ (held_left s) in
    levels_left t c.args.i c.args.entry u (omega (arith, c.if-right_height-left_height.true, c.height-left_height.ensures _ (held_left s), c.height-right_height.ensures _ (held_right s))) lean (c.lift_left.ensures _ _ (leant_sides_left s lean))

pub returns-then-left_height-right_height : goal.returns-then-left_height-right_height
returns-then-left_height-right_height c t u s =
    let lean = c.lean_right-right.ensures _ (held_right s) in
    levels_right t c.args.i c.args.entry u (omega (arith, c.if-right_height-left_height.false, c.height-left_height.ensures _ (held_left s), c.height-right_height.ensures _ (held_right s))) (omega (arith, c.if-left_height-right_height.true, c.height-left_height.ensures _ (held_left s), c.height-right_height.ensures _ (held_right s))) lean (c.lift_right.ensures _ _ (leant_sides_right s lean))

pub returns-else-left_height-right_height : goal.returns-else-left_height-right_height
returns-else-left_height-right_height c t u s =
    levels_none t c.args.i c.args.entry u (omega (arith, c.if-right_height-left_height.false, c.height-left_height.ensures _ (held_left s), c.height-right_height.ensures _ (held_right s))) (omega (arith, c.if-left_height-right_height.false, c.height-left_height.ensures _ (held_left s), c.height-right_height.ensures _ (held_right s))) (c.fork.ensures _ _ s)
