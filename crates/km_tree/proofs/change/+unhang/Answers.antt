use Rattle.std.proofs.Common.{arith}
use Rattle.km_tree.proofs.Changes.{unhangs, pair_of}
use Rattle.km_tree.proofs.Shapes.{held_left, held_right}
use Rattle.km_tree.proofs.Tables.{zero_node}
use Rattle.km_tree.proofs.change.+unhang.Goals as goal

pub join-requires : goal.join-requires
join-requires m c = let z = unhangs c.args.start _ c.requires.level c.requires.held c.if-root-eq-NO_NODE.false in record { left = _; right = _; pair = pair_of z.sides; level = z.right_level }

pub returns-then-start-entry : goal.returns-then-start-entry
returns-then-start-entry m c t level h =
    let z = unhangs c.args.start _ level h c.if-root-eq-NO_NODE.false in z.here _ _ c.if-start-entry.true (c.join.ensures _ _ z.right_level (pair_of z.sides))

pub height-before-requires : goal.height-before-requires
height-before-requires m c = let z = unhangs c.args.start _ c.requires.level c.requires.held c.if-root-eq-NO_NODE.false in record { tree = _; held = held_left z.sides }

pub unhang-taken-requires : goal.unhang-taken-requires
unhang-taken-requires m c =
    let z = unhangs c.args.start _ c.requires.level c.requires.held c.if-root-eq-NO_NODE.false in (omega (arith, z.left_lower, c.decreases), record { tree = _; held = held_left z.sides; level = z.left_level })

pub relevel_left-requires : goal.relevel_left-requires
relevel_left-requires m c =
    let z = unhangs c.args.start _ c.requires.level c.requires.held c.if-root-eq-NO_NODE.false in
    record { old = _; new = _; entry = _; right = _; over = z.left_over _ _ _ (c.height-before.ensures _ (held_left z.sides)) (c.unhang-taken.ensures _ z.left_level (held_left z.sides)).1 }

pub returns-then-start-entry-2 : goal.returns-then-start-entry-2
returns-then-start-entry-2 m c t level h =
    let z = unhangs c.args.start _ level h c.if-root-eq-NO_NODE.false in
    let low = c.unhang-taken.ensures _ z.left_level (held_left z.sides) in
    z.left_done _ _ _ _ _ c.if-start-entry-2.true low.0 low.1 (c.relevel_left.ensures _ _ _ _ (z.left_over _ _ _ (c.height-before.ensures _ (held_left z.sides)) low.1))

pub height-before-requires-else-start-entry-2 : goal.height-before-requires-else-start-entry-2
height-before-requires-else-start-entry-2 m c =
    let z = unhangs c.args.start _ c.requires.level c.requires.held c.if-root-eq-NO_NODE.false in record { tree = _; held = held_right z.sides }

pub unhang-taken-requires-else-start-entry-2 : goal.unhang-taken-requires-else-start-entry-2
unhang-taken-requires-else-start-entry-2 m c =
    let z = unhangs c.args.start _ c.requires.level c.requires.held c.if-root-eq-NO_NODE.false in (omega (arith, z.right_lower, c.decreases), record { tree = _; held = held_right z.sides; level = z.right_level })

pub relevel_right-requires : goal.relevel_right-requires
relevel_right-requires m c =
    let z = unhangs c.args.start _ c.requires.level c.requires.held c.if-root-eq-NO_NODE.false in
    record { left = _; entry = _; old = _; new = _; over = z.right_over _ _ _ (c.height-before-else-start-entry-2.ensures _ (held_right z.sides)) (c.unhang-taken-else-start-entry-2.ensures _ z.right_level (held_right z.sides)).1 }

pub returns-else-start-entry-2 : goal.returns-else-start-entry-2
returns-else-start-entry-2 m c t level h =
    let z = unhangs c.args.start zero_node level h c.if-root-eq-NO_NODE.false in
    let low = c.unhang-taken-else-start-entry-2.ensures _ z.right_level (held_right z.sides) in
    z.right_done _ _ _ _ _ (omega (arith, c.if-start-entry.false, c.if-start-entry-2.false)) low.0 low.1 (c.relevel_right.ensures _ _ _ _ (z.right_over _ _ _ (c.height-before-else-start-entry-2.ensures _ (held_right z.sides)) low.1))
