use Rattle.std.proofs.Common.{sym, refl, ◌∙◌, arith}
use Rattle.std.proofs.lemmas.Result.{err_from_is_err_and}
use Rattle.km_tree.proofs.Shapes.{held_left, held_right}
use Rattle.km_tree.proofs.Changes.{hangs}
use Rattle.km_tree.proofs.change.+try_hang.Goals as goal

pub height-before-requires : goal.height-before-requires
height-before-requires m c = let z = hangs c.args.entry _ c.requires.tree.level c.requires.tree.beside c.if-root-eq-NO_NODE.false in record { tree = _; held = held_left z.sides }

pub try_hang-requires : goal.try_hang-requires
try_hang-requires m c =
    let z = hangs c.args.entry _ c.requires.tree.level c.requires.tree.beside c.if-root-eq-NO_NODE.false in
    (omega (arith, z.left_lower, c.decreases), (record { tree = z.left; beside = z.left_beside; level = z.left_level; rising = z.left_rising c.requires.tree.rising }, c.requires.sized))

pub returns-in_err-left : goal.returns-in_err-left
returns-in_err-left m c t level rising h =
    let z = hangs c.args.entry _ level h c.if-root-eq-NO_NODE.false in
    let tried = rw (c.in_err-left.was {u = tt}, c.met_or-met.ensures) at (c.try_hang.ensures _ z.left_level (z.left_rising rising) z.left_beside) in
    let p = err_from_is_err_and c.from_residual.result c.from_residual.ensures.1 in
    rw (p.1, p.2) (sym (z.left_met _ rising c.if-entry-span.true) ∙ tried.0, tried.1)

pub relevel_left-requires : goal.relevel_left-requires
relevel_left-requires m c =
    let z = hangs c.args.entry _ c.requires.tree.level c.requires.tree.beside c.if-root-eq-NO_NODE.false in
    let tried = rw (c.in_ok-left.was {u = tt}) at (c.try_hang.ensures _ z.left_level (z.left_rising c.requires.tree.rising) z.left_beside) in
    record { old = _; new = _; entry = _; right = _; over = z.left_over _ _ _ (c.height-before.ensures _ (held_left z.sides)) tried.1 }

pub returns-in_ok-left : goal.returns-in_ok-left
returns-in_ok-left m c t level rising h =
    let z = hangs c.args.entry _ level h c.if-root-eq-NO_NODE.false in
    let tried = rw (c.in_ok-left.was {u = tt}, c.met_or-met.ensures) at (c.try_hang.ensures _ z.left_level (z.left_rising rising) z.left_beside) in
    (sym (z.left_met _ rising c.if-entry-span.true) ∙ tried.0, z.left_done _ _ _ _ c.if-entry-span.true tried.1 (c.relevel_left.ensures _ _ _ _ (z.left_over _ _ _ (c.height-before.ensures _ (held_left z.sides)) tried.1)))

pub returns-then-entry-span-2 : goal.returns-then-entry-span-2
returns-then-entry-span-2 m c t level rising h =
    let z = hangs c.args.entry _ level h c.if-root-eq-NO_NODE.false in
    (z.here_met _ rising c.requires.sized c.if-entry-span.false (omega (arith, c.if-entry-span.false, c.if-entry-span-2.true)), refl)

pub height-before-requires-else-entry-span-2 : goal.height-before-requires-else-entry-span-2
height-before-requires-else-entry-span-2 m c = let z = hangs c.args.entry _ c.requires.tree.level c.requires.tree.beside c.if-root-eq-NO_NODE.false in record { tree = _; held = held_right z.sides }

pub try_hang-requires-else-entry-span-2 : goal.try_hang-requires-else-entry-span-2
try_hang-requires-else-entry-span-2 m c =
    let z = hangs c.args.entry _ c.requires.tree.level c.requires.tree.beside c.if-root-eq-NO_NODE.false in
    (omega (arith, z.right_lower, c.decreases), (record { tree = z.right; beside = z.right_beside; level = z.right_level; rising = z.right_rising c.requires.tree.rising }, c.requires.sized))

pub returns-in_err-right : goal.returns-in_err-right
returns-in_err-right m c t level rising h =
    let z = hangs c.args.entry _ level h c.if-root-eq-NO_NODE.false in
    let tried = rw (c.in_err-right.was {u = tt}) at (c.try_hang-else-entry-span-2.ensures _ z.right_level (z.right_rising rising) z.right_beside) in
    let p = err_from_is_err_and c.from_residual-in_err-right.result c.from_residual-in_err-right.ensures.1 in
    rw (p.1, p.2) (sym (z.right_met _ rising (omega (arith, c.if-entry-span.false, c.if-entry-span-2.false))) ∙ tried.0, tried.1)

pub relevel_right-requires : goal.relevel_right-requires
relevel_right-requires m c =
    let z = hangs c.args.entry _ c.requires.tree.level c.requires.tree.beside c.if-root-eq-NO_NODE.false in
    let tried = rw (c.in_ok-right.was {u = tt}) at (c.try_hang-else-entry-span-2.ensures _ z.right_level (z.right_rising c.requires.tree.rising) z.right_beside) in
    record { left = _; entry = _; old = _; new = _; over = z.right_over _ _ _ (c.height-before-else-entry-span-2.ensures _ (held_right z.sides)) tried.1 }

pub returns-in_ok-right : goal.returns-in_ok-right
returns-in_ok-right m c t level rising h =
    let z = hangs c.args.entry _ level h c.if-root-eq-NO_NODE.false in
    let tried = rw (c.in_ok-right.was {u = tt}) at (c.try_hang-else-entry-span-2.ensures _ z.right_level (z.right_rising rising) z.right_beside) in
    (sym (z.right_met _ rising (omega (arith, c.if-entry-span.false, c.if-entry-span-2.false))) ∙ tried.0, z.right_done _ _ _ _ c.if-entry-span.false tried.1 (c.relevel_right.ensures _ _ _ _ (z.right_over _ _ _ (c.height-before-else-entry-span-2.ensures _ (held_right z.sides)) tried.1)))
