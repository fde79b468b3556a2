use Rattle.std.proofs.Common.{sym, arith}
use Rattle.km_tree.proofs.Tables.{topped, zero_node}
use Rattle.km_tree.proofs.Shapes.{split, held_left, held_right, unchanged, made_as, leans_right, stands_right}
use Rattle.km_tree.proofs.shape.lean_right.Goals as goal

pub height-requires : goal.height-requires
height-requires c = let h = c.requires.held in record { tree = _; held = held_right (split h (topped _ _ _ _ h.stands h.is c.if-root-eq-NO_NODE.false)) }

pub height-requires-2 : goal.height-requires-2
height-requires-2 c = let h = c.requires.held in record { tree = _; held = held_left (split h (topped _ _ _ _ h.stands h.is c.if-root-eq-NO_NODE.false)) }

pub lift_left-requires : goal.lift_left-requires
lift_left-requires c = let h = c.requires.held in record { left = _; right = _; sides = split h (topped _ _ _ _ h.stands h.is c.if-root-eq-NO_NODE.false) }

pub returns-then-height : goal.returns-then-height
returns-then-height c t h =
    let z = topped _ c.args.root t zero_node h.stands h.is c.if-root-eq-NO_NODE.false in
    let s = split h z in
    made_as (sym (leans_right z (omega (arith, c.if-height.true, c.height.ensures _ (held_right s), c.height-2.ensures _ (held_left s))))) (c.lift_left.ensures _ _ s)

pub returns-else-height : goal.returns-else-height
returns-else-height c t h =
    let z = topped _ c.args.root t zero_node h.stands h.is c.if-root-eq-NO_NODE.false in
    let s = split h z in
    made_as (sym (stands_right z (omega (arith, c.if-height.false, c.height.ensures _ (held_right s), c.height-2.ensures _ (held_left s))))) (unchanged h)
