use Rattle.km_tree.proofs.Tables.{inside_at}
use Rattle.km_tree.proofs.Shapes.{lift_right_none, lifts_right}
use Rattle.km_tree.proofs.shape.lift_right.Goals as goal

pub returns-then-right-eq-NO_NODE : goal.returns-then-right-eq-NO_NODE
returns-then-right-eq-NO_NODE c t u s = lift_right_none s c.if-right-eq-NO_NODE.true (c.fork.ensures _ _ s)

pub slice_copy_out-side : goal.slice_copy_out-side
slice_copy_out-side c = let s = c.requires.sides in inside_at _ _ _ s.right s.right_is c.if-right-eq-NO_NODE.false

pub fork-requires-2 : goal.fork-requires-2
fork-requires-2 c = let z = lifts_right c.args.entry _ c.requires.sides c.if-right-eq-NO_NODE.false in record { left = c.requires.left; right = z.inner; sides = z.lower }

pub fork-requires-3 : goal.fork-requires-3
fork-requires-3 c =
    let z = lifts_right c.args.entry _ c.requires.sides c.if-right-eq-NO_NODE.false in
    record { left = _; right = z.outer; sides = z.upper _ (c.fork-2.ensures _ _ z.lower) }

pub returns : goal.returns
returns c t u s =
    let z = lifts_right c.args.entry _ s c.if-right-eq-NO_NODE.false in
    let lower = c.fork-2.ensures _ _ z.lower in
    z.done _ _ lower (c.fork-3.ensures _ _ (z.upper _ lower))
