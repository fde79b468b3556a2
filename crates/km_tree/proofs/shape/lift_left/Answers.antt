use Rattle.km_tree.proofs.Tables.{inside_at}
use Rattle.km_tree.proofs.Shapes.{lift_left_none, lifts_left}
use Rattle.km_tree.proofs.shape.lift_left.Goals as goal

pub returns-then-left-eq-NO_NODE : goal.returns-then-left-eq-NO_NODE
returns-then-left-eq-NO_NODE c t u s = lift_left_none s c.if-left-eq-NO_NODE.true (c.fork.ensures _ _ s)

pub slice_copy_out-side : goal.slice_copy_out-side
slice_copy_out-side c = let s = c.requires.sides in inside_at _ _ _ s.left s.left_is c.if-left-eq-NO_NODE.false

pub fork-requires-2 : goal.fork-requires-2
fork-requires-2 c = let z = lifts_left c.args.entry _ c.requires.sides c.if-left-eq-NO_NODE.false in record { left = z.inner; right = c.requires.right; sides = z.lower }

pub fork-requires-3 : goal.fork-requires-3
fork-requires-3 c =
    let z = lifts_left c.args.entry _ c.requires.sides c.if-left-eq-NO_NODE.false in
    record { left = z.outer; right = _; sides = z.upper _ (c.fork-2.ensures _ _ z.lower) }

pub returns : goal.returns
returns c t u s =
    let z = lifts_left c.args.entry _ s c.if-left-eq-NO_NODE.false in
    let lower = c.fork-2.ensures _ _ z.lower in
    z.done _ _ lower (c.fork-3.ensures _ _ (z.upper _ lower))
