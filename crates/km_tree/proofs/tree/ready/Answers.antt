use Rattle.std.proofs.Common.{length, refl, ap, arith}
use Rattle.km_tree.proofs.Maps.{ready_free, ready_new, none_free}
use Rattle.km_tree.proofs.tree.ready.Goals as goal

pub returns-then-free-ne-NO_NODE : goal.returns-then-free-ne-NO_NODE
returns-then-free-ne-NO_NODE c tree spare root room more k = ready_free _ _ _ _ _ _ _ k c.if-free-ne-NO_NODE.true

pub overflow_cast-place : goal.overflow_cast-place
overflow_cast-place c =
    let k = c.requires.any.kept in
    omega (arith, k.fits, c.requires.more, ap length (none_free _ _ _ _ _ _ _ k c.if-free-ne-NO_NODE.false), c.len-place.ensures, c.args.nodes.now.ok.0)

pub unreachable-requires : goal.unreachable-requires
unreachable-requires c =
    let k = c.requires.any.kept in
    omega (arith, k.reach, c.requires.more, ap length (none_free _ _ _ _ _ _ _ k c.if-free-ne-NO_NODE.false), (c.in_default.ensures {u = tt}).full, c.args.nodes.now.ok.0)

pub returns : goal.returns
returns c tree spare root room more k =
    let done = c.in-Ok.ensures {u = tt} in
    ready_new _ _ _ _ _ _ _ _ _ _ _ k more c.if-free-ne-NO_NODE.false done.items refl (omega (arith, c.len-place.ensures, c.args.nodes.now.ok.0)) (omega (arith, done.capacity))
