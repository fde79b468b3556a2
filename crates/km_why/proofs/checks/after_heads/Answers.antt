use Rattle.std.proofs.Common.{◌∙◌}
use Rattle.km_model.proofs.Cases.{none_some}
use Rattle.km_why.proofs.Walks.{told_same, told_then}
use Rattle.km_why.proofs.Chosen.{readable_after}
use Rattle.km_why.proofs.Heads.{walk_begins, walk_looks, stands_live}
use Rattle.km_why.proofs.checks.after_heads.Goals as goal

pub loop-next-init : goal.loop-next-init
loop-next-init g c = (told_same _, walk_begins _ _ _ _ c.first-next.ensures.first)

pub unreachable-requires : goal.unreachable-requires
unreachable-requires g c =
    let there = stands_live _ _ c.args.track.now _ _ c.in-Some.id c.first-next.ensures.rising c.loop-next.invariant.1 c.in-Some.is in
    none_some there.0 (c.in_default-record.ensures.block ∙ there.1)

pub after_head-lacking-requires-clause-readable : goal.after_head-lacking-requires-clause-readable
after_head-lacking-requires-clause-readable g c = readable_after _ _ _ _ c.requires.readable c.loop-next.invariant.0

pub loop-next-smaller : goal.loop-next-smaller
loop-next-smaller g c =
    (walk_looks _ _ _ _ _ c.args.track.now _ _ _ _ c.in-Some.id c.in-Some-record.head.now c.loop-next.invariant.0 c.first-next.ensures.rising c.loop-next.invariant.1 c.in-Some.is c.in-Some-record.ensures.block c.after_head-lacking.ensures.lacking c.next-next.ensures).smaller

pub loop-next-preserved : goal.loop-next-preserved
loop-next-preserved g c = (
  told_then _ _ _ c.loop-next.invariant.0 c.after_head-lacking.ensures.told,
  (walk_looks _ _ _ _ _ c.args.track.now _ _ _ _ c.in-Some.id c.in-Some-record.head.now c.loop-next.invariant.0 c.first-next.ensures.rising c.loop-next.invariant.1 c.in-Some.is c.in-Some-record.ensures.block c.after_head-lacking.ensures.lacking c.next-next.ensures).walk,
)
