use Rattle.std.proofs.Common.{arith}
use Rattle.km_record.specs.Records.{block_of}
use Rattle.km_why.proofs.Walks.{next_above, told_same}
use Rattle.km_why.proofs.Placed.{can_go_on}
use Rattle.km_why.proofs.Passed.{begins, block_begins, block_over, block_split, goes_on, is_over}
use Rattle.km_why.proofs.counts.count_block.Goals as goal

pub loop-i-init : goal.loop-i-init
loop-i-init g c = (begins _ _ _ _ _ _ (told_same _) (block_begins (block_of 0 c.args.block.now)), λ members w. w, omega arith)

pub count_word-requires-clause-can : goal.count_word-requires-clause-can
count_word-requires-clause-can g c = can_go_on _ _ c.args.track.now _ _ _ _ _ _ _ _ _ _ _ _ c.requires.can c.loop-i.invariant.0 (block_split (block_of 0 c.args.block.now) c.loop-i.from c.in-Some.i c.in-Some.ensures.least) c.loop-i.invariant.1

pub loop-i-smaller : goal.loop-i-smaller
loop-i-smaller g c =
    let le = next_above (block_of 0 c.args.block.now) c.loop-i.from c.in-Some.i c.in-Some.ensures.least in
    let lt = c.in-Some.ensures.within in
    omega (arith, le, lt)

pub loop-i-preserved : goal.loop-i-preserved
loop-i-preserved g c = (
  goes_on _ _ _ _ _ _ _ _ _ _ _ c.loop-i.invariant.0 (block_split (block_of 0 c.args.block.now) c.loop-i.from c.in-Some.i c.in-Some.ensures.least)
      c.count_word.ensures.counted c.count_word.ensures.long c.count_word.ensures.told,
  λ members w. c.count_word.ensures.waits members (c.loop-i.invariant.1 members w),
  let was = c.loop-i.invariant.2 in let more = c.count_word.ensures.capacity in omega (arith, was, more),
)

pub returns-clause-counted : goal.returns-clause-counted
returns-clause-counted g c = is_over _ _ _ _ _ _ _ c.loop-i.invariant.0 (block_over (block_of 0 c.args.block.now) c.loop-i.from c.in_default.ensures.least)
