use Rattle.std.proofs.Common.{arith}
use Rattle.km_why.proofs.Walks.{told_same}
use Rattle.km_why.proofs.Stacks.{stack_over}
use Rattle.km_why.proofs.Placed.{can_go_on}
use Rattle.km_why.proofs.Passed.{begins, goes_on, is_over, stack_begins, stack_split}
use Rattle.km_why.proofs.counts.count_stack.Goals as goal

pub loop-i-init : goal.loop-i-init
loop-i-init g c = (begins _ _ _ _ _ _ (told_same _) (stack_begins c.args.stack.0), λ members w. w, omega arith)

pub count_word-requires-clause-can : goal.count_word-requires-clause-can
count_word-requires-clause-can g c = can_go_on _ _ c.args.track.now _ _ _ _ _ _ _ _ _ _ _ _ c.requires.can c.loop-i.invariant.0 (stack_split c.args.stack.0 c.loop-i.i c.loop-i-test.true) c.loop-i.invariant.1

pub loop-i-preserved : goal.loop-i-preserved
loop-i-preserved g c = (
  goes_on _ _ _ _ _ _ _ _ _ _ _ c.loop-i.invariant.0 (stack_split c.args.stack.0 c.loop-i.i c.loop-i-test.true) c.count_word.ensures.counted c.count_word.ensures.long c.count_word.ensures.told,
  λ members w. c.count_word.ensures.waits members (c.loop-i.invariant.1 members w),
  let was = c.loop-i.invariant.2 in let more = c.count_word.ensures.capacity in omega (arith, was, more),
)

pub returns-clause-counted : goal.returns-clause-counted
returns-clause-counted g c = is_over _ _ _ _ _ _ _ c.loop-i.invariant.0 (stack_over c.args.stack.0 c.loop-i.i c.loop-i-test.false)
