use Rattle.std.proofs.Common.{arith}
use Rattle.km_why.proofs.Walks.{told_same, told_then}
use Rattle.km_why.proofs.Stacks.{fewer_tasks, next_laid, next_task, stacks_over}
use Rattle.km_why.proofs.Placed.{can_go_on}
use Rattle.km_why.proofs.Passed.{begins, goes_on, is_over, tasks_begin, tasks_next}
use Rattle.km_why.proofs.counts.count_stacks.Goals as goal

pub loop-number-init : goal.loop-number-init
loop-number-init g c = (told_same _, λ high numbers. begins _ _ _ _ _ _ (told_same _) (tasks_begin high c.args.tasks.now.tasks numbers), λ members w. w, omega arith)

pub count_stack-requires-clause-within : goal.count_stack-requires-clause-within
count_stack-requires-clause-within g c =
    (next_laid _ _ _ c.loop-number.last _ _ (next_task c.args.tasks.now.tasks c.loop-number.last c.in-Some.number c.in-Some.stack.start.0 c.in-Some.ensures.number c.in-Some.ensures.stack) c.loop-number.invariant.0 c.requires.within).0

pub count_stack-requires-clause-aligned : goal.count_stack-requires-clause-aligned
count_stack-requires-clause-aligned g c =
    (next_laid _ _ _ c.loop-number.last _ _ (next_task c.args.tasks.now.tasks c.loop-number.last c.in-Some.number c.in-Some.stack.start.0 c.in-Some.ensures.number c.in-Some.ensures.stack) c.loop-number.invariant.0 c.requires.within).1

pub count_stack-requires-clause-can : goal.count_stack-requires-clause-can
count_stack-requires-clause-can g c =
    can_go_on _ _ c.args.track.now _ _ _ _ _ _ _ _ _ _ _ _ c.requires.can (c.loop-number.invariant.1 _ c.in-Some.ensures.numbers)
    (tasks_next _ c.args.tasks.now.tasks c.loop-number.last c.in-Some.number c.in-Some.stack.start.0 c.in-Some.ensures.numbers
    (next_task c.args.tasks.now.tasks c.loop-number.last c.in-Some.number c.in-Some.stack.start.0 c.in-Some.ensures.number c.in-Some.ensures.stack)) c.loop-number.invariant.2

pub loop-number-smaller : goal.loop-number-smaller
loop-number-smaller g c =
    fewer_tasks _ _ c.loop-number.last _ _ c.in-Some.ensures.numbers (next_task c.args.tasks.now.tasks c.loop-number.last c.in-Some.number c.in-Some.stack.start.0 c.in-Some.ensures.number c.in-Some.ensures.stack)

pub loop-number-preserved : goal.loop-number-preserved
loop-number-preserved g c =
    let next = next_task c.args.tasks.now.tasks c.loop-number.last c.in-Some.number c.in-Some.stack.start.0 c.in-Some.ensures.number c.in-Some.ensures.stack in (
      told_then _ _ _ c.loop-number.invariant.0 c.count_stack.ensures.told,
      λ high numbers. goes_on _ _ _ _ _ _ _ _ _ _ _ (c.loop-number.invariant.1 high numbers) (tasks_next high c.args.tasks.now.tasks c.loop-number.last c.in-Some.number c.in-Some.stack.start.0 numbers next)
          c.count_stack.ensures.counted c.count_stack.ensures.long c.count_stack.ensures.told,
      λ members w. c.count_stack.ensures.waits members (c.loop-number.invariant.2 members w),
      let was = c.loop-number.invariant.3 in let more = c.count_stack.ensures.capacity in omega (arith, was, more),
    )

pub returns-clause-counted : goal.returns-clause-counted
returns-clause-counted g c = is_over _ _ _ _ _ _ _ (c.loop-number.invariant.1 _ c.in_default.ensures.numbers) (stacks_over c.args.tasks.now.tasks c.loop-number.last c.in_default.ensures.number)
