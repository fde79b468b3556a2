use Rattle.std.proofs.Common.{◌+◌, ◌^◌, ◌<◌, length, subst, sym, ap, ◌∙◌}
use Rattle.std.specs.BinaryHeap.{heap_capacity, heap_items, heap_len}
use Rattle.km_model.specs.Memory.{index_of}
use Rattle.km_why.specs.Counts.{count_at}
use Rattle.km_why.specs.Waiting.{AreWaiting, CanWait}
use Rattle.km_why.proofs.Counted.{added_long}
use Rattle.km_why.proofs.Placed.{added_waits, can_wait_added, found_same}
use Rattle.km_why.proofs.counts.pass_on.Goals as goal

pub raise_block-requires-clause-within : goal.raise_block-requires-clause-within
raise_block-requires-clause-within c =
    subst (λ n. index_of c.args.to.now.span.start.0 < n) (sym (ap length c.add_outside-outside.ensures.items ∙ added_long c.args.counts.now.items (index_of c.args.head.0))) c.requires.to_within

pub raise_block-requires-clause-small : goal.raise_block-requires-clause-small
raise_block-requires-clause-small c =
    subst (λ cs. (count_at cs (index_of c.args.to.now.span.start.0)).found + 1 < 2 ^ 32) (sym c.add_outside-outside.ensures.items)
    (subst (λ n. n + 1 < 2 ^ 32) (sym (found_same c.args.counts.now.items (index_of c.args.head.0) (index_of c.args.to.now.span.start.0) c.requires.within)) c.requires.to_small)

pub raise_block-requires-clause-room : goal.raise_block-requires-clause-room
raise_block-requires-clause-room c =
    subst (λ cs. CanWait cs (heap_items c.args.waiting.now) (heap_len c.args.waiting.now) (heap_capacity c.args.waiting.now) c.args.id c.args.to.now) (sym c.add_outside-outside.ensures.items)
    (can_wait_added c.args.counts.now.items (index_of c.args.head.0) (heap_items c.args.waiting.now) (heap_len c.args.waiting.now) (heap_capacity c.args.waiting.now) c.args.id c.args.to.now c.requires.within c.requires.room)

pub returns-then-outside-from-clause-waits : goal.returns-then-outside-from-clause-waits
returns-then-outside-from-clause-waits c = λ live high members placed there w.
    c.raise_block.ensures.waits live high members placed there
    (subst (λ cs. AreWaiting live cs members (heap_items c.args.waiting.now) (heap_len c.args.waiting.now) (heap_capacity c.args.waiting.now)) (sym c.add_outside-outside.ensures.items)
    (added_waits live c.args.counts.now.items (index_of c.args.head.0) members (heap_items c.args.waiting.now) (heap_len c.args.waiting.now) (heap_capacity c.args.waiting.now) c.requires.within w))

pub returns-else-outside-from-clause-waits : goal.returns-else-outside-from-clause-waits
returns-else-outside-from-clause-waits c = λ live high members placed there w.
    subst (λ cs. AreWaiting live cs members (heap_items c.args.waiting.now) (heap_len c.args.waiting.now) (heap_capacity c.args.waiting.now)) (sym c.add_outside-outside.ensures.items)
    (added_waits live c.args.counts.now.items (index_of c.args.head.0) members (heap_items c.args.waiting.now) (heap_len c.args.waiting.now) (heap_capacity c.args.waiting.now) c.requires.within w)
