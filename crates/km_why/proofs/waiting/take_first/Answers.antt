use Rattle.std.proofs.Common.{arith}
use Rattle.std.specs.BinaryHeap.{heap_capacity, heap_items, heap_len}
use Rattle.km_why.proofs.Popped.{none_waits, taken}
use Rattle.km_why.proofs.waiting.take_first.Goals as goal

pub returns-clause-taken : goal.returns-clause-taken
returns-clause-taken c = λ live high counts members rise w.
    let e = c.in-Some.ensures {u = tt} in
    let same = e.capacity in
    taken live counts members (heap_items c.args.waiting.now) (heap_len c.args.waiting.now) (heap_capacity c.args.waiting.now) w high rise
    (heap_items c.pop.new.self) (heap_len c.pop.new.self) (heap_capacity c.pop.new.self) (c.in-Some.field-0-0, c.in-Some.slot) e.permutation e.heap_order e.len (omega (arith, same))

pub returns-in_default-clause-none : goal.returns-in_default-clause-none
returns-in_default-clause-none c = λ live counts members w l i.
    let e = c.in_default.ensures {u = tt} in
    none_waits live counts members (heap_items c.args.waiting.now) (heap_len c.args.waiting.now) (heap_capacity c.args.waiting.now) w e.none l i
