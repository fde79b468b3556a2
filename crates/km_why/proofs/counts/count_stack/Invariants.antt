use Rattle.std.proofs.Common.{◌≤◌, List}
use Rattle.std.specs.BinaryHeap.{heap_capacity, heap_items, heap_len}
use Rattle.km_model.specs.Blocks.{Block}
use Rattle.km_why.specs.Waiting.{AreWaiting}
use Rattle.km_model.specs.Memory.{words_from}
use Rattle.km_why.specs.Told.{blocks_of}
use Rattle.km_why.proofs.Walks.{rest_of_stack}
use Rattle.km_why.proofs.Passed.{IsCounting}
use Rattle.km_why.proofs.counts.count_stack.Given as goal

abbrev pub invariant-loop-i : goal.invariant-loop-i
invariant-loop-i g l =
    IsCounting (g.W.Words.told l.fn.words) (g.W.Words.told l.words) (blocks_of l.track) (words_from 512 l.stack.0) l.fn.counts.items l.counts.items (rest_of_stack l.stack.0 l.i)
    × ((members : List Block) → AreWaiting l.track.live l.fn.counts.items members (heap_items l.fn.waiting) (heap_len l.fn.waiting) (heap_capacity l.fn.waiting)
    → AreWaiting l.track.live l.counts.items members (heap_items l.waiting) (heap_len l.waiting) (heap_capacity l.waiting))
    × (heap_capacity l.fn.waiting ≤ heap_capacity l.waiting)
