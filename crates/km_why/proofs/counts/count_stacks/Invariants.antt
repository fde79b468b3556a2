use Rattle.std.proofs.Common.{◌≤◌, ℕ, ltb, List, length, flat_map, filter}
use Rattle.std.specs.BinaryHeap.{heap_capacity, heap_items, heap_len}
use Rattle.km_model.specs.Blocks.{Block}
use Rattle.km_why.specs.Waiting.{AreWaiting}
use Rattle.km_model.specs.Tasks.{Task, stack_words}
use Rattle.km_why.specs.Told.{blocks_of, TellsSame}
use Rattle.km_tasks.specs.Lives.{AreNumbered}
use Rattle.km_why.proofs.Walks.{stacks_after}
use Rattle.km_why.proofs.Passed.{IsCounting}
use Rattle.km_why.proofs.counts.count_stacks.Given as goal

abbrev pub invariant-loop-number : goal.invariant-loop-number
invariant-loop-number g l =
    TellsSame (g.W.Words.told l.fn.words) (g.W.Words.told l.words)
    × ((high : ℕ) → AreNumbered 0 l.tasks.tasks high
    → IsCounting (g.W.Words.told l.fn.words) (g.W.Words.told l.words) (blocks_of l.track) (flat_map stack_words l.tasks.tasks) l.fn.counts.items l.counts.items (stacks_after l.tasks.tasks l.last))
    × ((members : List Block) → AreWaiting l.track.live l.fn.counts.items members (heap_items l.fn.waiting) (heap_len l.fn.waiting) (heap_capacity l.fn.waiting)
    → AreWaiting l.track.live l.counts.items members (heap_items l.waiting) (heap_len l.waiting) (heap_capacity l.waiting))
    × (heap_capacity l.fn.waiting ≤ heap_capacity l.waiting)

abbrev pub decreases-loop-number : goal.decreases-loop-number
decreases-loop-number g l = length (filter (λ (t : Task). ltb l.last t.number) l.tasks.tasks)
