use Rattle.std.specs.BinaryHeap.{heap_capacity, heap_items, heap_len}
use Rattle.km_why.specs.Waiting.{AreWaiting}
use Rattle.std.proofs.Common.{◌≤◌, ◌-◌, ◌/◌, List}
use Rattle.km_model.specs.Blocks.{Block, scanned_words}
use Rattle.km_record.specs.Records.{block_of}
use Rattle.km_why.specs.Told.{blocks_of}
use Rattle.km_why.proofs.Walks.{rest}
use Rattle.km_why.proofs.Passed.{IsCounting}
use Rattle.km_why.proofs.counts.count_block.Given as goal

abbrev pub invariant-loop-i : goal.invariant-loop-i
invariant-loop-i g l =
    IsCounting (g.W.Words.told l.fn.words) (g.W.Words.told l.words) (blocks_of l.track) (scanned_words (block_of 0 l.block)) l.fn.counts.items l.counts.items (rest (block_of 0 l.block) l.from)
    × ((members : List Block) → AreWaiting l.track.live l.fn.counts.items members (heap_items l.fn.waiting) (heap_len l.fn.waiting) (heap_capacity l.fn.waiting)
    → AreWaiting l.track.live l.counts.items members (heap_items l.waiting) (heap_len l.waiting) (heap_capacity l.waiting))
    × (heap_capacity l.fn.waiting ≤ heap_capacity l.waiting)

abbrev pub decreases-loop-i : goal.decreases-loop-i
decreases-loop-i g l = l.block.span.size / 8 - l.from
