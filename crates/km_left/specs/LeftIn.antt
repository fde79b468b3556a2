-- What a running scan has left, by the lists of the state alone.
use Rattle.std.specs.Prelude.{ℕ, suc, ◌+◌, ◌-◌, ◌*◌, ◌/◌, min, Bool, true, ◌&&◌, ◌||◌, ◌==◌, nat_lt, List, Some, None, if◌then◌else◌}
use Rattle.km_base.specs.declared.sizes.TheConstants.{PAGE_WORDS}
use Rattle.km_model.specs.Blocks.{is_among}
use Rattle.km_model.specs.Tasks.{Task}
use Rattle.km_state.specs.State.{State, Tracked, Cursor, Start, Last, Behind, Scanning, is_white_now}
use Rattle.km_state.specs.StateNext.{phase_at, is_at}
use Rattle.km_laws.specs.Left.{total}

-- how many of so many words from a start on lie above an address
abbrev pub words_above : ℕ → ℕ → ℕ → ℕ
words_above start words a = min words ((start + 8 * words - suc a) / 8)

-- the word of the last load, or 0
abbrev pub word_at : Cursor → ℕ
word_at (Last place) = place.word
word_at _ = 0

-- what is left of a run of words: where it is still ahead, the move to it and all its words;
-- where the last load was one of it, the words above that; otherwise nothing
abbrev pub run_left : Bool → Bool → Cursor → ℕ → ℕ → ℕ
run_left ahead held cursor start words =
    if ahead then suc words else (if held then words_above start words (word_at cursor) else 0)

-- whether a phase that goes by numbers, of tasks or of blocks, still comes to this one
abbrev pub is_ahead : ℕ → ℕ → Cursor → Bool
is_ahead phase number Start = true
is_ahead phase number (Last place) = nat_lt place.phase phase || place.phase == phase && nat_lt place.holder number
is_ahead phase number (Behind present gone) = nat_lt present phase || present == phase && nat_lt gone number

-- what such a phase has left of it
abbrev pub phase_left : ℕ → Cursor → ℕ → ℕ → ℕ → ℕ
phase_left phase cursor number start words =
    run_left (is_ahead phase number cursor) (is_at phase number cursor) cursor start words

-- what the first phase has left of a stack, whether stacks are scanned or not
abbrev pub stack_left : Cursor → Task → ℕ
stack_left cursor t = phase_left 1 cursor t.number t.stack PAGE_WORDS

-- what the sums have left of a block, white or not
abbrev pub sum_left : Cursor → Tracked → ℕ
sum_left cursor t = phase_left 3 cursor t.block.id t.block.start (t.block.size / 8)

-- what the grey passes have left of a block: it is ahead where it is white, so that it may still be queued, or waits in the queue
abbrev pub grey_left : Scanning → Tracked → ℕ
grey_left c t =
    run_left (is_white_now t || is_among t.block.id c.queue) (is_at 2 t.block.id c.cursor || is_at 4 t.block.id c.cursor) c.cursor
    t.block.start (t.block.size / 8)

-- what a running scan has left among these blocks and tasks: of the grey passes, of the sums, of the stacks,
-- and a move to each later phase and one to the end
abbrev pub scan_left : Scanning → List Tracked → List Task → ℕ
scan_left c ts tasks =
    total (grey_left c) ts + total (sum_left c.cursor) ts + total (stack_left c.cursor) tasks + (5 - phase_at c.cursor)

-- how many further loads and moves the running scan can make at most, if no block is registered and no task starts any more;
-- 0 where none is running
abbrev pub left_in : State → ℕ
left_in s = elim s.scan [ None ↦ 0 | Some c ↦ scan_left c s.tracked s.tasks ]
