-- What a scanner is seen as, and how it agrees with a tracker and tasks.
use Rattle.std.specs.Prelude.{◌≡◌, ℕ, ◌+◌, ◌*◌, ◌/◌, ◌^◌, ◌<◌, ◌≤◌, Bool, true, false, nat_lt, ◌==◌, List, map, filter, Option, Some, None, if◌then◌else◌}
use Rattle.std.specs.List.{All}
use Rattle.km_base.specs.declared.sizes.TheConstants.{PAGE, PAGE_WORDS}
use Rattle.km_record.specs.declared.kinds.RecId.{RecId}
use Rattle.km_links.specs.Chains.{is_in}
use Rattle.km_model.specs.Blocks.{Block, option_is}
use Rattle.km_model.specs.Tasks.{Task}
use Rattle.km_model.specs.Past.{Place, ScanLoad}
use Rattle.km_model.specs.Scan.{place_in, word_above, live_words, stack_of, first_stack}
use Rattle.km_state.specs.State as state
use Rattle.km_state.specs.State.{State, Scanning, Tracked, blocks_in, opened, is_white_now, tracked_where}
use Rattle.km_state.specs.StateNext.{told, hit_white_in, white_words_in, with_last, first_white_in, white_behind, ripe_by, load_at, sum_after}
use Rattle.km_tasks.specs.Roll.{Roll}
use Rattle.km_track.specs.Tracker.{Live, Tracker, live_from, live_with, tracked_in, counted}
use Rattle.km_scan.specs.declared.places.At.{At}
use Rattle.km_scan.specs.declared.places.At.TheVariants.{Stack, Block as InBlock}
use Rattle.km_scan.specs.declared.places.Pass.{Pass}
use Rattle.km_scan.specs.declared.places.Pass.TheVariants.{Sums}
use Rattle.km_scan.specs.declared.places.Cursor.{Cursor}
use Rattle.km_scan.specs.declared.places.Cursor.TheVariants.{Start, Last, Behind}
use Rattle.km_scan.specs.declared.sweep.Sweep.{Sweep}
use Rattle.km_scan.specs.declared.scanner.Want.{Want}
use Rattle.km_scan.specs.declared.scanner.Want.TheVariants.{Load as LoadWord, Move}
use Rattle.km_scan.specs.Places.{place_of, cursor_of}

-- what a scanner is seen as: how many scans it began, when the last one began and whether that scans stacks,
-- and the running one, if there is one
pub record Stand : Type 0 where
  pub scans : ℕ
  pub begun : ℕ
  pub stacks : Bool
  pub sweep : Option Sweep

-- a scanner that began no scan
abbrev pub idle : Stand
idle = record { scans = 0; begun = 0; stacks = false; sweep = None }

-- a running scan with the queue of the tracker
abbrev pub scanning_of : Tracker → Sweep → Scanning
scanning_of t w = record { queue = t.queue; cursor = cursor_of w.cursor; sum = w.sum }

-- what the next load depends on, beside the running scan
abbrev pub seen : Bool → Tracker → Roll → State
seen stacks t roll = record (opened 0) { stacks = stacks; tasks = roll.tasks; tracked = tracked_in t }

-- the next word of the stack or block of the last load
abbrev pub going_on : List Tracked → List Task → state.Cursor → Option Place
going_on ts tasks (state.Last p) =
    if p.phase == 1 then place_in 1 p.holder (word_above p.word (stack_of tasks p.holder))
    else (if p.phase == 3 then place_in 3 p.holder (word_above p.word (white_words_in ts p.holder))
    else place_in p.phase p.holder (word_above p.word (live_words (blocks_in ts) p.holder)))
going_on ts tasks _ = None

-- the load that needs no further move: the one that the scanner moved to, or else the next word where the last was
abbrev pub due_in : Sweep → Tracker → Roll → Option Place
due_in w t roll = elim w.ready [ None ↦ going_on (tracked_in t) roll.tasks (cursor_of w.cursor) | Some at ↦ Some (place_of at) ]

-- the tracker after a load with its sum: counts and sums follow it, and what it makes ripe is queued
abbrev pub told_in : ScanLoad → ℕ → Tracker → Tracker
told_in l sum t = record t {
  live = map (λ (x : Live). record x { tracked = told l sum x.tracked }) t.live;
  queue = with_last t.queue l.ripe;
}

-- an address is that of a word of a block
abbrev pub IsWordOf : Block → ℕ → Type 0
IsWordOf b a = (i : ℕ) × (i < b.size / 8) × (a ≡ b.start + 8 * i)

-- each word of a block, which has one, passes a test
abbrev pub EachWordPasses : (ℕ → Bool) → Block → Type 0
EachWordPasses test b = (8 ≤ b.size) × ((a : ℕ) → IsWordOf b a → test a ≡ true)

-- and so does each word of the stack of a task
abbrev pub EachStackWordPasses : (ℕ → Bool) → Task → Type 0
EachStackWordPasses test t = (i : ℕ) → i < PAGE_WORDS → test (t.stack + 8 * i) ≡ true

-- what a place in a pass asks of its block: a holder of a grey pass isn't white, and no longer queued
abbrev pub IsHeldIn : Pass → Live → Tracker → Type 0
IsHeldIn Sums l t = Unit {0}
IsHeldIn _ l t = (is_white_now l.tracked ≡ false) × (is_in l.tracked.block.id t.queue ≡ false)

-- where a task has a number, an address is that of a word of its stack
abbrev pub IsStackWord : ℕ → ℕ → Task → Type 0
IsStackWord task a u = u.number ≡ task → (i : ℕ) × (i < PAGE_WORDS) × (a ≡ u.stack + 8 * i)

-- the stack of a task ends below the greatest address
abbrev pub StackEnds : Task → Type 0
StackEnds u = u.stack + PAGE < 2 ^ 64

-- a place agrees with what is live: a block is there, and the place is one of its words; a stack is scanned, its task
-- was started, and where that lives, the place is one of its words
abbrev pub FitsAt : Bool → At → Tracker → Roll → Type 0
FitsAt stacks (Stack task word) t roll = (stacks ≡ true) × (task ≤ roll.started) × All (IsStackWord task word.0) roll.tasks
FitsAt stacks (InBlock pass id word) t roll =
    (l : Live) × (live_with id t ≡ Some l) × IsWordOf l.tracked.block word.0 × IsHeldIn pass l t

-- the same of a cursor
abbrev pub FitsCursor : Bool → Cursor → Tracker → Roll → Type 0
FitsCursor stacks (Last at) t roll = FitsAt stacks at t roll
FitsCursor stacks _ t roll = Unit {0}

-- and of a load that is due, which in the third phase is of a white block
abbrev pub FitsDue : Bool → Option At → Tracker → Roll → Type 0
FitsDue stacks None t roll = Unit {0}
FitsDue stacks (Some (Stack task word)) t roll = FitsAt stacks (Stack task word) t roll
FitsDue stacks (Some (InBlock Sums id word)) t roll =
    (l : Live) × (live_with id t ≡ Some l) × IsWordOf l.tracked.block word.0 × (is_white_now l.tracked ≡ true)
FitsDue stacks (Some (InBlock pass id word)) t roll = FitsAt stacks (InBlock pass id word) t roll

-- a running scan agrees with a tracker and tasks
pub record FitsSweep (stacks : Bool) (w : Sweep) (t : Tracker) (roll : Roll) : Type 0 where
  pub cursor : FitsCursor stacks w.cursor t roll
  pub ready : FitsDue stacks w.ready t roll
  pub stacks_end : All StackEnds roll.tasks

-- a scanner agrees with a tracker and tasks
abbrev pub Fits : Stand → Tracker → Roll → Type 0
Fits s t roll = (w : Sweep) → s.sweep ≡ Some w → FitsSweep s.stacks w t roll

-- the scanner hasn't moved on since its last load
abbrev pub IsSettled : Stand → Type 0
IsSettled s = (w : Sweep) → s.sweep ≡ Some w → w.ready ≡ None

-- a load needs no further move, and its place agrees with a tracker and tasks
pub record IsDue (s : Stand) (at : At) (t : Tracker) (roll : Roll) : Type 0 where
  pub sweep : Sweep
  pub running : s.sweep ≡ Some sweep
  pub place : due_in sweep t roll ≡ Some (place_of at)
  pub fits : FitsDue s.stacks (Some at) t roll

-- a change leaves each block where it is, and makes none white
abbrev pub KeepsPlaces : (Tracked → Tracked) → Type 0
KeepsPlaces change =
    (u : Tracked) → ((change u).block.id ≡ u.block.id) × ((change u).block.start ≡ u.block.start) × ((change u).block.size ≡ u.block.size)
    × (is_white_now u ≡ false → is_white_now (change u) ≡ false)

-- the blocks from this one on, without their slots
abbrev pub tracked_from : Option RecId → Tracker → List Tracked
tracked_from from t = map (λ (l : Live). l.tracked) (live_from from t.live)

-- the first word of the next white block
abbrev pub white_next_in : List Tracked → state.Cursor → Option Place
white_next_in ts state.Start = first_white_in ts
white_next_in ts (state.Last p) = if p.phase == 3 then white_behind p.holder ts else first_white_in ts
white_next_in ts (state.Behind phase id) = if phase == 3 then white_behind id ts else first_white_in ts

-- the first word of the next stack
abbrev pub stack_start_in : List Task → state.Cursor → Option Place
stack_start_in tasks (state.Last p) = first_stack (filter (λ (t : Task). nat_lt p.holder t.number) tasks)
stack_start_in tasks _ = first_stack tasks

-- the block whose references to itself don't count
abbrev pub holder_of : Place → Option ℕ
holder_of p = if nat_lt 1 p.phase then Some p.holder else None

-- the white block, if one begins at the excess of another, to which the references to that are passed on
abbrev pub hit_found : Place → Option Tracked → Option ℕ
hit_found place None = None
hit_found place (Some t) = hit_white_in place t

abbrev pub hit_at : List Tracked → Place → Option ℕ → Option ℕ
hit_at ts place None = None
hit_at ts place (Some a) = hit_found place (tracked_where (λ (b : Block). b.start == a) ts)

-- a block is hit: its count rises, and where it then has as many as it needs, it is queued
abbrev pub hit_told : Option ℕ → Tracker → Tracker
hit_told hit t = record t {
  live = map (λ (x : Live). if option_is hit x.tracked.block.id then record x { tracked = counted x.tracked } else x) t.live;
  queue = with_last t.queue (ripe_by (tracked_in t) hit);
}

-- what a load changes in the tracker, with the sum under way
abbrev pub load_told : Bool → Sweep → Place → ℕ → Tracker → Roll → Tracker
load_told stacks w p value t roll =
    told_in (load_at (seen stacks t roll) (scanning_of t w) p value) (sum_after (scanning_of t w) p value) t

-- a running scan after a load
abbrev pub sweep_told : Sweep → At → ℕ → Tracker → Sweep
sweep_told w at value t = record { cursor = Last at; ready = None; sum = sum_after (scanning_of t w) (place_of at) value }

-- a scan that begins
abbrev pub started : Sweep
started = record { cursor = Start; ready = None; sum = 7 }

-- whether a place is in the block of an id
abbrev pub is_in_block : ℕ → At → Bool
is_in_block id (Stack task word) = false
is_in_block id (InBlock pass i word) = i.generation == id

-- where a cursor goes on after the block of an id is gone
abbrev pub cursor_without : ℕ → Cursor → Cursor
cursor_without id (Last (InBlock pass i word)) = if i.generation == id then Behind pass i.generation else Last (InBlock pass i word)
cursor_without id cursor = cursor

abbrev pub ready_without : ℕ → Option At → Option At
ready_without id None = None
ready_without id (Some at) = if is_in_block id at then None else Some at

-- a running scan after the block of an id is gone
abbrev pub sweep_without : ℕ → Sweep → Sweep
sweep_without id w = record { cursor = cursor_without id w.cursor; ready = ready_without id w.ready; sum = w.sum }

-- the number of the running scan
abbrev pub running_in : Stand → Option ℕ
running_in s = elim s.sweep [ None ↦ None | Some _ ↦ Some s.scans ]

-- what a scanner wants, by the load that is due
abbrev pub want_of : Option Place → Want
want_of None = Move
want_of (Some p) = LoadWord (record { 0 = p.word })
