-- What a scanner that fits is due to load fits, too.
use Rattle.std.proofs.Common.{◌≡◌, ℕ, zero, suc, ◌/◌, Bool, true, false, List, [], ◌∷◌, Option, Some, None, if◌then◌else◌, refl, sym, ◌∙◌, subst, arith, inl, inr}
use Rattle.std.specs.List.{All}
use Rattle.km_base.specs.declared.spans.Addr.{Addr}
use Rattle.km_record.specs.declared.kinds.RecId.{RecId}
use Rattle.km_model.specs.Blocks.{Block, is_scanned, scanned_words, words_of}
use Rattle.km_model.specs.Tasks.{Task}
use Rattle.km_model.specs.Past.{Place}
use Rattle.km_model.specs.Scan.{live_words, stack_of}
use Rattle.km_model.proofs.Cases.{none_some, some_same}
use Rattle.km_model.proofs.Places.{Word, stack_word_in, word_in}
use Rattle.km_state.specs.State.{Tracked, blocks_in, is_white_now}
use Rattle.km_state.specs.StateNext.{white_words_in}
use Rattle.km_tasks.specs.Lives.{AreNumbered}
use Rattle.km_tasks.specs.Roll.{Roll}
use Rattle.km_track.specs.Tracker.{AreRising, Live, Tracker, live_with, tracked_in}
use Rattle.km_track.proofs.Lives.{found_block, found_tracked}
use Rattle.km_laws.proofs.Lists.{In, Rising, filter_in, rising_unique}
use Rattle.km_scan.specs.declared.places.At.{At}
use Rattle.km_scan.specs.declared.places.At.TheVariants.{Stack, Block as InBlock}
use Rattle.km_scan.specs.declared.places.Cursor.{Cursor}
use Rattle.km_scan.specs.declared.places.Cursor.TheVariants.{Start, Last, Behind}
use Rattle.km_scan.specs.declared.places.Pass.TheVariants.{First, Sums, Second}
use Rattle.km_scan.specs.declared.sweep.Sweep.{Sweep}
use Rattle.km_scan.specs.Places.{cursor_of, place_of}
use Rattle.km_scan.specs.Stand.{FitsCursor, FitsDue, IsStackWord, IsWordOf, due_in, going_on}
use Rattle.km_scan_left.proofs.GoesOn.{above}

-- a place that is due, with what is known of it
abbrev pub IsDueAt : Bool → Tracker → Roll → Place → Type 0
IsDueAt stacks t roll p = (at : At) × (place_of at ≡ p) × FitsDue stacks (Some at) t roll

-- an address
abbrev address : ℕ → Addr
address a = record { 0 = a }

-- tasks by their numbers
numbered : (low high : ℕ) (tasks : List Task) → AreNumbered low tasks high → Rising (λ (x : Task). x.number) (suc low) tasks (suc high)
numbered low high [] n = omega (arith, n)
numbered low high (x ∷ tasks) n = let lt = n.0 in (omega (arith, lt), numbered x.number high tasks n.1)

all_of : {X : Type 0} (P : X → Type 0) (xs : List X) → ((x : X) → In x xs → P x) → All P xs
all_of P [] f k d lt = absurd (omega (arith, lt))
all_of P (x ∷ xs) f zero d lt = f x (inl refl)
all_of P (x ∷ xs) f (suc k) d lt = all_of P xs (λ y i. f y (inr i)) k d (omega (arith, lt))

stack_on : (tasks : List Task) (high task a : ℕ) → AreNumbered 0 tasks high → In a (stack_of tasks task) → All (IsStackWord task a) tasks
stack_on tasks high task a n i =
    let s = stack_word_in tasks task a i in
    all_of (IsStackWord task a) tasks (λ u j same.
    subst (λ (x : Task). Word 512 x.stack a) (rising_unique (λ (x : Task). x.number) tasks 1 (suc high) s.0 u (numbered 0 high tasks n) s.1 j (s.2 ∙ sym same)) s.3)

-- words of blocks
block_on : (t : Tracker) (id : RecId) (l : Live) (a : ℕ) → AreRising 0 t.live t.registered → live_with id t ≡ Some l → In a (live_words (blocks_in (tracked_in t)) id.generation) → IsWordOf l.tracked.block a
block_on t id l a rising e i =
    let j : In a (scanned_words l.tracked.block) = subst (λ (o : Option Block). In a (elim o as (λ _. List ℕ) [ None ↦ [] | Some b ↦ scanned_words b ])) (found_block id 0 t.registered t.live l rising e) i in
    word_in (l.tracked.block.size / 8) l.tracked.block.start a (filter_in (is_scanned l.tracked.block) (words_of l.tracked.block) a j).1

white_word : (u : Tracked) (a : ℕ) (q : Bool) → is_white_now u ≡ q → In a (if q then words_of u.block else []) → IsWordOf u.block a × (is_white_now u ≡ true)
white_word u a true e i = (word_in (u.block.size / 8) u.block.start a i, e)
white_word u a false e i = absurd i

white_on : (t : Tracker) (id : RecId) (l : Live) (a : ℕ) → AreRising 0 t.live t.registered → live_with id t ≡ Some l → In a (white_words_in (tracked_in t) id.generation) → IsWordOf l.tracked.block a × (is_white_now l.tracked ≡ true)
white_on t id l a rising e i =
    white_word l.tracked a (is_white_now l.tracked) refl
    (subst (λ (o : Option Tracked). In a (elim o as (λ _. List ℕ) [ None ↦ [] | Some u ↦ if is_white_now u then words_of u.block else [] ])) (found_tracked id 0 t.registered t.live l rising e) i)

from_cursor : (stacks : Bool) (k : Cursor) (t : Tracker) (roll : Roll) (p : Place) → AreRising 0 t.live t.registered → AreNumbered 0 roll.tasks roll.started → FitsCursor stacks k t roll
    → going_on (tracked_in t) roll.tasks (cursor_of k) ≡ Some p → IsDueAt stacks t roll p
from_cursor stacks Start t roll p rising n f e = absurd (none_some p e)
from_cursor stacks (Last (Stack task word)) t roll p rising n f e =
    let k = above 1 task word.0 (stack_of roll.tasks task) p e in
    (Stack task (address k.0), sym k.1, (f.0, f.1, stack_on roll.tasks roll.started task k.0 n k.3))
from_cursor stacks (Last (InBlock First id word)) t roll p rising n f e =
    let k = above 2 id.generation word.0 (live_words (blocks_in (tracked_in t)) id.generation) p e in
    (InBlock First id (address k.0), sym k.1, (f.0, f.1, block_on t id f.0 k.0 rising f.1 k.3, f.3))
from_cursor stacks (Last (InBlock Sums id word)) t roll p rising n f e =
    let k = above 3 id.generation word.0 (white_words_in (tracked_in t) id.generation) p e in
    let w = white_on t id f.0 k.0 rising f.1 k.3 in
    (InBlock Sums id (address k.0), sym k.1, (f.0, f.1, w.0, w.1))
from_cursor stacks (Last (InBlock Second id word)) t roll p rising n f e =
    let k = above 4 id.generation word.0 (live_words (blocks_in (tracked_in t)) id.generation) p e in
    (InBlock Second id (address k.0), sym k.1, (f.0, f.1, block_on t id f.0 k.0 rising f.1 k.3, f.3))
from_cursor stacks (Behind pass gone) t roll p rising n f e = absurd (none_some p e)

pub due_at : (stacks : Bool) (w : Sweep) (o : Option At) (t : Tracker) (roll : Roll) (p : Place) → AreRising 0 t.live t.registered → AreNumbered 0 roll.tasks roll.started → FitsCursor stacks w.cursor t roll → FitsDue stacks o t roll
    → due_in (record w { ready = o }) t roll ≡ Some p → IsDueAt stacks t roll p
due_at stacks w None t roll p rising n f g due = from_cursor stacks w.cursor t roll p rising n f due
due_at stacks w (Some at) t roll p rising n f g due = (at, some_same (place_of at) p due, g)
