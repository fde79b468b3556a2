-- How much a scanner has left at most.
use Rattle.std.proofs.Common.{◌≡◌, ℕ, ◌+◌, ◌*◌, ◌≤◌, List, [], ◌∷◌, length, map, Option, Some, None, refl, sym, subst, arith}
use Rattle.km_model.specs.Blocks.{Block}
use Rattle.km_model.specs.Follows.{Follows, past_of}
use Rattle.km_model.specs.Headline.{IsMemorySize}
use Rattle.km_model.specs.History.{History}
use Rattle.km_model.specs.Past.{world}
use Rattle.km_model.specs.Tasks.{Task}
use Rattle.km_state.specs.State.{Scanning, Tracked, blocks_in}
use Rattle.km_state.specs.StateNext.{phase_at}
use Rattle.km_tasks.specs.Roll.{Roll}
use Rattle.km_track.specs.Tracker.{Live, Tracker, tracked_in}
use Rattle.km_laws.specs.Left.{total}
use Rattle.km_laws.proofs.Apart.{history_placed}
use Rattle.km_laws.proofs.Room.{room}
use Rattle.km_scan.specs.declared.places.At.{At}
use Rattle.km_scan.specs.declared.places.At.TheVariants.{Stack, Block as InBlock}
use Rattle.km_scan.specs.declared.places.Cursor.{Cursor}
use Rattle.km_scan.specs.declared.places.Cursor.TheVariants.{Start, Last, Behind}
use Rattle.km_scan.specs.declared.places.Pass.TheVariants.{First, Sums, Second}
use Rattle.km_scan.specs.declared.sweep.Sweep.{Sweep}
use Rattle.km_scan.specs.Places.{cursor_of, place_of}
use Rattle.km_scan.specs.Stand.{Stand, scanning_of}
use Rattle.km_left.specs.LeftIn.{scan_left}
use Rattle.km_left.proofs.Bounds.{blocks_most, stacks_most}
use Rattle.km_scan_left.specs.Left.{left_without, loaded_at, scanner_left, sweep_left}
use Rattle.km_scan_left.proofs.Without.{less_without}

-- a scan begins in the first phase
place_least : (at : At) → 1 ≤ (place_of at).phase
place_least (Stack task word) = omega arith
place_least (InBlock First id word) = omega arith
place_least (InBlock Sums id word) = omega arith
place_least (InBlock Second id word) = omega arith

phase_least : (k : Cursor) → 1 ≤ phase_at (cursor_of k)
phase_least Start = omega arith
phase_least (Last at) = place_least at
phase_least (Behind First gone) = omega arith
phase_least (Behind Sums gone) = omega arith
phase_least (Behind Second gone) = omega arith

each_page : (tasks : List Task) → total (λ (t : Task). 4096) tasks ≡ 4096 * length tasks
each_page [] = omega arith
each_page (t ∷ tasks) = let rest = each_page tasks in omega (arith, rest)

as_many : (ls : List Live) → length (map (λ (l : Live). l.tracked) ls) ≡ length ls
as_many [] = refl
as_many (l ∷ ls) = let rest = as_many ls in omega (arith, rest)

-- the blocks and the stacks have no more bytes than the memory
abbrev HasRoom : ℕ → List Tracked → List Task → Type 0
HasRoom words ts tasks = total (λ (b : Block). b.size) (blocks_in ts) + 4096 * length tasks ≤ 8 * words

scan_most : (words : ℕ) (c : Scanning) (ts : List Tracked) (tasks : List Task) → 1 ≤ phase_at c.cursor → HasRoom words ts tasks → scan_left c ts tasks ≤ 2 * words + 2 * length ts + 4
scan_most words c ts tasks low room =
    let blocks = blocks_most c ts in
    let stacks = stacks_most c tasks in
    let pages = each_page tasks in
    omega (arith, low, room, blocks, stacks, pages)

without_most : (at : At) (c : Scanning) (ts : List Tracked) (tasks : List Task) → left_without at c ts tasks ≤ scan_left c ts tasks
without_most (Stack task word) c ts tasks = omega arith
without_most (InBlock pass id word) c ts tasks = less_without c ts tasks id.generation

sweep_most : (words : ℕ) (w : Sweep) (o : Option At) (t : Tracker) (roll : Roll) → HasRoom words (tracked_in t) roll.tasks → sweep_left (record w { ready = o }) t roll ≤ 2 * words + 2 * length t.live + 5
sweep_most words w None t roll room =
    let most = scan_most words (scanning_of t w) (tracked_in t) roll.tasks (phase_least w.cursor) room in
    let many = as_many t.live in
    omega (arith, most, many)
sweep_most words w (Some at) t roll room =
    let there = scan_most words (loaded_at at (scanning_of t w)) (tracked_in t) roll.tasks (place_least at) room in
    let most = scan_most words (scanning_of t w) (tracked_in t) roll.tasks (phase_least w.cursor) room in
    let less = without_most at (scanning_of t w) (tracked_in t) roll.tasks in
    let many = as_many t.live in
    omega (arith, there, most, less, many)

pub has_room : (words : ℕ) (s : Stand) (t : Tracker) (roll : Roll) → total (λ (b : Block). b.size) (blocks_in (tracked_in t)) + 4096 * length roll.tasks ≤ 8 * words
    → scanner_left s t roll ≤ 2 * words + 2 * length t.live + 5
has_room words s t roll room = running s.sweep where
  running : (o : Option Sweep) → (elim o as (λ _. ℕ) [ None ↦ 0 | Some w ↦ sweep_left w t roll ]) ≤ 2 * words + 2 * length t.live + 5
  running None = omega arith
  running (Some w) = sweep_most words w w.ready t roll room

pub stands : (words : ℕ) (h : History) (s : Stand) (t : Tracker) (roll : Roll) → IsMemorySize words → Follows words h → blocks_in (tracked_in t) ≡ (world (past_of h)).blocks → roll.tasks ≡ (world (past_of h)).tasks
    → scanner_left s t roll ≤ 2 * words + 2 * length t.live + 5
stands words h s t roll size f blocks tasks =
    let most = room words (world (past_of h)).used (world (past_of h)).blocks (world (past_of h)).tasks (history_placed words h size.0 f) in
    let pages = each_page (world (past_of h)).tasks in
    has_room words s t roll
    (subst (λ bs. total (λ (b : Block). b.size) bs + 4096 * length roll.tasks ≤ 8 * words) (sym blocks)
    (subst (λ (ts : List Task). total (λ (b : Block). b.size) (world (past_of h)).blocks + 4096 * length ts ≤ 8 * words) (sym tasks) (omega (arith, most, pages))))
