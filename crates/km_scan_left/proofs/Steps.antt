-- Each step of a scan lowers what it has left.
use Rattle.std.proofs.Common.{◌≡◌, ℕ, ◌+◌, ◌≤◌, Bool, true, false, ◌||◌, List, [], Option, Some, None, refl, sym, ap, ◌∙◌, subst, arith, inl, inr}
use Rattle.km_model.specs.Blocks.{is_among}
use Rattle.km_model.specs.Past.{Place}
use Rattle.km_model.specs.Tasks.{Task}
use Rattle.km_model.proofs.Cases.{none_some, some_same}
use Rattle.km_state.specs.State as state
use Rattle.km_state.specs.State.{Scanning, Tracked, is_white_now}
use Rattle.km_state.specs.StateNext.{load_at, next_in, phase_at, queue_at, sum_after}
use Rattle.km_tasks.specs.Lives.{AreNumbered}
use Rattle.km_tasks.specs.Roll.{Roll}
use Rattle.km_track.specs.Tracker.{AreRising, Tracker, tracked_in}
use Rattle.km_scan.specs.declared.places.At.{At}
use Rattle.km_scan.specs.declared.places.At.TheVariants.{Stack, Block as InBlock}
use Rattle.km_scan.specs.declared.places.Cursor.{Cursor}
use Rattle.km_scan.specs.declared.places.Cursor.TheVariants.{Start, Last, Behind}
use Rattle.km_scan.specs.declared.places.Pass.{Pass}
use Rattle.km_scan.specs.declared.places.Pass.TheVariants.{First, Sums, Second}
use Rattle.km_scan.specs.declared.sweep.Sweep.{Sweep}
use Rattle.km_scan.specs.Places.{cursor_of, phase_of, place_of}
use Rattle.km_scan.specs.Stand.{Fits, FitsDue, IsDue, Stand, due_in, load_told, scanning_of, seen, sweep_told}
use Rattle.km_scan.proofs.InState.{blocks_step}
use Rattle.km_left.specs.LeftIn.{is_ahead, scan_left}
use Rattle.km_left.proofs.Loads.{Holds, Way, blocks_numbered, in_rest}
use Rattle.km_scan_left.specs.Left.{left_without, loaded_at, scanner_left, sweep_left}
use Rattle.km_scan_left.proofs.Once.{Once, once}
use Rattle.km_scan_left.proofs.Hits.{ripe_is_white}
use Rattle.km_scan_left.proofs.Dues.{due_block, due_held, due_stack, due_white}
use Rattle.km_scan_left.proofs.DueAt.{due_at}
use Rattle.km_scan_left.proofs.Reaches.{Reaches, reaches}
use Rattle.km_scan_left.proofs.GoesOn.{GoesOn, goes_on}
use Rattle.km_scan_left.proofs.Places.{comes_to, told_less}
use Rattle.km_scan_left.proofs.Without.{IsLeft, ahead_left, falls_without, queued_left}

-- a scanner is in one of four phases
phase_most : (k : Cursor) → phase_at (cursor_of k) ≤ 4
phase_most Start = omega arith
phase_most (Last (Stack task word)) = omega arith
phase_most (Last (InBlock First id word)) = omega arith
phase_most (Last (InBlock Sums id word)) = omega arith
phase_most (Last (InBlock Second id word)) = omega arith
phase_most (Behind First gone) = omega arith
phase_most (Behind Sums gone) = omega arith
phase_most (Behind Second gone) = omega arith

-- a move
in_block : (pass : Pass) → phase_of pass ≡ 1 → ⊥
in_block First e = omega (arith, e)
in_block Sums e = omega (arith, e)
in_block Second e = omega (arith, e)

blocks_at : (stacks : Bool) (at : At) (t : Tracker) (roll : Roll) → Once (tracked_in t) → FitsDue stacks (Some at) t roll → ((place_of at).phase ≡ 1 → ⊥) → Holds blocks_numbered (tracked_in t) (place_of at)
blocks_at stacks (Stack task word) t roll one f other = absurd (other refl)
blocks_at stacks (InBlock pass id word) t roll one f other = due_block stacks pass id word t roll one f

-- the tracker that a move leaves
abbrev moved : Tracker → Sweep → Place → Tracker
moved t w p = record t { queue = queue_at (scanning_of t w) p }

way_there : (stacks : Bool) (w : Sweep) (at : At) (t : Tracker) (roll : Roll) → Once (tracked_in t) → FitsDue stacks (Some at) (moved t w (place_of at)) roll
    → Reaches (scanning_of t w) roll.tasks (place_of at) → Way (scanning_of t w) (tracked_in t) roll.tasks (place_of at) 2
way_there stacks w at t roll one f r =
    let there = moved t w (place_of at) in
    elim r.1 [
      | inl k ↦ inl (k.0, inl (k.1, omega arith), (due_stack stacks at there roll f k.0, k.2, k.3, k.4))
      | inr (inl k) ↦ let three = k.0 in inr (inl (k.0, inl (k.1, omega arith), blocks_at stacks at there roll one f (λ e. omega (arith, three, e))))
      | inr (inr k) ↦ inr (inr (k.0, inl (k.1, omega arith), blocks_at stacks at there roll one f (λ e. elim k.0 [ inl two ↦ omega (arith, two, e) | inr four ↦ omega (arith, four, e) ])))
    ]

-- and what is left without its block
left_there : (c : Scanning) (ts : List Tracked) (tasks : List Task) (p : Place) (u : Tracked) → u.block.id ≡ p.holder → (p.phase ≡ 1 → ⊥) → Reaches c tasks p → IsLeft c u
left_there c ts tasks p u same other r =
    elim r.1 [
      | inl k ↦ absurd (other k.0)
      | inr (inl k) ↦ ahead_left c u (subst (λ n. is_ahead 3 n c.cursor ≡ true) (sym same) k.1)
      | inr (inr k) ↦ queued_left c u (subst (λ n. is_among n c.queue ≡ true) (sym same) k.1)
    ]

without_there : (stacks : Bool) (w : Sweep) (at : At) (t : Tracker) (roll : Roll) → Once (tracked_in t) → FitsDue stacks (Some at) (moved t w (place_of at)) roll
    → Reaches (scanning_of t w) roll.tasks (place_of at) → left_without at (scanning_of (moved t w (place_of at)) w) (tracked_in t) roll.tasks + 1 ≤ scan_left (scanning_of t w) (tracked_in t) roll.tasks
without_there stacks w (Stack task word) t roll one f r = let most = phase_most w.cursor in omega (arith, most)
without_there stacks w (InBlock pass id word) t roll one f r =
    let p = place_of (InBlock pass id word) in
    let c = scanning_of t w in
    let k = due_block stacks pass id word (moved t w p) roll one f in
    falls_without c (scanning_of (moved t w p) w) (tracked_in t) roll.tasks id.generation k.1 k.2 k.3 (left_there c (tracked_in t) roll.tasks p k.1 k.3 (in_block pass) r) refl
    (λ u i j. in_rest c p u.block.id j)

moves_by : (stacks : Bool) (w : Sweep) (o : Option At) (t : Tracker) (roll : Roll) (at : At) → Once (tracked_in t) → due_in (record w { ready = o }) t roll ≡ None
    → next_in (seen stacks t roll) (scanning_of t w) ≡ Some (place_of at) → FitsDue stacks (Some at) (moved t w (place_of at)) roll
    → sweep_left (record w { ready = Some at }) (moved t w (place_of at)) roll + 1 ≤ sweep_left (record w { ready = o }) t roll
moves_by stacks w (Some other) t roll at one due next f = absurd (none_some (place_of other) (sym due))
moves_by stacks w None t roll at one due next f =
    let p = place_of at in
    let c = scanning_of t w in
    let there = moved t w (place_of at) in
    let r = reaches stacks w.cursor w.sum t roll p due next in
    let falls : scan_left (loaded_at at (scanning_of (moved t w (place_of at)) w)) (tracked_in t) roll.tasks + 2 ≤ scan_left (scanning_of t w) (tracked_in t) roll.tasks
    = comes_to c (tracked_in t) roll.tasks p 2 r.0 (way_there stacks w at t roll one f r) (due_held stacks at there roll one f) in
    let without = without_there stacks w at t roll one f r in
    omega (arith, falls, without)

-- a load that is told
way_on : (stacks : Bool) (c : Scanning) (at : At) (t : Tracker) (roll : Roll) → Once (tracked_in t) → FitsDue stacks (Some at) t roll → GoesOn c roll.tasks (place_of at)
    → Way c (tracked_in t) roll.tasks (place_of at) 1
way_on stacks c (Stack task word) t roll one f g =
    let k = g.task refl in inl (refl, inr (g.held, g.word, omega arith), (due_stack stacks (Stack task word) t roll f refl, k.0, k.1, k.2))
way_on stacks c (InBlock First id word) t roll one f g = inr (inr (inl refl, inr (g.held, g.word, omega arith), due_block stacks First id word t roll one f))
way_on stacks c (InBlock Sums id word) t roll one f g = inr (inl (refl, inr (g.held, g.word, omega arith), due_block stacks Sums id word t roll one f))
way_on stacks c (InBlock Second id word) t roll one f g = inr (inr (inr refl, inr (g.held, g.word, omega arith), due_block stacks Second id word t roll one f))

told_less_at : (stacks : Bool) (w : Sweep) (t : Tracker) (roll : Roll) (at : At) (value : ℕ) → Once (tracked_in t) → FitsDue stacks (Some at) t roll
    → sweep_left (sweep_told w at value t) (load_told stacks w (place_of at) value t roll) roll ≤ scan_left (loaded_at at (scanning_of t w)) (tracked_in t) roll.tasks
told_less_at stacks w t roll at value one f =
    let p = place_of at in
    let sum = sum_after (scanning_of t w) (place_of at) value in
    let l = load_at (seen stacks t roll) (scanning_of t w) (place_of at) value in
    subst (λ us. scan_left (scanning_of (load_told stacks w (place_of at) value t roll) (sweep_told w at value t)) us roll.tasks ≤ scan_left (loaded_at at (scanning_of t w)) (tracked_in t) roll.tasks)
    (sym (blocks_step stacks w t roll p value))
    (told_less (loaded_at at (scanning_of t w)) (tracked_in t) roll.tasks l sum (ripe_is_white (tracked_in t) p value sum one (due_white stacks at t roll one f)))

due_falls : (stacks : Bool) (w : Sweep) (o : Option At) (t : Tracker) (roll : Roll) (at : At) → Once (tracked_in t) → due_in (record w { ready = o }) t roll ≡ Some (place_of at) → FitsDue stacks (Some at) t roll
    → scan_left (loaded_at at (scanning_of t w)) (tracked_in t) roll.tasks + 1 ≤ sweep_left (record w { ready = o }) t roll
due_falls stacks w (Some other) t roll at one due f =
    let same : scan_left (loaded_at other (scanning_of t w)) (tracked_in t) roll.tasks ≡ scan_left (loaded_at at (scanning_of t w)) (tracked_in t) roll.tasks
    = ap (λ (q : Place). scan_left (record (scanning_of t w) { cursor = state.Last q }) (tracked_in t) roll.tasks) (some_same (place_of other) (place_of at) due) in
    omega (arith, same)
due_falls stacks w None t roll at one due f =
    let p = place_of at in
    let c = scanning_of t w in
    let g = goes_on w.cursor w.sum t roll p due in
    let same = g.phase in
    let falls = comes_to c (tracked_in t) roll.tasks p 1 (omega (arith, same)) (way_on stacks c at t roll one f g)
    (λ u i h. subst (λ q. (is_white_now u || is_among u.block.id q) ≡ false) (sym g.queue) (due_held stacks at t roll one f u i h)) in
    subst (λ q. scan_left (record { queue = q; cursor = state.Last (place_of at); sum = w.sum }) (tracked_in t) roll.tasks + 1 ≤ scan_left (scanning_of t w) (tracked_in t) roll.tasks) g.queue falls

told_by : (stacks : Bool) (w : Sweep) (t : Tracker) (roll : Roll) (at : At) (value : ℕ) → Once (tracked_in t) → due_in w t roll ≡ Some (place_of at) → FitsDue stacks (Some at) t roll
    → sweep_left (sweep_told w at value t) (load_told stacks w (place_of at) value t roll) roll + 1 ≤ sweep_left w t roll
told_by stacks w t roll at value one due f =
    let less = told_less_at stacks w t roll at value one f in
    let falls : scan_left (loaded_at at (scanning_of t w)) (tracked_in t) roll.tasks + 1 ≤ sweep_left w t roll = due_falls stacks w w.ready t roll at one due f in
    omega (arith, less, falls)

-- what is left after a load at a place
abbrev After : Bool → Sweep → Place → ℕ → Tracker → Roll → ℕ
After stacks w q value t roll =
    scan_left (record { queue = (load_told stacks w q value t roll).queue; cursor = state.Last q; sum = sum_after (scanning_of t w) q value }) (tracked_in (load_told stacks w q value t roll)) roll.tasks

-- what a sweep has left is what its scanner has left
abbrev left_of : Option Sweep → Tracker → Roll → ℕ
left_of o t roll = elim o [ None ↦ 0 | Some w ↦ sweep_left w t roll ]

some_left : (w : Sweep) (o : Option At) (t : Tracker) (roll : Roll) → 1 ≤ sweep_left (record w { ready = o }) t roll
some_left w None t roll = let most = phase_most w.cursor in omega (arith, most)
some_left w (Some at) t roll = omega arith

pub moves : (s : Stand) (w : Sweep) (t : Tracker) (roll : Roll) (at : At) → AreRising 0 t.live t.registered → s.sweep ≡ Some w → due_in w t roll ≡ None → next_in (seen s.stacks t roll) (scanning_of t w) ≡ Some (place_of at)
    → Fits (record s { sweep = Some (record w { ready = Some at }) }) (record t { queue = queue_at (scanning_of t w) (place_of at) }) roll
    → scanner_left (record s { sweep = Some (record w { ready = Some at }) }) (record t { queue = queue_at (scanning_of t w) (place_of at) }) roll + 1 ≤ scanner_left s t roll
moves s w t roll at rising e due next fits =
    subst (λ o. sweep_left (record w { ready = Some at }) (moved t w (place_of at)) roll + 1 ≤ left_of o t roll) (sym e)
    (moves_by s.stacks w w.ready t roll at (once t rising) due next (fits (record w { ready = Some at }) refl).ready)

pub stops : (s : Stand) (w : Sweep) (t : Tracker) (roll : Roll) → s.sweep ≡ Some w → scanner_left (record s { sweep = None }) t roll + 1 ≤ scanner_left s t roll
stops s w t roll e = subst (λ o. 1 ≤ left_of o t roll) (sym e) (some_left w w.ready t roll)

pub ends : (s : Stand) (w : Sweep) (t : Tracker) (roll : Roll) → s.sweep ≡ Some w → scanner_left (record s { sweep = None }) (record t { queue = [] }) roll + 1 ≤ scanner_left s t roll
ends s w t roll e = stops s w t roll e

pub takes : (s : Stand) (w : Sweep) (t : Tracker) (roll : Roll) (at : At) (value : ℕ) → AreRising 0 t.live t.registered → s.sweep ≡ Some w → IsDue s at t roll
    → scanner_left (record s { sweep = Some (sweep_told w at value t) }) (load_told s.stacks w (place_of at) value t roll) roll + 1 ≤ scanner_left s t roll
takes s w t roll at value rising e due =
    let same : due.sweep ≡ w = some_same due.sweep w (sym due.running ∙ e) in
    subst (λ o. sweep_left (sweep_told w at value t) (load_told s.stacks w (place_of at) value t roll) roll + 1 ≤ left_of o t roll) (sym e)
    (told_by s.stacks w t roll at value (once t rising) (subst (λ (v : Sweep). due_in v t roll ≡ Some (place_of at)) same due.place) due.fits)

pub tells : (s : Stand) (w : Sweep) (t : Tracker) (roll : Roll) (at : At) (value : ℕ) → AreRising 0 t.live t.registered → AreNumbered 0 roll.tasks roll.started → s.sweep ≡ Some w → Fits s t roll → due_in w t roll ≡ Some (place_of at)
    → scanner_left (record s { sweep = Some (sweep_told w at value t) }) (load_told s.stacks w (place_of at) value t roll) roll + 1 ≤ scanner_left s t roll
tells s w t roll at value rising numbered e fits due =
    let f = fits w e in
    let d = due_at s.stacks w w.ready t roll (place_of at) rising numbered f.cursor f.ready due in
    subst (λ o. sweep_left (sweep_told w at value t) (load_told s.stacks w (place_of at) value t roll) roll + 1 ≤ left_of o t roll) (sym e)
    (subst (λ q. After s.stacks w q value t roll + 1 ≤ sweep_left w t roll) d.1
    (told_by s.stacks w t roll d.0 value (once t rising) (due ∙ ap Some (sym d.1)) d.2))
