-- What a scanner has left of its running scan.
use Rattle.std.specs.Prelude.{ℕ, ◌+◌, max, not, ◌==◌, List, filter, Option, Some, None}
use Rattle.km_model.specs.Tasks.{Task}
use Rattle.km_state.specs.State as state
use Rattle.km_state.specs.State.{Scanning, Tracked}
use Rattle.km_tasks.specs.Roll.{Roll}
use Rattle.km_track.specs.Tracker.{Tracker, tracked_in}
use Rattle.km_scan.specs.declared.places.At.{At}
use Rattle.km_scan.specs.declared.places.At.TheVariants.{Stack, Block as InBlock}
use Rattle.km_scan.specs.declared.sweep.Sweep.{Sweep}
use Rattle.km_scan.specs.Places.{place_of}
use Rattle.km_scan.specs.Stand.{Stand, scanning_of}
use Rattle.km_left.specs.LeftIn.{scan_left}

-- a running scan whose last load was this one
abbrev pub loaded_at : At → Scanning → Scanning
loaded_at at c = record c { cursor = state.Last (place_of at) }

-- the blocks but for the one with an id
abbrev pub others : ℕ → List Tracked → List Tracked
others id ts = filter (λ (t : Tracked). not (t.block.id == id)) ts

-- what is left where the block of a load is unregistered before the load is made: the scan goes on from its cursor
abbrev pub left_without : At → Scanning → List Tracked → List Task → ℕ
left_without (Stack task word) c ts tasks = 0
left_without (InBlock pass id word) c ts tasks = scan_left c (others id.generation ts) tasks

-- what a scan has left with the load that it has moved to, if there is one: that load and what is left behind it, or,
-- if that is more, what is left without its block, so that a free between the move and the load raises nothing
abbrev pub left_with : Scanning → Option At → List Tracked → List Task → ℕ
left_with c None ts tasks = scan_left c ts tasks
left_with c (Some at) ts tasks = max (scan_left (loaded_at at c) ts tasks + 1) (left_without at c ts tasks)

-- what a running scan has left
abbrev pub sweep_left : Sweep → Tracker → Roll → ℕ
sweep_left w t roll = left_with (scanning_of t w) w.ready (tracked_in t) roll.tasks

-- how many further loads and moves the running scan can make at most, if no block is registered and no task starts any
-- more; 0 where none is running
abbrev pub scanner_left : Stand → Tracker → Roll → ℕ
scanner_left s t roll = elim s.sweep [ None ↦ 0 | Some w ↦ sweep_left w t roll ]
