-- What the live blocks and their scanner are seen as, and how they agree with a state.
use Rattle.std.specs.Prelude.{◌≡◌, ℕ, ◌+◌, ◌==◌, if◌then◌else◌, map, [], length, Option, Some, None, option_map, Result, Ok, Err}
use Rattle.km_base.specs.declared.acts.Answer.{Answer}
use Rattle.km_base.specs.declared.acts.Answer.TheVariants.{Done, Loaded, Refused}
use Rattle.km_base.specs.declared.acts.Refusal.{Refusal}
use Rattle.km_base.specs.declared.acts.Refusal.TheVariants.{AreaOverlap, NoObject, NotInside, TooManyAreas}
use Rattle.km_model.specs.Answers.{area_added}
use Rattle.km_model.specs.Blocks.{Block}
use Rattle.km_record.specs.declared.kinds.Note.{Note}
use Rattle.km_state.specs.State.{State, Tracked}
use Rattle.km_state.specs.StateAfter.{begun_scan, uncounted}
use Rattle.km_tasks.specs.Roll.{Roll}
use Rattle.km_track.specs.Tracker.{Tracker, tracked_in, tracked_noted}
use Rattle.km_track.specs.declared.faults.AreaRefusal.{AreaRefusal}
use Rattle.km_track.specs.declared.faults.AreaRefusal.TheVariants as area
use Rattle.km_scan.specs.declared.sweep.Sweep.{Sweep}
use Rattle.km_scan.specs.Stand.{Fits, IsSettled, Stand, scanning_of}

-- the live blocks, and the scanner
pub record Objects : Type 0 where
  pub tracker : Tracker
  pub stand : Stand

-- these are the blocks and the scans of a state
pub record AreOf (o : Objects) (s : State) : Type 0 where
  pub registered : s.registered ≡ o.tracker.registered
  pub tracked : s.tracked ≡ tracked_in o.tracker
  pub scans : s.scans ≡ o.stand.scans
  pub begun : s.begun ≡ o.stand.begun
  pub scan : s.scan ≡ option_map (scanning_of o.tracker) o.stand.sweep
  pub stacks : (w : Sweep) → o.stand.sweep ≡ Some w → s.stacks ≡ o.stand.stacks

-- the scanner agrees with the blocks and with these tasks, and waits for no load
pub record Agree (o : Objects) (roll : Roll) : Type 0 where
  pub settled : IsSettled o.stand
  pub fits : Fits o.stand o.tracker roll

-- how many blocks the table has places for
abbrev pub places : Objects → ℕ
places o = o.tracker.spare + length o.tracker.live

-- a state in which a scan has just begun
abbrev pub scan_begun : State → State
scan_begun s = record s { tracked = map uncounted s.tracked; scans = s.scans + 1; begun = s.now; scan = Some (begun_scan s.tracked) }

-- a state in which no scan is running
abbrev pub scan_stopped : State → State
scan_stopped s = record s { scan = None }

-- a state in which a note was taken of the block that begins at an address
abbrev pub annotated : Note → ℕ → State → State
annotated note a s = record s { tracked = map (λ (t : Tracked). if t.block.start == a then tracked_noted note t else t) s.tracked }

-- a state in which no block is registered
abbrev pub all_dropped : State → State
all_dropped s = record s { tracked = [] }

-- a result as an answer
abbrev pub done : Result (Unit {0}) Refusal → Answer
done (Ok _) = Done
done (Err r) = Refused r

-- the answer to an added area, by the block that has its first byte
abbrev pub area_answered : Option Block → ℕ → ℕ → Answer
area_answered None a size = Refused NoObject
area_answered (Some b) a size = area_added b a size

-- the refusal of an area
abbrev pub refusal_of : AreaRefusal → Refusal
refusal_of area.NoObject = NoObject
refusal_of area.NotInside = NotInside
refusal_of area.AreaOverlap = AreaOverlap
refusal_of area.TooManyAreas = TooManyAreas

-- what is to hold of a loaded word and its value
abbrev pub IfLoaded : Answer → (ℕ → ℕ → Type 0) → Type 0
IfLoaded (Loaded a value) P = P a value
IfLoaded _ P = Unit {0}
