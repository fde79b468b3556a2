-- Places and cursors in the words of the state.
use Rattle.std.specs.Prelude.{ℕ}
use Rattle.km_model.specs.Past.{Place}
use Rattle.km_state.specs.State as state
use Rattle.km_scan.specs.declared.places.Pass.{Pass}
use Rattle.km_scan.specs.declared.places.Pass.TheVariants.{First, Sums, Second}
use Rattle.km_scan.specs.declared.places.At.{At}
use Rattle.km_scan.specs.declared.places.At.TheVariants.{Stack, Block}
use Rattle.km_scan.specs.declared.places.Cursor.{Cursor}
use Rattle.km_scan.specs.declared.places.Cursor.TheVariants.{Start, Last, Behind}

-- the number of a pass among the phases of a scan, of which the stacks are the first
abbrev pub phase_of : Pass → ℕ
phase_of First = 2
phase_of Sums = 3
phase_of Second = 4

-- a place
abbrev pub place_of : At → Place
place_of (Stack task word) = record { phase = 1; holder = task; word = word.0 }
place_of (Block pass id word) = record { phase = phase_of pass; holder = id.generation; word = word.0 }

-- a cursor
abbrev pub cursor_of : Cursor → state.Cursor
cursor_of Start = state.Start
cursor_of (Last at) = state.Last (place_of at)
cursor_of (Behind pass generation) = state.Behind (phase_of pass) generation
