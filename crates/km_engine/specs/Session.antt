-- A script between two lines, as it is held and as the definitions have it.
use Rattle.std.specs.Prelude.{◌≡◌, ℕ, ◌+◌, ◌*◌, ◌^◌, ◌≤◌, Bool, length, Option, Some, None, is_none}
use Rattle.km_base.specs.declared.lines.Line.{Line}
use Rattle.km_base.specs.declared.lines.Line.TheVariants as line
use Rattle.km_model.specs.Output.{Script, Fresh, Begun, limit}
use Rattle.km_machine.specs.Machines.{For, HasRoom, Simulation, Spent}

-- a script between two lines: the number of the next line, and the machine once `memory` was read
pub record Session : Type 0 where
  pub number : ℕ
  pub machine : Option Simulation

-- before the first line
abbrev pub start : Session
start = record { number = 1; machine = None }

-- whether no command was read yet
abbrev pub is_fresh : Session → Bool
is_fresh s = is_none s.machine

-- where a run stands: the number of the next line, and what the lines before it led to
pub record Place : Type 0 where
  pub number : ℕ
  pub script : Script

-- before the first line
abbrev pub first_place : Place
first_place = record { number = 1; script = Fresh }

-- a machine, if there is one, stands for what lines led to
abbrev pub HasLed : Option Simulation → Script → Type 0
HasLed None Fresh = Unit {0}
HasLed (Some m) (Begun run) = For m run
HasLed _ _ = ⊥

-- a script stands at a place
pub record StandsAt (s : Session) (p : Place) : Type 0 where
  pub number : s.number ≡ p.number
  pub led : HasLed s.machine p.script

-- the events and milliseconds of a script leave room for those of as many bytes. A line that makes events has at least
-- 4 bytes with its line feed, fewer than 2^38 events and at most 3,600,000 ms
abbrev pub HasRoomFor : Option Simulation → ℕ → Type 0
HasRoomFor None bytes = bytes ≤ limit
HasRoomFor (Some m) bytes =
    (length m.memory ≡ m.core.parts.words)
    × (m.core.events + 2 ^ 36 * (bytes + 1) ≤ 2 ^ 62)
    × (m.core.parts.settings.now + 900000 * (bytes + 1) ≤ 2 ^ 62)

-- a machine has room for a line
abbrev pub HasRoomToRun : Option Simulation → Line → Type 0
HasRoomToRun (Some m) (line.Command c) = HasRoom m (2 ^ 38) 3600000
HasRoomToRun _ _ = Unit {0}

-- the events and milliseconds of a line; a new machine has none
abbrev pub SpendsOn : Option Simulation → Line → Option Simulation → Type 0
SpendsOn old line.Blank new = new ≡ old
SpendsOn (Some m) (line.Command c) (Some n) = Spent m n (2 ^ 38) 3600000
SpendsOn None (line.Command c) (Some n) =
    (length n.memory ≡ n.core.parts.words) × (n.core.events ≡ 0) × (n.core.parts.settings.now ≡ 0)
SpendsOn _ (line.Command c) None = ⊥
