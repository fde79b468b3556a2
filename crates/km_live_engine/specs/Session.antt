-- A live script between two lines, as it is held and as the definitions have it.
use Rattle.std.specs.Prelude.{◌≡◌, ℕ, ◌+◌, ◌*◌, ◌^◌, ◌≤◌, Bool, length, Option, Some, None, is_none}
use Rattle.km_base.specs.declared.lines.Line.TheVariants as line
use Rattle.km_model.specs.Output.{limit}
use Rattle.km_machine.specs.Machines.{HasRoom, Simulation, Spent}
use Rattle.km_live_model.specs.declared.lines.LiveLine.{LiveLine}
use Rattle.km_live_model.specs.declared.lines.LiveLine.TheVariants as live
use Rattle.km_live_model.specs.Threads.{Threads, no_threads}
use Rattle.km_live_model.specs.Lives.{LiveScript as Led, live_start}
use Rattle.km_engine.specs.Session.{HasLed, SpendsOn as SpendsOnCommand}

-- a live script between two lines: the number of the next line, the machine once `memory` was read, and the threads that
-- stand
pub record LiveSession : Type 0 where
  pub number : ℕ
  pub machine : Option Simulation
  pub threads : Threads

-- before the first line
abbrev pub start : LiveSession
start = record { number = 1; machine = None; threads = no_threads }

-- whether no command was read yet
abbrev pub is_fresh : LiveSession → Bool
is_fresh s = is_none s.machine

-- where a run stands: the number of the next line, and what the lines before it led to
pub record LivePlace : Type 0 where
  pub number : ℕ
  pub script : Led

-- before the first line
abbrev pub first_place : LivePlace
first_place = record { number = 1; script = live_start }

-- a session stands for what lines led to: a machine, if there is one, and the threads
pub record HasCome (s : LiveSession) (script : Led) : Type 0 where
  pub led : HasLed s.machine script.script
  pub threads : s.threads ≡ script.threads

-- a live script stands at a place
pub record StandsAt (s : LiveSession) (p : LivePlace) : Type 0 where
  pub number : s.number ≡ p.number
  pub come : HasCome s p.script

-- the events and milliseconds of a live script leave room for those of as many bytes. A command has at least 4 bytes with
-- its line feed and fewer than 2^38 events, and a round fewer than 2^36 events and at most 360,000,000 ms
abbrev pub HasRoomFor : Option Simulation → ℕ → Type 0
HasRoomFor None bytes = bytes ≤ limit
HasRoomFor (Some m) bytes =
    (length m.memory ≡ m.core.parts.words)
    × (m.core.events + 2 ^ 36 * (bytes + 1) ≤ 2 ^ 62)
    × (m.core.parts.settings.now + 360000000 * (bytes + 1) ≤ 2 ^ 62)

-- a machine, if there is one, has room for a round
abbrev pub HasRoomForRound : Option Simulation → Type 0
HasRoomForRound (Some m) = HasRoom m (2 ^ 36) 360000000
HasRoomForRound None = Unit {0}

-- a machine has room for a line
abbrev pub HasRoomToRun : Option Simulation → LiveLine → Type 0
HasRoomToRun (Some m) (live.Command c) = HasRoom m (2 ^ 38) 3600000
HasRoomToRun o (live.Round _ _ _) = HasRoomForRound o
HasRoomToRun _ _ = Unit {0}

-- the events and milliseconds of a round
abbrev pub SpendsOnRound : Option Simulation → Option Simulation → Type 0
SpendsOnRound (Some m) (Some n) = Spent m n (2 ^ 36) 360000000
SpendsOnRound _ _ = ⊥

-- the events and milliseconds of a line; a new machine has none
abbrev pub SpendsOn : Option Simulation → LiveLine → Option Simulation → Type 0
SpendsOn old (live.Command c) new = SpendsOnCommand old (line.Command c) new
SpendsOn old (live.Round _ _ _) new = SpendsOnRound old new
SpendsOn old live.Blank new = new ≡ old
SpendsOn old (live.Thread _) new = new ≡ old
SpendsOn old live.End new = new ≡ old
SpendsOn old (live.InThread _) new = new ≡ old
