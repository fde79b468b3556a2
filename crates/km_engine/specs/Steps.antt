-- What each part of a run does: one line, some lines, a script.
use Rattle.std.specs.Prelude.{◌≡◌, ℕ, ◌+◌, ◌≤◌, Bool, true, false, List, [], ◌++◌, length, Option, Result, Ok, Err, MatchResult}
use Rattle.km_base.specs.declared.lines.Command.{Command}
use Rattle.km_base.specs.declared.lines.Command.TheVariants.{Memory}
use Rattle.km_base.specs.declared.lines.Line.{Line}
use Rattle.km_base.specs.declared.lines.Line.TheVariants as line
use Rattle.km_base.specs.declared.lines.NotACommand.{NotACommand as Refused}
use Rattle.km_base.specs.declared.status.Status.{Status}
use Rattle.km_base.specs.declared.status.Status.TheVariants as status
use Rattle.km_model.specs.Grammar.{rules, line_of}
use Rattle.km_model.specs.Headline.{IsMemorySize}
use Rattle.km_model.specs.Output.{Script, Fresh, IsRun, Prints, LeadsLine, is_fresh, status_from}
use Rattle.km_edge.specs.Streams.{SourceState, SinkState, Wrote, StoppedAt}
use Rattle.km_reader.specs.Causes.{EndsFrom}
use Rattle.km_reader.specs.Lines.{IsLeft}
use Rattle.km_machine.specs.Lines.{IsFew, is_memory}
use Rattle.km_machine.specs.Machines.{Simulation}
use Rattle.km_engine.specs.Session.{Session, Place, HasLed, StandsAt, HasRoomFor}
use Rattle.km_engine.specs.Outcome.{scripts}
use Rattle.km_forms.specs.Lines.{Refuses}

-- a first command is `memory` with a number of words that a memory can have; a later one is another, and its number is in its range
abbrev pub IsFit : Bool → Command → Type 0
IsFit true (Memory words) = IsMemorySize words
IsFit true _ = ⊥
IsFit false c = (is_memory c ≡ false) × IsFew c

-- the same of a line
abbrev pub IsFitLine : Bool → Line → Type 0
IsFitLine first line.Blank = Unit {0}
IsFitLine first (line.Command c) = IsFit first c

-- a line is `memory`
abbrev pub IsMemory : Line → Type 0
IsMemory l = (words : ℕ) × (l ≡ line.Command (Memory words))

-- how a line that was read ends a run
abbrev pub EndsRun : Script → Line → SinkState → SinkState → Status → Type 0
EndsRun m l k k' status.WriteFault = (next : Script) × (text : List ℕ) × (n : ℕ) × LeadsLine m l next text × StoppedAt k k' text n
EndsRun m l k k' status.NoMemory = Wrote k k' [] × (is_fresh m ≡ true) × IsMemory l
EndsRun m l k k' _ = ⊥

-- a line that was read was run: a machine, if there is one, stands for what the line led to, and the line's text was written
pub record RanOn (machine : Option Simulation) (m : Script) (l : Line) (k k' : SinkState) : Type 0 where
  pub next : Script
  pub text : List ℕ
  pub leads : LeadsLine m l next text
  pub led : HasLed machine next
  pub wrote : Wrote k k' text

-- a line that was read is run
abbrev pub Runs : Option Simulation → Option Simulation → Line → SinkState → SinkState → Result (Unit {0}) Status → Type 0
Runs old new l k k' result = (m : Script) → HasLed old m → MatchResult result (λ _. RanOn new m l k k') (EndsRun m l k k')

-- how a line ends a run, as it was read
abbrev pub EndsAt : Place → Result Line Refused → SinkState → SinkState → Status → Type 0
EndsAt p (Err e) k k' status = Refuses p.number e.column k k' status
EndsAt p (Ok l) k k' status = EndsRun p.script l k k' status

-- where a line is refused, the machine still stands for what the lines before it led to
abbrev pub StaysLed : Session → Place → Status → Type 0
StaysLed s' p (status.NotACommand _ _) = HasLed s'.machine p.script
StaysLed s' p _ = Unit {0}

-- the bytes of a line are read and run
abbrev pub RunsLine : Session → Session → List ℕ → SinkState → SinkState → Result (Unit {0}) Status → Type 0
RunsLine s s' bytes k k' result =
    (p : Place) → StandsAt s p
    → MatchResult result
    (λ _. (l : Line) × (line_of (is_fresh p.script) bytes ≡ Ok l) × RanOn s'.machine p.script l k k')
    (λ ended. EndsAt p (line_of (is_fresh p.script) bytes) k k' ended × StaysLed s' p ended)

-- what was run took these bytes of the room
abbrev pub TakesRoom : Session → Session → ℕ → ℕ → Type 0
TakesRoom s s' before after = (more : ℕ) → HasRoomFor s.machine (before + more) → HasRoomFor s'.machine (after + more)

-- these lines were run from the first, and the run stands after them, whatever comes there
pub record Ran (lines : List (List ℕ)) (written : List ℕ) (q : Place) : Type 0 where
  pub prints_on : (ls : List (List ℕ)) (end : Script) (out : List ℕ) → Prints q.script q.number ls end out → Prints Fresh 1 (lines ++ ls) end (written ++ out)
  pub ends_on : (otherwise : Status) (ls : List (List ℕ))
      → status_from rules otherwise true 1 (lines ++ ls) ≡ status_from rules otherwise (is_fresh q.script) q.number ls
  pub numbered : q.number ≤ length lines + 1
  pub still_fresh : is_fresh q.script ≡ true → written ≡ []

-- bytes lead to a text, and a machine, if there is one, stands for where they lead
abbrev pub LeadsTo : Option Simulation → List ℕ → List ℕ → Type 0
LeadsTo machine bytes out = (end : Script) × IsRun bytes end out × HasLed machine end

-- where a run comes to the end of its lines, or to one that is no command, its machine stands for where they led
abbrev pub LedTo : Option Simulation → List ℕ → List ℕ → Status → Type 0
LedTo machine bytes out status.Ok = LeadsTo machine bytes out
LedTo machine bytes out (status.NotACommand _ _) = LeadsTo machine bytes out
LedTo machine bytes out _ = Unit {0}

-- a run over what a source gives
pub record RunsScript (s s' : SourceState) (k k' : SinkState) (machine : Option Simulation) (ended : Status) : Type 0 where
  pub run : EndsFrom scripts s s' k k' ended
  pub led : (remaining : List ℕ) → IsLeft s'.left remaining → LedTo machine (run.taken ++ remaining) run.written ended
