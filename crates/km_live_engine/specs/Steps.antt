-- What each part of a live run does: one line, some lines, a script.
use Rattle.std.specs.Prelude.{◌≡◌, ℕ, ◌+◌, ◌≤◌, Bool, true, false, List, ◌++◌, Option, Some, None, Result, Ok, Err, MatchResult, []}
use Rattle.km_base.specs.declared.status.Status.{Status}
use Rattle.km_base.specs.declared.status.Status.TheVariants as status
use Rattle.km_model.specs.Follows.{Run}
use Rattle.km_model.specs.Output.{Script, is_fresh}
use Rattle.km_edge.specs.declared.errors.Failed.{Failed}
use Rattle.km_edge.specs.Streams.{SourceState, SinkState, Wrote, WritesAll, StoppedAt}
use Rattle.km_reader.specs.Causes.{EndsFrom}
use Rattle.km_reader.specs.Lines.{IsLeft}
use Rattle.km_machine.specs.Machines.{For, Simulation}
use Rattle.km_forms.specs.Lines.{Refuses}
use Rattle.km_live_model.specs.declared.lines.LiveLine.{LiveLine}
use Rattle.km_live_model.specs.declared.lines.LiveLine.TheVariants as live
use Rattle.km_live_model.specs.LiveGrammar.{LiveReading}
use Rattle.km_live_model.specs.Threads.{Thread, line_at, threads_after}
use Rattle.km_live_model.specs.Lives.{IsLiveRun, LeadsByRound, LeadsLive, LiveScript}
use Rattle.km_engine.specs.Session.{HasLed}
use Rattle.km_engine.specs.Steps.{IsFit}
use Rattle.km_live_engine.specs.Session.{HasCome, HasRoomFor, LivePlace, LiveSession, StandsAt}
use Rattle.km_live_engine.specs.Outcome.{live_scripts, asks_for_memory}

-- the numbers of a `round` line are in their ranges
abbrev pub IsFewInRound : ℕ → ℕ → ℕ → Type 0
IsFewInRound scans gap entries = (scans ≤ 100) × (gap ≤ 3600000) × (1 ≤ entries) × (entries ≤ 4194304)

-- a first line is blank or `memory` with a number of words that a memory can have; a later one has its numbers in their
-- ranges
abbrev pub IsFitLine : Bool → LiveLine → Type 0
IsFitLine first live.Blank = Unit {0}
IsFitLine first (live.Command c) = IsFit first c
IsFitLine first (live.Round scans gap entries) = (first ≡ false) × IsFewInRound scans gap entries
IsFitLine first (live.Thread _) = first ≡ false
IsFitLine first live.End = first ≡ false
IsFitLine first (live.InThread _) = first ≡ false

-- a line makes no event: it is blank, or of a thread
abbrev pub IsQuiet : LiveLine → Type 0
IsQuiet (live.Command _) = ⊥
IsQuiet (live.Round _ _ _) = ⊥
IsQuiet _ = Unit {0}

-- how a line that was read ends a run
abbrev pub EndsRun : LiveScript → LiveLine → SinkState → SinkState → Status → Type 0
EndsRun s l k k' status.WriteFault =
    (next : Script) × (text : List ℕ) × (n : ℕ) × LeadsLive s.script s.threads.standing l next text × StoppedAt k k' text n
EndsRun s l k k' status.NoMemory = Wrote k k' [] × (asks_for_memory l ≡ true)
EndsRun s l k k' _ = ⊥

-- a line that was read was run: the session stands for what the line led to, and the line's text was written
pub record RanOn (new : LiveSession) (s : LiveScript) (l : LiveLine) (k k' : SinkState) : Type 0 where
  pub next : Script
  pub text : List ℕ
  pub leads : LeadsLive s.script s.threads.standing l next text
  pub come : HasCome new (record { script = next; threads = threads_after s.threads l })
  pub wrote : Wrote k k' text

-- a line that was read is run
abbrev pub Runs : LiveSession → LiveSession → LiveLine → SinkState → SinkState → Result (Unit {0}) Status → Type 0
Runs old new l k k' result = (s : LiveScript) → HasCome old s → MatchResult result (λ _. RanOn new s l k k') (EndsRun s l k k')

-- the threads that stand were run on a machine, or refused: for each run for which it stood, it stands for the one that the
-- line leads to, and the line's text was written, or written up to a fault
abbrev pub RunsThreads : Simulation → List Thread → ℕ → ℕ → ℕ → Simulation → SinkState → SinkState → Result (Unit {0}) Failed → Type 0
RunsThreads m threads scans gap entries m' k k' result =
    (run : Run) → For m run
    → (run' : Run) × (out : List ℕ) × LeadsByRound run threads scans gap entries run' out × For m' run' × WritesAll k k' out result

-- a `round` line was run on a machine: it stands for where the round led, and the round's text was written
pub record RanRound (machine : Option Simulation) (s : Script) (threads : List Thread) (scans gap entries : ℕ) (k k' : SinkState) : Type 0 where
  pub next : Script
  pub text : List ℕ
  pub leads : LeadsLive s threads (live.Round scans gap entries) next text
  pub led : HasLed machine next
  pub wrote : Wrote k k' text

-- how a `round` line ends a run
abbrev pub EndsRound : Script → List Thread → ℕ → ℕ → ℕ → SinkState → SinkState → Status → Type 0
EndsRound s threads scans gap entries k k' status.WriteFault =
    (next : Script) × (text : List ℕ) × (n : ℕ) × LeadsLive s threads (live.Round scans gap entries) next text × StoppedAt k k' text n
EndsRound s threads scans gap entries k k' status.NoMemory = Wrote k k' []
EndsRound s threads scans gap entries k k' _ = ⊥

-- a `round` line is run
abbrev pub RunsRoundLine : Option Simulation → Option Simulation → List Thread → ℕ → ℕ → ℕ → SinkState → SinkState → Result (Unit {0}) Status → Type 0
RunsRoundLine old new threads scans gap entries k k' result =
    (s : Script) → HasLed old s
    → MatchResult result (λ _. RanRound new s threads scans gap entries k k') (EndsRound s threads scans gap entries k k')

-- a line as it stands at a place
abbrev pub read_at : LivePlace → List ℕ → LiveReading
read_at p bytes = line_at (is_fresh p.script.script) p.script.threads bytes

-- how a line ends a run, as it was read
abbrev pub EndsAt : LivePlace → LiveReading → SinkState → SinkState → Status → Type 0
EndsAt p (Err e) k k' status = Refuses p.number e.column k k' status
EndsAt p (Ok l) k k' status = EndsRun p.script l k k' status

-- where a line is refused, the machine still stands for what the lines before it led to
abbrev pub StaysLed : LiveSession → LivePlace → Status → Type 0
StaysLed s' p (status.NotACommand _ _) = HasLed s'.machine p.script.script
StaysLed s' p _ = Unit {0}

-- the bytes of a line are read and run
abbrev pub RunsLine : LiveSession → LiveSession → List ℕ → SinkState → SinkState → Result (Unit {0}) Status → Type 0
RunsLine s s' bytes k k' result =
    (p : LivePlace) → StandsAt s p
    → MatchResult result
    (λ _. (l : LiveLine) × (read_at p bytes ≡ Ok l) × RanOn s' p.script l k k')
    (λ ended. EndsAt p (read_at p bytes) k k' ended × StaysLed s' p ended)

-- what was run took these bytes of the room
abbrev pub TakesRoom : LiveSession → LiveSession → ℕ → ℕ → Type 0
TakesRoom s s' before after = (more : ℕ) → HasRoomFor s.machine (before + more) → HasRoomFor s'.machine (after + more)

-- the input ended before line n: a thread that is open is refused there
abbrev pub EndsInput : Option Thread → ℕ → SinkState → SinkState → Status → Type 0
EndsInput None n k k' ended = (ended ≡ status.Ok) × (k' ≡ k)
EndsInput (Some _) n k k' ended = Refuses n 1 k k' ended

-- bytes lead to a text, and a machine, if there is one, stands for where they lead: its history is theirs
abbrev pub LeadsTo : Option Simulation → List ℕ → List ℕ → Type 0
LeadsTo machine bytes out = (end : LiveScript) × IsLiveRun bytes end out × HasLed machine end.script

-- where a run comes to the end of its lines, or to one that is no command, its machine stands for where they led
abbrev pub LedTo : Option Simulation → List ℕ → List ℕ → Status → Type 0
LedTo machine bytes out status.Ok = LeadsTo machine bytes out
LedTo machine bytes out (status.NotACommand _ _) = LeadsTo machine bytes out
LedTo machine bytes out _ = Unit {0}

-- a run over what a source gives
pub record RunsScript (s s' : SourceState) (k k' : SinkState) (machine : Option Simulation) (ended : Status) : Type 0 where
  pub run : EndsFrom live_scripts s s' k k' ended
  pub led : (remaining : List ℕ) → IsLeft s'.left remaining → LedTo machine (run.taken ++ remaining) run.written ended
