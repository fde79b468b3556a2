-- What a line has done so far, and which lines make which events.
use Rattle.std.specs.Prelude.{◌≡◌, ℕ, ◌+◌, ◌≤◌, Bool, true, false, List, [], ◌∷◌, length, Result, Ok, Err, MatchResult, Some}
use Rattle.km_base.specs.declared.sizes.TheConstants.{MOST_STEPS}
use Rattle.km_base.specs.declared.acts.Act.{Act}
use Rattle.km_base.specs.declared.acts.Act.TheVariants as act
use Rattle.km_base.specs.declared.acts.FileCmd.TheVariants as file
use Rattle.km_base.specs.declared.acts.Answer.{Answer}
use Rattle.km_base.specs.declared.acts.Answer.TheVariants.{At}
use Rattle.km_base.specs.declared.acts.Refusal.{Refusal}
use Rattle.km_edge.specs.declared.errors.Failed.{Failed}
use Rattle.km_edge.specs.Streams.{SinkState, WritesAll}
use Rattle.km_base.specs.declared.lines.Command.{Command}
use Rattle.km_base.specs.declared.lines.Command.TheVariants as command
use Rattle.km_model.specs.History.{History}
use Rattle.km_model.specs.Follows.{Run, happens, told_answer}
use Rattle.km_model.specs.Expansion.{Acts, Makes, first_acts, world_after}
use Rattle.km_machine.specs.Machines.{Simulation, For}
use Rattle.km_machine.specs.Sayings.{Saying, said_of}

-- of the events since a run all was written that is to be said, or written up to a fault
pub record HasSaid (says : Saying) (first run : Run) (k k' : SinkState) (written : Result (Unit {0}) Failed) : Type 0 where
  pub count : ℕ
  pub grown : length run.history ≡ count + length first.history
  pub wrote : WritesAll k k' (said_of says first.memory count run.history) written

-- a line that began at one run has led to another, for which the machine stands, and what is to be said of its events was written
pub record SoFar (says : Saying) (first run : Run) (machine : Simulation) (k k' : SinkState) (written : Result (Unit {0}) Failed) : Type 0 where
  pub stands : For machine run
  pub said : HasSaid says first run k k' written

-- whether an act asks for an allocation
abbrev pub is_request : Act → Bool
is_request (act.Kmalloc _) = true
is_request (act.Pages _) = true
is_request (act.VmTake _) = true
is_request (act.BootMem _) = true
is_request _ = false

-- what a witness does with an act that was just answered. Which address is given it need say only if its line asks for one,
-- and what it says of a read is said over the words as they were
abbrev pub SaysEvent : Saying → Bool → Simulation → Act → Answer → SinkState → SinkState → Result (Unit {0}) Failed → Type 0
SaysEvent says asks machine what given k k' result =
    (run : Run) (memory : List ℕ) → For machine (happens run what) → given ≡ told_answer run what
    → (is_request what ≡ true → asks ≡ true) → (what ≡ act.Read → memory ≡ run.memory)
    → WritesAll k k' (says memory run.history what given) result

-- the events of a line were made and said, or the line is refused before any event
pub record SaysLine (says : Saying) (next : Simulation) (run : Run) (c : Command) (k k' : SinkState) (result : Result (Result (Unit {0}) Failed) Refusal) : Type 0 where
  pub behind : Run
  pub makes : Makes run c behind
  pub stands : For next behind
  pub said :
      MatchResult result
      (λ written. (acts : List Act) × (first_acts (world_after run.history) c ≡ Ok acts) × HasSaid says run behind k k' written)
      (λ refusal. (first_acts (world_after run.history) c ≡ Err refusal) × (k' ≡ k))

-- the newest event is this request, and gave an address
pub record Gave (request : Act) (start : ℕ) (h : History) : Type 0 where
  pub before : History
  pub newest : h ≡ record { act = request; answer = At start } ∷ before

-- the newest event is that of a line for an allocation, and gave an address
pub record IsGiven (c : Command) (start : ℕ) (h : History) : Type 0 where
  pub request : Act
  pub before : History
  pub newest : h ≡ record { act = request; answer = At start } ∷ before
  pub first : Ok (request ∷ []) ≡ first_acts (world_after before) c

-- the one act of a line, or a refusal, as its acts
abbrev pub acts_of : Result Act Refusal → Acts
acts_of (Ok a) = Ok (a ∷ [])
acts_of (Err r) = Err r

-- whether an act is answered by no address, moves no time and lists nothing
abbrev pub is_simple : Act → Bool
is_simple (act.Kmalloc _) = false
is_simple (act.Pages _) = false
is_simple (act.VmTake _) = false
is_simple (act.BootMem _) = false
is_simple (act.Tick _) = false
is_simple act.Read = false
is_simple _ = true

-- whether a line asks for an allocation
abbrev pub is_allocation : Command → Bool
is_allocation (command.Kmalloc _ _) = true
is_allocation (command.Kzalloc _ _) = true
is_allocation (command.Pages _ _) = true
is_allocation (command.Vmalloc _ _) = true
is_allocation (command.BootMem _ _) = true
is_allocation _ = false

-- whether a line makes one simple event, if no operand is missing
abbrev pub is_alone : Command → Bool
is_alone (command.Section _ _) = true
is_alone (command.Task _) = true
is_alone (command.Exit _) = true
is_alone (command.Set _ _) = true
is_alone (command.Load _ _) = true
is_alone (command.Store _ _) = true
is_alone (command.Erase _) = true
is_alone (command.Kfree _) = true
is_alone (command.FreePages _) = true
is_alone (command.FreePart _ _) = true
is_alone (command.NotLeak _) = true
is_alone (command.Ignore _) = true
is_alone (command.NoScan _) = true
is_alone (command.ScanArea _ _) = true
is_alone (command.TransientLeak _) = true
is_alone (command.Write (Some file.Scan)) = false
is_alone (command.Write _) = true
is_alone command.Begin = true
is_alone _ = false

-- whether a line is `memory`
abbrev pub is_memory : Command → Bool
is_memory (command.Memory _) = true
is_memory _ = false

-- whether a line is `print`
abbrev pub is_print : Command → Bool
is_print (command.Print _) = true
is_print _ = false

-- the steps and the milliseconds of a line are so few that no count leaves 64 bits
abbrev pub IsFew : Command → Type 0
IsFew (command.Step n) = n ≤ MOST_STEPS
IsFew (command.Tick n) = n ≤ 3600000
IsFew _ = Unit {0}
