-- Scripts are computed line by line, each line with the proof that the definitions lead over it. A plan has the steps of
-- each whole scan.
use Rattle.std.proofs.Common.{◌≡◌, ℕ, suc, ◌+◌, Bool, true, false, List, [], ◌∷◌, ◌++◌, Option, Some, None, Result, Ok, Err, refl, subst}
use Rattle.std.specs.Prelude.{MatchBool, is_none, option_map}
use Rattle.km_base.specs.declared.acts.Act.TheVariants as act
use Rattle.km_base.specs.declared.acts.FileCmd.TheVariants as file
use Rattle.km_base.specs.declared.lines.Command.{Command}
use Rattle.km_base.specs.declared.lines.Command.TheVariants.{Memory, Section, Task, Exit, Set, Load, Store, Erase, Print, Kmalloc, Kzalloc, Kfree, Pages, FreePages, Vmalloc, Vfree, BootMem, FreePart, NotLeak, Ignore, NoScan, ScanArea, TransientLeak, Write, Read, Tick, Begin, Step, Finish}
use Rattle.km_base.specs.declared.lines.Line.{Line}
use Rattle.km_base.specs.declared.lines.Line.TheVariants as line
use Rattle.km_base.specs.declared.lines.NotACommand.{NotACommand}
use Rattle.km_model.proofs.Cases.{none_some, some_same}
use Rattle.km_model.specs.Expansion.{Finishes, Makes, ScansIfBegun, behind_line, due_by, is_idle, newest_is_done, run_at, steps, world_after}
use Rattle.km_model.specs.Follows.{Run, first_run, happens}
use Rattle.km_model.specs.Grammar.{line_of}
use Rattle.km_model.specs.Output.{IsOut, Leads, LineThen, Prints, Script, Fresh, Begun, is_fresh, line_text, lines_of}
use Rattle.km_model.specs.Text.{not_a_command_text}

-- a value, where a test holds
abbrev guarded : {X : Type 0} (b : Bool) → (b ≡ true → X) → Option X
guarded true f = Some (f refl)
guarded false f = None

-- a value that needs another one
abbrev and_then : {X Y : Type 0} → Option X → (X → Option Y) → Option Y
and_then None f = None
and_then (Some x) f = f x

-- a run behind a whole scan
abbrev finished : ℕ → (run : Run) → Option ((after : Run) × Finishes run after)
finished k run =
    let stepped = steps (suc k) run in guarded (is_idle stepped.history) (λ e. (stepped, (k, refl, e)))

-- the same, if the newest event began a scan
abbrev scanned : ℕ → (run : Run) → Option ((after : Run) × ScansIfBegun run after)
scanned k run =
    elim (newest_is_done run.history) as (λ b. Option ((after : Run) × MatchBool b (Finishes run after) (run ≡ after))) [
      | true ↦ finished k run
      | false ↦ Some (run, refl)
    ]

-- a run behind a command
abbrev Made : Run → Command → Type 0
Made run c = (after : Run) × Makes run c after

-- the moment moves, and no automatic scan comes due
abbrev ticked : (run : Run) (n : ℕ) → Option (Made run (Tick n))
ticked run n =
    let target = (world_after run.history).now + n in
    guarded (is_none (due_by target (world_after run.history))) (λ e. (run_at run target, (0, (e, refl))))

abbrev made : ℕ → (run : Run) (c : Command) → Option (Made run c)
made k run (Write (Some file.Scan)) = scanned k (happens run (act.File file.Scan))
made k run (Step n) = Some (steps n run, refl)
made k run Finish = finished k run
made k run (Tick n) = ticked run n
made k run (Memory a) = Some (behind_line run (Memory a), refl)
made k run (Section a b) = Some (behind_line run (Section a b), refl)
made k run (Task a) = Some (behind_line run (Task a), refl)
made k run (Exit a) = Some (behind_line run (Exit a), refl)
made k run (Set a b) = Some (behind_line run (Set a b), refl)
made k run (Load a b) = Some (behind_line run (Load a b), refl)
made k run (Store a b) = Some (behind_line run (Store a b), refl)
made k run (Erase a) = Some (behind_line run (Erase a), refl)
made k run (Print a) = Some (behind_line run (Print a), refl)
made k run (Kmalloc a b) = Some (behind_line run (Kmalloc a b), refl)
made k run (Kzalloc a b) = Some (behind_line run (Kzalloc a b), refl)
made k run (Kfree a) = Some (behind_line run (Kfree a), refl)
made k run (Pages a b) = Some (behind_line run (Pages a b), refl)
made k run (FreePages a) = Some (behind_line run (FreePages a), refl)
made k run (Vmalloc a b) = Some (behind_line run (Vmalloc a b), refl)
made k run (Vfree a) = Some (behind_line run (Vfree a), refl)
made k run (BootMem a b) = Some (behind_line run (BootMem a b), refl)
made k run (FreePart a b) = Some (behind_line run (FreePart a b), refl)
made k run (NotLeak a) = Some (behind_line run (NotLeak a), refl)
made k run (Ignore a) = Some (behind_line run (Ignore a), refl)
made k run (NoScan a) = Some (behind_line run (NoScan a), refl)
made k run (ScanArea a b) = Some (behind_line run (ScanArea a b), refl)
made k run (TransientLeak a) = Some (behind_line run (TransientLeak a), refl)
made k run Read = Some (behind_line run Read, refl)
made k run Begin = Some (behind_line run Begin, refl)
made k run (Write None) = Some (behind_line run (Write None), refl)
made k run (Write (Some file.Off)) = Some (behind_line run (Write (Some file.Off)), refl)
made k run (Write (Some file.StackOn)) = Some (behind_line run (Write (Some file.StackOn)), refl)
made k run (Write (Some file.StackOff)) = Some (behind_line run (Write (Some file.StackOff)), refl)
made k run (Write (Some file.ScanOn)) = Some (behind_line run (Write (Some file.ScanOn)), refl)
made k run (Write (Some file.ScanOff)) = Some (behind_line run (Write (Some file.ScanOff)), refl)
made k run (Write (Some (file.ScanEvery n))) = Some (behind_line run (Write (Some (file.ScanEvery n))), refl)
made k run (Write (Some file.Clear)) = Some (behind_line run (Write (Some file.Clear)), refl)
made k run (Write (Some (file.Dump n))) = Some (behind_line run (Write (Some (file.Dump n))), refl)
made k run (Write (Some (file.Why n))) = Some (behind_line run (Write (Some (file.Why n))), refl)

-- a script behind a command
abbrev Led : Script → Command → Type 0
Led s c = (s' : Script) × (out : List ℕ) × Leads s c s' out

abbrev led : ℕ → (s : Script) (c : Command) → Option (Led s c)
led k Fresh (Memory words) = Some (Begun (first_run words), [], (refl, refl))
led k Fresh _ = None
led k (Begun run) c =
    option_map (λ (m : Made run c). (Begun m.0, line_text run c m.0, (m.0, m.1, refl, refl))) (made k run c)

-- the steps of the next whole scan
abbrev first : List ℕ → ℕ
first [] = 0
first (k ∷ _) = k

-- what a command leaves of a plan
abbrev left_by : Command → List ℕ → List ℕ
left_by (Write (Some file.Scan)) (_ ∷ plan) = plan
left_by Finish (_ ∷ plan) = plan
left_by _ plan = plan

-- a script behind some lines
abbrev Reached : Script → ℕ → List (List ℕ) → Type 0
Reached s n ls = (s' : Script) × (out : List ℕ) × Prints s n ls s' out

-- a script behind a line, as it was read, and the lines behind it
abbrev Passed : Result Line NotACommand → Script → ℕ → List (List ℕ) → Type 0
Passed r s n ls = (s' : Script) × (out : List ℕ) × LineThen r s n (λ between end rest. Prints between (n + 1) ls end rest) s' out

abbrev passed : (r : Result Line NotACommand) (s : Script) (n : ℕ) (ls : List (List ℕ)) → List ℕ → ((s' : Script) → List ℕ → Option (Reached s' (n + 1) ls)) → Option (Passed r s n ls)
passed (Err e) s n ls plan go = Some (s, not_a_command_text n e.column, (refl, refl))
passed (Ok line.Blank) s n ls plan go =
    option_map (λ (x : Reached s (n + 1) ls). (x.0, x.1, (s, [], x.1, (refl, refl), x.2, refl))) (go s plan)
passed (Ok (line.Command c)) s n ls plan go =
    and_then (led (first plan) s c) (λ (y : Led s c).
    option_map (λ (x : Reached y.0 (n + 1) ls). (x.0, y.1 ++ x.1, (y.0, y.1, x.1, y.2, x.2, refl))) (go y.0 (left_by c plan)))

abbrev plays : (s : Script) (n : ℕ) (ls : List (List ℕ)) → List ℕ → Option (Reached s n ls)
plays s n [] plan = Some (s, [], (refl, refl))
plays s n (l ∷ ls) plan = passed (line_of (is_fresh s) l) s n ls plan (λ s' plan'. plays s' (n + 1) ls plan')

-- the text of a script that was reached
abbrev text_of : (s : Script) (n : ℕ) (ls : List (List ℕ)) → Option (Reached s n ls) → Option (List ℕ)
text_of s n ls None = None
text_of s n ls (Some x) = Some x.1

reached : (s : Script) (n : ℕ) (ls : List (List ℕ)) (o : Option (Reached s n ls)) (out : List ℕ) → text_of s n ls o ≡ Some out → (s' : Script) × Prints s n ls s' out
reached s n ls None out e = absurd (none_some out e)
reached s n ls (Some x) out e = (x.0, subst (λ (text : List ℕ). Prints s n ls x.0 text) (some_same x.1 out e) x.2)

-- the text that is computed is the output
pub is_out : (bytes out plan : List ℕ) → text_of Fresh 1 (lines_of bytes) (plays Fresh 1 (lines_of bytes) plan) ≡ Some out → IsOut bytes out
is_out bytes out plan e = reached Fresh 1 (lines_of bytes) (plays Fresh 1 (lines_of bytes) plan) out e
