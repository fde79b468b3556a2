-- Each line leads somewhere, so each script has an output.
use Rattle.std.proofs.Common.{◌≡◌, ℕ, zero, suc, ◌+◌, ◌*◌, ◌<◌, ◌≤◌, Bool, true, false, nat_le, is_none, IsTrue, List, [], ◌∷◌, ◌++◌, length, Option, Some, None, Ok, Err, MatchBool, refl, ap, sym, subst, ◌∙◌, arith, if◌then◌else◌}
use Rattle.std.proofs.lemmas.Bool.Decides.{nat_tests}
use Rattle.km_base.specs.declared.acts.Act.TheVariants as act
use Rattle.km_base.specs.declared.acts.FileCmd.TheVariants as file
use Rattle.km_base.specs.declared.acts.Answer.{Answer}
use Rattle.km_base.specs.declared.acts.Answer.TheVariants.{Ended, Loaded, Refused}
use Rattle.km_base.specs.declared.acts.Refusal.TheVariants.{NoScanRunning}
use Rattle.km_laws.specs.Laws.{goes_on}
use Rattle.km_laws.specs.Left.{left}
use Rattle.km_laws.proofs.Laws.{loads_lower}
use Rattle.km_laws.proofs.Since.{IsAnswered, memory_answered}
use Rattle.km_base.specs.declared.lines.Command.{Command}
use Rattle.km_base.specs.declared.lines.Command.TheVariants.{Memory, Write, Finish, Tick, Step}
use Rattle.km_base.specs.declared.lines.Line.{Line}
use Rattle.km_base.specs.declared.lines.Line.TheVariants as line
use Rattle.km_model.specs.Answers.{answer, step_answer}
use Rattle.km_model.specs.Expansion.{steps, Finishes, ScansIfBegun, TicksOver, Makes, behind_line, due_by, run_at, is_idle, newest_is_done, world_after}
use Rattle.km_model.specs.Follows.{Run, first_run, happens, past_of, told_answer, told_value}
use Rattle.km_model.specs.Grammar.{line_of}
use Rattle.km_model.specs.History.{History}
use Rattle.km_model.specs.Output.{Script, Fresh, Begun, LeadsLine, LineThen, Prints, IsOut, is_fresh, line_text, lines_of}
use Rattle.km_model.specs.Past.{Place, is_loaded, last_load, running_scan, scans}
use Rattle.km_model.specs.Scan.{next}
use Rattle.km_model.specs.Text.{not_a_command_text}
use Rattle.km_model.specs.Verdict.{new_blocks}
use Rattle.km_model.proofs.FollowLaws.{scans_keep}
use Rattle.km_core.proofs.Cores.{one_more}
use Rattle.km_engine.specs.Steps.{IsFitLine}
use Rattle.km_engine.proofs.Fit.{read_is_fit}
use Rattle.km_engine.proofs.Histories.{IsSound, line_sound}
use Rattle.km_machine.proofs.Timely.{scan_paced}

-- a step that loads leaves less of the scan; each other one leaves no scan running
abbrev Falls : History → Answer → Type 0
Falls h a =
    (is_loaded a ≡ true → left (past_of (record { act = act.Step; answer = a } ∷ h)) + 1 ≤ left (past_of h))
    × (is_loaded a ≡ false → IsTrue (is_idle (record { act = act.Step; answer = a } ∷ h)))

step_falls : (words : ℕ) (h : History) (value : ℕ) → Falls h (answer words (past_of h) act.Step value)
unfolding answer
step_falls words h value =
    elim (running_scan (past_of h)) as (λ o. running_scan (past_of h) ≡ o → Falls h (elim o as (λ _. Answer) [ None ↦ Refused NoScanRunning | Some _ ↦ step_answer (past_of h) value ])) [
      | None ↦ λ e. (λ d. absurd (let z : ⊥ = cc in z), λ d. subst (λ o. IsTrue (is_none o)) (sym e) refl)
      | Some k ↦ λ e. loads (next (past_of h)) refl
    ] refl where
      loads : (o : Option Place) → next (past_of h) ≡ o → Falls h (elim o as (λ _. Answer) [ None ↦ Ended (scans (past_of h)) (length (new_blocks (past_of h))) | Some place ↦ Loaded place.word value ])
      loads None e = (λ d. absurd (let z : ⊥ = cc in z), λ d. refl)
      loads (Some place) e = (
        λ d. one_more (goes_on (last_load (past_of h)) place) (left (past_of (record { act = act.Step; answer = Loaded place.word value } ∷ h))) (left (past_of h)) (loads_lower h place value e),
        λ d. absurd (let z : ⊥ = cc in z),
      )

step_once : (n : ℕ) (run : Run) (q : Bool) → is_loaded (told_answer run act.Step) ≡ q
    → steps (suc n) run ≡ (elim q as (λ _. Run) [ true ↦ steps n (happens run act.Step) | false ↦ happens run act.Step ])
step_once n run q e = ap (λ q. elim q as (λ _. Run) [ true ↦ steps n (happens run act.Step) | false ↦ happens run act.Step ]) e

-- a scan ends
finishes : (fuel : ℕ) (run : Run) → left (past_of run.history) ≤ fuel → (run' : Run) × Finishes run run'
finishes zero run few = absurd (omega (arith, few))
finishes (suc fuel) run few =
    let falls = step_falls run.words run.history (told_value run act.Step) in
    elim (is_loaded (told_answer run act.Step)) as (λ q. is_loaded (told_answer run act.Step) ≡ q → (run' : Run) × Finishes run run') [
      | true ↦ λ e.
          let less = falls.0 e in
          let rest = finishes fuel (happens run act.Step) (omega (arith, less, few)) in
          (rest.0, (suc rest.1.0, step_once (suc rest.1.0) run true e ∙ rest.1.1, rest.1.2))
      | false ↦ λ e. (happens run act.Step, (0, step_once 0 run false e, falls.1 e))
    ] refl

scans_end : (run : Run) → (run' : Run) × ScansIfBegun run run'
scans_end run =
    elim (newest_is_done run.history) as (λ q. (run' : Run) × MatchBool q (Finishes run run') (run ≡ run')) [ true ↦ finishes (left (past_of run.history)) run (omega arith) | false ↦ (run, refl) ]

due_within : (target : ℕ) (o : Option ℕ) (due : ℕ) → (elim o as (λ _. Option ℕ) [ None ↦ None | Some m ↦ if nat_le m target then Some m else None ]) ≡ Some due
    → (o ≡ Some due) × (due ≤ target)
due_within target None due e = absurd (let z : ⊥ = cc in z)
due_within target (Some m) due e = by_test (nat_le m target) refl e
  where
    by_test : (q : Bool) → nat_le m target ≡ q → (if q then Some m else None) ≡ Some due → (Some m ≡ Some due) × (due ≤ target)
    by_test true t e = let same : m ≡ due = cc in let within : m ≤ target = grind (arith, nat_tests) in (e, omega (arith, same, within))
    by_test false t e = absurd (let z : ⊥ = cc in z)

-- each event of a run has its answer, whatever its loads brought
abbrev pub HasAnswers : Run → Type 0
HasAnswers run = IsAnswered run.words run.history

happens_answered : (run : Run) (a : _) → HasAnswers run → HasAnswers (happens run a)
happens_answered run a own = ((told_value run a, refl), own)

-- time moves to its target: each automatic scan is a second behind the last at least
abbrev Reaches : ℕ → Run → Type 0
Reaches target run = (run' : Run) × ((n : ℕ) × TicksOver target n run run')

ticks : (target fuel : ℕ) (run : Run) → HasAnswers run → ((m : ℕ) → (world_after run.history).due ≡ Some m → target < m + 1000 * fuel) → Reaches target run
ticks target zero run own far =
    elim (due_by target (world_after run.history)) as (λ o. due_by target (world_after run.history) ≡ o → Reaches target run) [
      | None ↦ λ e. (run_at run target, (0, (ap is_none e, refl)))
      | Some m ↦ λ e.
          let due = due_within target (world_after run.history).due m e in
          let within = due.1 in
          let beyond = far m due.0 in
          absurd (omega (arith, beyond, within))
    ] refl
ticks target (suc fuel) run own far =
    elim (due_by target (world_after run.history)) as (λ o. due_by target (world_after run.history) ≡ o → Reaches target run) [
      | None ↦ λ e. (run_at run target, (0, (ap is_none e, refl)))
      | Some m ↦ λ e.
          let due = due_within target (world_after run.history).due m e in
          let beyond = far m due.0 in
          let moved = run_at run m in
          let begun = happens moved act.AutoBegin in
          let scan = scans_end begun in
          let pace = scan_paced run scan.0 m own due.0 scan.1 in
          let now = pace.now in
          let own_behind = scans_keep HasAnswers happens_answered begun scan.0 scan.1 (happens_answered moved act.AutoBegin (happens_answered run _ own)) in
          let rest = ticks target fuel scan.0 own_behind (λ k is. let later = pace.next k is in omega (arith, beyond, now, later)) in
          (rest.0, (suc rest.1.0, (m, e, scan.0, scan.1, rest.1.1)))
    ] refl

-- a line leads to a run
pub makes : (run : Run) (c : Command) → HasAnswers run → (run' : Run) × Makes run c run'
makes run (Write (Some file.Scan)) own = scans_end (happens run (act.File file.Scan))
makes run (Step n) own = (steps n run, refl)
makes run Finish own = finishes (left (past_of run.history)) run (omega arith)
makes run (Tick n) own =
    let target = (world_after run.history).now + n in ticks target (suc target) run own (λ m is. omega arith)
makes run c own = (behind_line run c, refl)

leads : (m : Script) (l : Line) → IsFitLine (is_fresh m) l → IsSound m → (next : Script) × (text : List ℕ) × LeadsLine m l next text
leads m line.Blank fit sound = (m, [], (refl, refl))
leads Fresh (line.Command (Memory words)) fit sound = (Begun (first_run words), [], (refl, refl))
leads Fresh (line.Command _) fit sound = absurd fit
leads (Begun run) (line.Command c) fit sound =
    let made = makes run c (memory_answered run.words run.history sound.1.follows) in (Begun made.0, line_text run c made.0, (made.0, made.1, refl, refl))

prints : (ls : List (List ℕ)) (m : Script) (n : ℕ) → IsSound m → (end : Script) × (out : List ℕ) × Prints m n ls end out
prints [] m n sound = (m, [], (refl, refl))
prints (l ∷ ls) m n sound =
    elim (line_of (is_fresh m) l) as (λ r. line_of (is_fresh m) l ≡ r → (end : Script) × (out : List ℕ) × LineThen r m n (λ between e o. Prints between (n + 1) ls e o) end out) [
      | Err e ↦ λ read. (m, not_a_command_text n e.column, (refl, refl))
      | Ok x ↦ λ read.
          let fit = read_is_fit (is_fresh m) l x read in
          let next = leads m x fit sound in
          let rest = prints ls next.0 (n + 1) (line_sound m x next.0 next.1 fit next.2 sound) in
          (rest.0, next.1 ++ rest.1, (next.0, next.1, rest.1, next.2, rest.2, refl))
    ] refl

-- each script has an output
pub has_output : (bytes : List ℕ) → (out : List ℕ) × IsOut bytes out
has_output bytes = let run = prints (lines_of bytes) Fresh 1 tt in (run.1, (run.0, run.2))
