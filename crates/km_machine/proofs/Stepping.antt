-- A scanner's steps.
use Rattle.std.proofs.Common.{◌≡◌, ℕ, suc, ◌+◌, ◌-◌, ◌<◌, ◌≤◌, Bool, true, false, ◌∷◌, length, Option, Some, None, is_none, IsTrue, Result, refl, sym, ap, ◌∙◌, subst, arith}
use Rattle.km_base.specs.declared.acts.Act.TheVariants.{Step}
use Rattle.km_base.specs.declared.acts.Answer.{Answer}
use Rattle.km_base.specs.declared.acts.Answer.TheVariants.{Ended, Loaded, Refused}
use Rattle.km_base.specs.declared.acts.Refusal.TheVariants.{NoScanRunning}
use Rattle.km_edge.specs.declared.errors.Failed.{Failed}
use Rattle.km_edge.specs.Streams.{SinkState}
use Rattle.km_model.specs.History.{History}
use Rattle.km_model.specs.Headline.{IsMemorySize}
use Rattle.km_model.specs.Past.{Place, is_loaded, last_load, running_scan, scans, world}
use Rattle.km_model.specs.Scan.{next}
use Rattle.km_model.specs.Verdict.{new_blocks}
use Rattle.km_model.specs.Answers.{answer, step_answer}
use Rattle.km_model.specs.Follows.{Run, Follows, happens, past_of, told_answer, told_value}
use Rattle.km_model.specs.Expansion.{Finishes, is_idle, steps}
use Rattle.km_laws.specs.Laws.{goes_on}
use Rattle.km_laws.specs.Left.{left}
use Rattle.km_laws.proofs.Laws.{all_is_placed, left_is_bounded, loads_lower}
use Rattle.km_core.proofs.Cores.{one_more}
use Rattle.km_core.proofs.Places.{bytes_most}
use Rattle.km_machine.specs.Machines.{Simulation, For}
use Rattle.km_machine.specs.Lines.{SoFar}
use Rattle.km_machine.specs.Sayings.{Saying}
use Rattle.km_machine.specs.Scans.{Stepped}

-- the answer to a step: a load, which leaves less of the scan, or what leaves no scan running
record IsStep (h : History) (last : Answer) : Type 0 where
  loaded : is_loaded last ≡ true → left (past_of (record { act = Step; answer = last } ∷ h)) + 1 ≤ left (past_of h)
  stopped : ((a v : ℕ) → last ≡ Loaded a v → ⊥) → (is_loaded last ≡ false) × IsTrue (is_idle (record { act = Step; answer = last } ∷ h))

is_step : (words : ℕ) (h : History) (value : ℕ) → IsStep h (answer words (past_of h) Step value)
unfolding answer
is_step words h value =
    elim (running_scan (past_of h)) as (λ o. running_scan (past_of h) ≡ o → IsStep h (elim o as (λ _. Answer) [ None ↦ Refused NoScanRunning | Some _ ↦ step_answer (past_of h) value ])) [
      | None ↦ λ e. record {
        loaded = λ d. absurd (let z : ⊥ = cc in z);
        stopped = λ _. (refl, subst (λ o. IsTrue (is_none o)) (sym e) refl);
      }
      | Some k ↦ λ e. stepped (next (past_of h)) refl
    ] refl where
      stepped : (o : Option Place) → next (past_of h) ≡ o → IsStep h (elim o as (λ _. Answer) [ None ↦ Ended (scans (past_of h)) (length (new_blocks (past_of h))) | Some place ↦ Loaded place.word value ])
      stepped None e = record {
        loaded = λ d. absurd (let z : ⊥ = cc in z);
        stopped = λ _. (refl, refl);
      }
      stepped (Some place) e = record {
        loaded = λ _. one_more (goes_on (last_load (past_of h)) place) (left (past_of (record { act = Step; answer = Loaded place.word value } ∷ h))) (left (past_of h)) (loads_lower h place value e);
        stopped = λ other. absurd (other place.word value refl);
      }

-- what is left of a scan has a bound
left_few : (words : ℕ) (h : History) → IsMemorySize words → Follows words h → left (past_of h) < 33554432
left_few words h size follows =
    let placed = all_is_placed words h size follows in
    let blocks = bytes_most (world (past_of h)).used (world (past_of h)).blocks placed.blocks in
    let most = left_is_bounded words h size follows in
    omega (arith, blocks, most, placed.room, size.1)

-- so many steps have loaded
pub record Stepping (says : Saying) (first run : Run) (most made : ℕ) (machine : Simulation) (k k' : SinkState) (written : Result (Unit {0}) Failed) : Type 0 where
  pub behind : Run
  pub makes : (n : ℕ) → made + n ≡ most → steps n behind ≡ steps most run
  pub so_far : SoFar says first behind machine k k' written
  pub lowers : left (past_of behind.history) + made ≤ left (past_of run.history)

pub stepping_none : (says : Saying) (first run : Run) (most : ℕ) (machine : Simulation) (k k' : SinkState) (written : Result (Unit {0}) Failed)
    → SoFar says first run machine k k' written → Stepping says first run most 0 machine k k' written
stepping_none says first run most machine k k' written s = record {
  behind = run;
  makes = λ n e. ap (λ k. steps k run) (omega (arith, e));
  so_far = s;
  lowers = omega arith;
}

-- the same of equal machines, sinks and results
pub stepping_as : (says : Saying) (first run : Run) (most made : ℕ) (machine other : Simulation) (k k' k'' : SinkState) (written result : Result (Unit {0}) Failed)
    → other ≡ machine → k'' ≡ k' → result ≡ written → Stepping says first run most made machine k k' written → Stepping says first run most made other k k'' result
stepping_as says first run most made machine other k k' k'' written result same_machine same_sink same_result s =
    subst (λ x. Stepping says first run most made x k k'' result) (sym same_machine)
    (subst (λ x. Stepping says first run most made machine k x result) (sym same_sink)
    (subst (λ x. Stepping says first run most made machine k k' x) (sym same_result) s))

-- where all have loaded
pub all_loaded : (says : Saying) (first run : Run) (most : ℕ) (machine : Simulation) (k k' : SinkState) (written : Result (Unit {0}) Failed)
    → Stepping says first run most most machine k k' written → Stepped says first run most machine k k' written
all_loaded says first run most machine k k' written s = record {
  behind = s.behind;
  makes = sym (s.makes 0 (omega arith));
  so_far = s.so_far;
  ended = λ few. absurd (let lowers = s.lowers in omega (arith, few, lowers));
}

step_once : (n : ℕ) (run : Run) (q : Bool) → is_loaded (told_answer run Step) ≡ q
    → steps (suc n) run ≡ (elim q as (λ _. Run) [ true ↦ steps n (happens run Step) | false ↦ happens run Step ])
step_once n run q e = ap (λ q. elim q as (λ _. Run) [ true ↦ steps n (happens run Step) | false ↦ happens run Step ]) e

module _ (says : Saying) (first run : Run) (most made : ℕ) (machine next : Simulation) (k k' k'' : SinkState) (written result : Result (Unit {0}) Failed) (last : Answer)
    (s : Stepping says first run most made machine k k' written) (within : made < most)
    (answered : last ≡ told_answer s.behind Step)
    (happened : SoFar says first (happens s.behind Step) next k k'' result) where
  step_was : IsStep s.behind.history (told_answer s.behind Step)
  step_was = is_step s.behind.words s.behind.history (told_value s.behind Step)

  -- a step that loads
  pub stepping_more : is_loaded last ≡ true → Stepping says first run most (made + 1) next k k'' result
  stepping_more e =
      let loaded = sym (ap is_loaded answered) ∙ e in
      let falls = step_was.loaded loaded in
      record {
        behind = happens s.behind Step;
        makes = λ n is. sym (step_once n s.behind true loaded) ∙ s.makes (suc n) (omega (arith, is));
        so_far = happened;
        lowers = omega (arith, falls, s.lowers);
      }

  -- one that doesn't
  pub stepped_last : ((a v : ℕ) → last ≡ Loaded a v → ⊥) → Stepped says first run most next k k'' result
  stepped_last other =
      let stopped = step_was.stopped (λ a v e. other a v (answered ∙ e)) in
      let n : ℕ = most - suc made in
      record {
        behind = happens s.behind Step;
        makes = sym (s.makes (suc n) (omega (arith, within))) ∙ step_once n s.behind false stopped.0;
        so_far = happened;
        ended = λ _. stopped.1;
      }

-- more steps than a scan has end it
pub finished : (says : Saying) (first run : Run) (most : ℕ) (machine next : Simulation) (k k' : SinkState) (written : Result (Unit {0}) Failed) → For machine run
    → (s : Stepped says first run (suc most) next k k' written) → 33554432 ≤ suc most → Finishes run s.behind
finished says first run most machine next k k' written f s many = (
  most,
  s.makes,
  s.ended (let few = left_few machine.core.parts.words run.history f.size f.stands.follows in omega (arith, few, many)),
)
