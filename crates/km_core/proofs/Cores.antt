-- A core goes from history to history.
use Rattle.std.proofs.Common.{◌≡◌, ℕ, ◌+◌, ◌<◌, ◌≤◌, ◌^◌, Bool, true, false, length, [], ◌∷◌, Option, Some, None, if◌then◌else◌, refl, sym, ap, ◌∙◌, subst, arith}
use Rattle.km_base.specs.declared.acts.Act.{Act}
use Rattle.km_base.specs.declared.acts.Act.TheVariants.{Step}
use Rattle.km_base.specs.declared.acts.Answer.{Answer}
use Rattle.km_base.specs.declared.acts.Answer.TheVariants.{At, Done, Dumped, Ended, Loaded, Skipped, Stopped, Refused}
use Rattle.km_base.specs.declared.acts.Refusal.TheVariants.{NoScanRunning}
use Rattle.km_model.specs.History.{History, value_of}
use Rattle.km_model.specs.Answers.{answer, step_answer}
use Rattle.km_model.specs.Past.{Place, is_loaded, running_scan, last_load, scans}
use Rattle.km_model.specs.Scan.{next}
use Rattle.km_model.specs.Verdict.{new_blocks}
use Rattle.km_model.specs.Follows.{Follows, moment, past_of}
use Rattle.km_laws.specs.Laws.{goes_on}
use Rattle.km_laws.specs.Left.{left}
use Rattle.km_laws.proofs.Laws.{loads_lower}
use Rattle.km_state.specs.State.{State, opened}
use Rattle.km_state.specs.StateAnswers.{state_answer}
use Rattle.km_state.specs.StateAfter.{state_after}
use Rattle.km_state.specs.StandsFor.{StandsFor}
use Rattle.km_state.proofs.StandsLaws.{answer_stands, opened_stands}
use Rattle.km_state.proofs.ValueLaws.{call_law}
use Rattle.km_reach.specs.Reached.{IsReached}
use Rattle.km_reach.proofs.Reached.{states_are_reached}
use Rattle.km_words.specs.Told.{Told}
use Rattle.km_core.specs.Cores.{IsAnswered, IsCore, Seen, Stands}
use Rattle.km_core.specs.Parts.{Answers, IsReady, IsWhole, Parts, StandsAs, Touches}

-- a state for which a core stands is one that a history leads to
reached : (c : Seen) (h : History) (s : State) → IsWhole c.parts → Stands c h s → IsReached s
reached c h s w r = states_are_reached c.parts.words h s w.memory r.follows r.history

-- so its kernel is ready for an act
pub ready : (c : Seen) → IsCore c → c.events < 2 ^ 62 → IsReady c.parts
ready c i few = record {
  state = i.state;
  stands = i.stands.parts;
  reached = reached c i.past i.state i.whole i.stands;
  few = (let a = i.stands.events in let b = i.stands.history.events in omega (arith, few, a, b));
  whole = i.whole;
}

-- the value of a load is a word's
in_range : (act : Act) (given : Answer) (t u : Told) → Touches act given t u → value_of given < 2 ^ 64
in_range act (Loaded a v) t u r = r.range
in_range act Done t u r = omega arith
in_range act (At a) t u r = omega arith
in_range act (Ended k n) t u r = omega arith
in_range act (Stopped k) t u r = omega arith
in_range act Skipped t u r = omega arith
in_range act (Dumped i) t u r = omega arith
in_range act (Refused x) t u r = omega arith

-- it answers as its state does, and stands for the history with the event
pub answers_now : (c : Seen) (q : Parts) (act : Act) (given : Answer) (h : History) (s : State) → IsWhole c.parts → Answers c.parts q act given → Stands c h s → given ≡ state_answer s act (value_of given)
answers_now c q act given h s w a r = a.answer s r.parts (reached c h s w r)

pub stands_next : (c : Seen) (q : Parts) (act : Act) (given : Answer) (t u : Told) (h : History) (s : State) → IsWhole c.parts → Answers c.parts q act given → Touches act given t u → Stands c h s
    → Stands (record { events = c.events + 1; parts = q }) (record { act = act; answer = given } ∷ h) (state_after s act given)
stands_next c q act given t u h s w a touches r =
    let is = answers_now c q act given h s w a r in
    let call = call_law c.parts.words h s act (value_of given) r.history r.follows (in_range act given t u touches) in
    let stands = subst (λ x. StandsFor c.parts.words (record { act = act; answer = x } ∷ h) (state_after s act x)) (sym is) call.0 in
    let follows = subst (λ x. Follows c.parts.words (record { act = act; answer = x } ∷ h)) (sym is) call.1 in
    record {
      events = (let e = r.events in omega (arith, e));
      follows = subst (λ n. Follows n (record { act = act; answer = given } ∷ h)) (sym a.words) follows;
      history = subst (λ n. StandsFor n (record { act = act; answer = given } ∷ h) (state_after s act given)) (sym a.words) stands;
      parts = a.state s r.parts (reached c h s w r);
    }

pub core_next : (c : Seen) (q : Parts) (act : Act) (given : Answer) (t u : Told) → IsCore c → Answers c.parts q act given → Touches act given t u → IsCore (record { events = c.events + 1; parts = q })
core_next c q act given t u i a touches = record {
  past = record { act = act; answer = given } ∷ i.past;
  state = state_after i.state act given;
  stands = stands_next c q act given t u i.past i.state i.whole a touches i.stands;
  whole = a.whole;
}

pub history_answer : (c : Seen) (q : Parts) (act : Act) (given : Answer) (h : History) (s : State) → IsWhole c.parts → Answers c.parts q act given → Stands c h s → given ≡ answer c.parts.words (past_of h) act (value_of given)
history_answer c q act given h s w a r = answers_now c q act given h s w a r ∙ answer_stands c.parts.words h s act (value_of given) r.history

pub one_more : (q : Bool) (n m : ℕ) → n + (if q then 1 else 2) ≤ m → n + 1 ≤ m
one_more true n m e = e
one_more false n m e = omega (arith, e)

-- a load of the scan leaves less of it
step_lowers : (words : ℕ) (h : History) (given : Answer) → is_loaded given ≡ true → given ≡ answer words (past_of h) Step (value_of given) → left (moment (past_of h) Step given ∷ past_of h) + 1 ≤ left (past_of h)
unfolding answer
step_lowers words h given loaded is =
    elim (running_scan (past_of h)) as (λ o. given ≡ (elim o as (λ _. Answer) [ None ↦ Refused NoScanRunning | Some _ ↦ step_answer (past_of h) (value_of given) ]) → left (moment (past_of h) Step given ∷ past_of h) + 1 ≤ left (past_of h)) [
      | None ↦ λ e. absurd (let bad : true ≡ false = sym loaded ∙ ap is_loaded e in let z : ⊥ = cc in z)
      | Some k ↦ λ e. stepped (next (past_of h)) refl e
    ] is where
      stepped : (o : Option Place) → next (past_of h) ≡ o → given ≡ step_answer (past_of h) (value_of given) → left (moment (past_of h) Step given ∷ past_of h) + 1 ≤ left (past_of h)
      stepped None n e = absurd (let bad : true ≡ false = sym loaded ∙ ap is_loaded (e ∙ ap (λ o. elim o as (λ _. Answer) [ None ↦ Ended (scans (past_of h)) (length (new_blocks (past_of h))) | Some place ↦ Loaded place.word (value_of given) ]) n) in let z : ⊥ = cc in z)
      stepped (Some place) n e =
          let given_is : given ≡ Loaded place.word (value_of given) = e ∙ ap (λ o. elim o as (λ _. Answer) [ None ↦ Ended (scans (past_of h)) (length (new_blocks (past_of h))) | Some place ↦ Loaded place.word (value_of given) ]) n in
          let low = loads_lower h place (value_of given) n in
          let falls = one_more (goes_on (last_load (past_of h)) place) (left (moment (past_of h) Step (Loaded place.word (value_of given)) ∷ past_of h)) (left (past_of h)) low in
          subst (λ x. left (moment (past_of h) Step x ∷ past_of h) + 1 ≤ left (past_of h)) (sym given_is) falls

pub left_falls : (c : Seen) (q : Parts) (act : Act) (given : Answer) (h : History) (s : State) → IsWhole c.parts → Answers c.parts q act given → Stands c h s → is_loaded given ≡ true → act ≡ Step
    → left (moment (past_of h) act given ∷ past_of h) + 1 ≤ left (past_of h)
left_falls c q act given h s w a r loaded is =
    let step = subst (λ x. given ≡ answer c.parts.words (past_of h) x (value_of given)) is (history_answer c q act given h s w a r) in
    subst (λ x. left (moment (past_of h) x given ∷ past_of h) + 1 ≤ left (past_of h)) (sym is) (step_lowers c.parts.words h given loaded step)

-- a core that has answered an act
pub core_answered : (c : Seen) (q : Parts) (act : Act) (given : Answer) (t u : Told) → IsWhole c.parts → Answers c.parts q act given → Touches act given t u
    → IsAnswered c (record { events = c.events + 1; parts = q }) act given t u
core_answered c q act given t u w a touches = record {
  answer = λ h s r. answers_now c q act given h s w a r;
  stands = λ h s r. stands_next c q act given t u h s w a touches r;
  history = λ h s r. history_answer c q act given h s w a r;
  left = λ h s r loaded is. left_falls c q act given h s w a r loaded is;
  touches = touches;
  words = a.words;
  events = refl;
  now = a.now;
}

-- a core that was booted stands for no events
pub core_booted : (words : ℕ) (p : Parts) → StandsAs p (opened words) → IsWhole p → IsCore (record { events = 0; parts = p })
core_booted words p stands whole = record {
  past = [];
  state = opened words;
  stands = record {
    events = refl;
    follows = tt;
    history = subst (λ n. StandsFor n [] (opened words)) stands.hosts.memory (opened_stands words);
    parts = stands;
  };
  whole = whole;
}
