-- What a history leads to.
use Rattle.std.proofs.Common.{◌≡◌, ℕ, ◌+◌, ◌-◌, ◌*◌, ◌/◌, ◌%◌, ◌<◌, ◌≤◌, ◌&&◌, ◌==◌, Bool, true, false, nat_le, nat_lt, length, ◌∷◌, Option, Some, None, is_some, refl, sym, ap, ◌∙◌, subst, arith}
use Rattle.km_base.specs.declared.acts.Act.{Act}
use Rattle.km_model.specs.History.{History}
use Rattle.km_model.specs.Memory.{base, in_memory}
use Rattle.km_model.specs.Past.{Place, running_scan, world}
use Rattle.km_model.specs.Scan.{next}
use Rattle.km_model.specs.Follows.{Follows, past_of}
use Rattle.km_model.specs.Headline.{IsMemorySize}
use Rattle.km_state.specs.State.{State, Scanning, world_of}
use Rattle.km_state.specs.StateNext.{state_next, next_in}
use Rattle.km_state.specs.StateAnswers.{state_answer}
use Rattle.km_state.specs.StateAfter.{state_after}
use Rattle.km_state.specs.StandsFor.{StandsFor}
use Rattle.km_laws.specs.Laws.{IsPlaced}
use Rattle.km_reach.specs.Reached.{IsReached, StatesAreReached}
use Rattle.std.proofs.lemmas.Bool.{and_from, eq-eqb, lt-ltb, le-leb}
use Rattle.km_state.proofs.StandsLaws.{world_stands, next_stands}
use Rattle.km_state.proofs.ValueLaws.{call_law}
use Rattle.km_laws.proofs.Laws.{all_is_placed}
use Rattle.km_laws.proofs.NextWord.{next_is_a_word}
use Rattle.km_laws.proofs.Few.{names_are_few}

-- a word of the memory, by its number
word_is_in : (words i a : ℕ) → i < words → a ≡ base + 8 * i → in_memory words a ≡ true
word_is_in words i a low is =
    and_from (nat_le base a && (a - base) % 8 == 0) (nat_lt (a - base) (8 * words))
    (and_from (nat_le base a) ((a - base) % 8 == 0) (le-leb base a (omega (arith, is))) (eq-eqb ((a - base) % 8) 0 (omega (arith, is))))
    (lt-ltb (a - base) (8 * words) (omega (arith, is, low)))

-- what stands at a moment is placed, also as a state has it
placed : (words : ℕ) (h : History) (s : State) → IsMemorySize words → Follows words h → StandsFor words h s → IsPlaced words (world_of s)
placed words h s size f r = subst (λ w. IsPlaced words w) (sym (world_stands words h s r)) (all_is_placed words h size f)

-- a state with a next load has a running scan
running : (s : State) (p : Place) → state_next s ≡ Some p → is_some s.scan ≡ true
unfolding state_next
running s p e =
    elim s.scan as (λ o. elim o as (λ _. Option Place) [ None ↦ None | Some c ↦ next_in s c ] ≡ Some p → is_some o ≡ true) [
      | None ↦ λ f. absurd (let z : ⊥ = cc in z)
      | Some _ ↦ λ _. refl
    ] e

some_number : (o : Option ℕ) → is_some o ≡ true → (k : ℕ) × (o ≡ Some k)
some_number None e = absurd (let z : ⊥ = cc in z)
some_number (Some k) e = (k, refl)

next_in_memory : (words : ℕ) (h : History) (s : State) (p : Place) → IsMemorySize words → Follows words h → StandsFor words h s → state_next s ≡ Some p → in_memory words p.word ≡ true
next_in_memory words h s p size f r e =
    let k = some_number (running_scan (past_of h)) (sym r.running ∙ running s p e) in
    let w = next_is_a_word words h p size f (sym (next_stands words h s k.0 r k.1) ∙ e) in
    word_is_in words w.0 p.word w.1 w.2

pub states_are_reached : StatesAreReached
states_are_reached words h s size f r =
    let few = names_are_few h in
    let registered = few.registered in let started = few.started in let scans = few.scans in
    let events = r.events in let a = r.registered in let b = r.started in let c = r.scans in
    record {
      memory = subst (λ n. IsMemorySize n) (sym r.memory) size;
      placed = subst (λ n. IsPlaced n (world_of s)) (sym r.memory) (placed words h s size f r);
      after = λ act value low.
          let call = call_law words h s act value r f low in
          subst (λ n. IsPlaced n (world_of (state_after s act (state_answer s act value)))) (sym r.memory)
          (placed words (record { act = act; answer = state_answer s act value } ∷ h) (state_after s act (state_answer s act value)) size call.1 call.0);
      next = λ p e. subst (λ n. in_memory n p.word ≡ true) (sym r.memory) (next_in_memory words h s p size f r e);
      registered = omega (arith, registered, events, a);
      started = omega (arith, started, events, b);
      scans = omega (arith, scans, events, c);
    }
