-- Mutators that run with no one else at work.
use Rattle.std.proofs.Common.{◌≡◌, ℕ, ◌+◌, ◌≤◌, ◌<◌, Bool, true, false, ◌||◌, nat_le, List, [], ◌∷◌, ◌++◌, length, Option, Some, None, refl, sym, ◌∙◌, ap, subst, arith, leb-true, leb-false}
use Rattle.std.proofs.lemmas.List.{length-append}
use Rattle.km_base.specs.declared.acts.Act.{Act}
use Rattle.km_base.specs.declared.acts.Act.TheVariants as act
use Rattle.km_base.specs.declared.acts.Answer.{Answer}
use Rattle.km_base.specs.declared.acts.Answer.TheVariants.{At}
use Rattle.km_model.specs.Memory.{in_memory, word_at}
use Rattle.km_model.specs.Members.{Each}
use Rattle.km_model.specs.Past.{is_loaded}
use Rattle.km_model.specs.Follows.{Run, Follows, told_answer}
use Rattle.km_model.proofs.Cases.{elim_false, none_some, some_same}
use Rattle.km_words.specs.Told.{WordStep, LoadStep, StoreStep}
use Rattle.km_laws.specs.Laws.{may_load}
use Rattle.km_rounds.specs.Orders.{IsLegal}
use Rattle.km_rounds.specs.declared.entry.Entry.{Entry}
use Rattle.km_rounds.specs.Journals.{Journal, with_journal}
use Rattle.km_live_model.specs.declared.jobs.JobLine.{JobLine}
use Rattle.km_live_model.specs.declared.jobs.JobLine.TheVariants.{Set, Load, Store, Erase, Kmalloc, Kzalloc, Kfree, NotLeak, Ignore, NoScan, ScanArea}
use Rattle.km_live_model.specs.Courses.{Mutator, Course, Makes, act_in, entry_of, leaves_out, made_at, registers_after, steps_in, value_in, zeroed}
use Rattle.km_live_model.specs.Lives.{with_round}
use Rattle.km_schedules.specs.Schedules.{IsSoundRun}
use Rattle.km_schedules.proofs.Parts.{AllBy, all_both, by_hand, each_append, entry_by}
use Rattle.km_schedules.proofs.Words.{at_legal, by_hand_both, by_hand_stores, legal_both, line_stores, zeroed_legal}
use Rattle.km_schedules.proofs.Events.{block_lies, event_follows, round_both, round_sound, unloaded}

-- no entry is a load
abbrev pub AreUnloaded : Journal → Type 0
AreUnloaded journal = Each (λ (e : Entry). is_loaded e.answer ≡ false) journal

-- what a mutator makes after so many entries, where a journal has room for no more than the limit
pub record PartRuns (by limit : ℕ) (r : Run) (used : ℕ) (Made : List WordStep → Journal → Mutator → Type 0) : Type 0 where
  pub steps : List WordStep
  pub journal : Journal
  pub after : Mutator
  pub made : Made steps journal after
  pub one : AllBy by journal
  pub loads : AreUnloaded journal
  pub legal : IsLegal r.memory (by_hand by steps)
  pub sound : IsSoundRun (with_round r journal (by_hand by steps))
  pub room : used + length journal ≤ limit
  pub full : after.full ≡ true → limit ≤ used + length journal  -- where an act was left out

-- the answer of an act, if there is one and room for it
record ActRuns (by limit : ℕ) (r : Run) (used : ℕ) (full : Bool) (o : Option Act) : Type 0 where
  given : Option Answer
  last : full ≡ true → entry_of by o given ≡ []
  loads : AreUnloaded (entry_of by o given)
  follows : Follows r.words (with_journal r.history (entry_of by o given))
  room : used + length (entry_of by o given) ≤ limit
  cut : (full || leaves_out o given) ≡ true → limit ≤ used + length (entry_of by o given)
  zeroes : (size : ℕ) → o ≡ Some (act.Kmalloc size) → IsLegal r.memory (by_hand by (zeroed size (made_at given)))

-- an act that can't load, if there is one
abbrev LoadsNothing : Option Act → Type 0
LoadsNothing None = Unit {0}
LoadsNothing (Some what) = may_load what ≡ false

left_true : (full : Bool) → (full || false) ≡ true → full ≡ true
left_true true e = refl
left_true false e = absurd (elim_false e)

-- the words of a block that was given
zeroes_given : (by : ℕ) (r : Run) (what : Act) (size : ℕ) → IsSoundRun r → what ≡ act.Kmalloc size
    → IsLegal r.memory (by_hand by (zeroed size (made_at (Some (told_answer r what)))))
zeroes_given by r what size s same = go (told_answer r what) refl
  where
    go : (x : Answer) → told_answer r what ≡ x → IsLegal r.memory (by_hand by (zeroed size (made_at (Some x))))
    go (At a) e = zeroed_legal r.words by size a r.memory s.whole (block_lies r size a s (subst (λ w. told_answer r w ≡ At a) same e))
    go _ e = tt

act_runs : (by limit : ℕ) (r : Run) (used : ℕ) (full : Bool) (o : Option Act) → LoadsNothing o → IsSoundRun r → used ≤ limit → (full ≡ true → limit ≤ used)
    → ActRuns by limit r used full o
act_runs by limit r used full None may s le f = record {
  given = None;
  last = λ e. refl;
  loads = tt;
  follows = s.follows;
  room = omega (arith, le);
  cut = λ e. let g = f (left_true full e) in omega (arith, g);
  zeroes = λ size e. absurd (none_some (act.Kmalloc size) e);
}
act_runs by limit r used full (Some what) may s le f =
    elim (nat_le limit used) as (λ q. nat_le limit used ≡ q → ActRuns by limit r used full (Some what)) [
      | true ↦ λ e. record {
        given = None;
        last = λ _. refl;
        loads = tt;
        follows = s.follows;
        room = omega (arith, le);
        cut = λ _. (let g = leb-true limit used e in omega (arith, g));
        zeroes = λ size same. tt;
      }
      | false ↦ λ e.
          let free : used < limit = leb-false limit used e in
          record {
            given = Some (told_answer r what);
            last = λ x. absurd (let g = f x in omega (arith, g, free));
            loads = (unloaded r what may, tt);
            follows = event_follows r what s;
            room = omega (arith, free);
            cut = λ x. absurd (let g = f (left_true full x) in omega (arith, g, free));
            zeroes = λ size same. zeroes_given by r what size s (some_same what (act.Kmalloc size) same);
          }
    ] refl

-- the word that a line loads
abbrev value_for : Run → List ℕ → JobLine → ℕ
value_for r registers (Load reg addr) = word_at r.memory (value_in registers addr)
value_for r registers _ = 0

line_loads : (registers : List ℕ) (line : JobLine) → LoadsNothing (act_in registers line)
line_loads registers (Set _ _) = tt
line_loads registers (Load _ _) = tt
line_loads registers (Store _ _) = tt
line_loads registers (Erase _) = tt
line_loads registers (Kmalloc _ _) = refl
line_loads registers (Kzalloc _ _) = refl
line_loads registers (Kfree _) = refl
line_loads registers (NotLeak _) = refl
line_loads registers (Ignore _) = refl
line_loads registers (NoScan _) = refl
line_loads registers (ScanArea _ _) = refl

line_legal : (by : ℕ) (r : Run) (registers : List ℕ) (line : JobLine) (given : Option Answer) → length r.memory ≡ r.words
    → ((size : ℕ) → act_in registers line ≡ Some (act.Kmalloc size) → IsLegal r.memory (by_hand by (zeroed size (made_at given))))
    → IsLegal r.memory (by_hand by (steps_in r.words registers line (value_for r registers line) given))
line_legal by r registers (Load reg addr) given whole zeroes =
    let a : ℕ = value_in registers addr in
    at_legal r.words by a r.memory (LoadStep a (word_at r.memory a)) (λ e. (subst (λ n. in_memory n a ≡ true) (sym whole) e, refl))
line_legal by r registers (Store addr new) given whole zeroes =
    let a : ℕ = value_in registers addr in
    at_legal r.words by a r.memory (StoreStep a (value_in registers new)) (λ e. subst (λ n. in_memory n a ≡ true) (sym whole) e)
line_legal by r registers (Erase addr) given whole zeroes =
    let a : ℕ = value_in registers addr in
    at_legal r.words by a r.memory (StoreStep a 0) (λ e. subst (λ n. in_memory n a ≡ true) (sym whole) e)
line_legal by r registers (Kzalloc size _) given whole zeroes = zeroes size refl
line_legal by r registers _ given whole zeroes = tt

line_runs : (by limit : ℕ) (r : Run) (used : ℕ) (m : Mutator) (line : JobLine) → IsSoundRun r → used ≤ limit → (m.full ≡ true → limit ≤ used)
    → PartRuns by limit r used (Makes r.words by m line)
line_runs by limit r used m line s le f =
    let o : Option Act = act_in m.registers line in
    let a : ActRuns by limit r used m.full o = act_runs by limit r used m.full o (line_loads m.registers line) s le f in
    let steps : List WordStep = steps_in r.words m.registers line (value_for r m.registers line) a.given in
    record {
      steps = steps;
      journal = entry_of by o a.given;
      after = record {
        registers = registers_after r.words m.registers line (value_for r m.registers line) a.given;
        full = m.full || leaves_out o a.given;
      };
      made = record {
        value = value_for r m.registers line;
        answer = a.given;
        made_steps = refl;
        made_entries = refl;
        registers = refl;
        full = refl;
        last = a.last;
      };
      one = entry_by by o a.given;
      loads = a.loads;
      legal = line_legal by r m.registers line a.given s.whole a.zeroes;
      sound = round_sound r (entry_of by o a.given) (by_hand by steps) s
          (by_hand_stores by steps (line_stores r.words m.registers line (value_for r m.registers line) a.given)) a.follows;
      room = a.room;
      full = a.cut;
    }

-- the lines of a mutator
pub lines_run : (by limit : ℕ) (r : Run) (used : ℕ) (m : Mutator) (lines : List JobLine) → IsSoundRun r → used ≤ limit → (m.full ≡ true → limit ≤ used)
    → PartRuns by limit r used (Course r.words by m lines)
lines_run by limit r used m [] s le f = record {
  steps = [];
  journal = [];
  after = m;
  made = (refl, refl, refl);
  one = tt;
  loads = tt;
  legal = tt;
  sound = s;
  room = omega (arith, le);
  full = λ e. let g = f e in omega (arith, g);
}
lines_run by limit r used m (line ∷ lines) s le f =
    let first : PartRuns by limit r used (Makes r.words by m line) = line_runs by limit r used m line s le f in
    let between : Run = with_round r first.journal (by_hand by first.steps) in
    let rest : PartRuns by limit between (used + length first.journal) (Course r.words by first.after lines) =
    lines_run by limit between (used + length first.journal) first.after lines first.sound first.room first.full in
    let e : length (first.journal ++ rest.journal) ≡ length first.journal + length rest.journal = length-append first.journal rest.journal in
    record {
      steps = first.steps ++ rest.steps;
      journal = first.journal ++ rest.journal;
      after = rest.after;
      made = (first.steps, rest.steps, first.journal, rest.journal, first.after, first.made, rest.made, refl, refl);
      one = all_both by first.journal rest.journal first.one rest.one;
      loads = each_append (λ (x : Entry). is_loaded x.answer ≡ false) first.journal rest.journal first.loads rest.loads;
      legal = subst (λ o. IsLegal r.memory o) (sym (by_hand_both by first.steps rest.steps))
          (legal_both r.memory (by_hand by first.steps) (by_hand by rest.steps) first.legal rest.legal);
      sound = subst (λ x. IsSoundRun x)
          (round_both r first.journal rest.journal (by_hand by first.steps) (by_hand by rest.steps)
          ∙ ap (λ o. with_round r (first.journal ++ rest.journal) o) (sym (by_hand_both by first.steps rest.steps))) rest.sound;
      room = let g = rest.room in omega (arith, e, g);
      full = λ x. let g = rest.full x in omega (arith, e, g);
    }
