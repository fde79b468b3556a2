-- A round whose workers run one after another, as a function: what a row needs to name its journal and its order.
use Rattle.std.proofs.Common.{◌≡◌, ℕ, zero, suc, ◌+◌, ◌^◌, ◌==◌, Bool, true, false, ◌&&◌, ◌||◌, nat_le, nat_lt, List, [], ◌∷◌, ◌++◌, length, Option, Some, None, if◌then◌else◌, refl, sym, ◌∙◌, ap, subst, eqb-true, leb-true, ltb-true}
use Rattle.std.specs.List.{list_all}
use Rattle.std.proofs.lemmas.Bool.{and_parts}
use Rattle.km_base.specs.declared.acts.Act.{Act}
use Rattle.km_base.specs.declared.acts.Act.TheVariants as act
use Rattle.km_base.specs.declared.acts.FileCmd.TheVariants as file
use Rattle.km_base.specs.declared.acts.Answer.{Answer}
use Rattle.km_base.specs.declared.acts.Answer.TheVariants.{Done, At, Loaded, Ended, Stopped, Refused}
use Rattle.km_base.specs.declared.acts.Refusal.TheVariants.{NotAllocated}
use Rattle.km_model.specs.History.{History, value_of}
use Rattle.km_model.specs.Memory.{in_memory, word_at}
use Rattle.km_model.specs.Members.{Each}
use Rattle.km_model.specs.Past.{Past}
use Rattle.km_model.specs.Answers.{answer, loads_from}
use Rattle.km_model.specs.Follows.{Follows, moment, past_of}
use Rattle.km_model.proofs.Cases.{elim_false}
use Rattle.km_words.specs.Told.{WordStep, LoadStep, StoreStep}
use Rattle.km_live_model.specs.declared.jobs.JobLine.{JobLine}
use Rattle.km_live_model.specs.declared.jobs.JobLine.TheVariants.{Load}
use Rattle.km_rounds.specs.Orders.{Order, IsLegal, IsLegalStep, words_after_step}
use Rattle.km_rounds.specs.declared.entry.Entry.{Entry}
use Rattle.km_rounds.specs.Journals.{Journal, event_of, with_journal}
use Rattle.km_live_model.specs.Courses.{Mutator, Course, Stage, AtTick, AtBegin, AtStep, Halted, act_in, entry_of, leaves_out, registers_after, stage_after, steps_in, value_in}
use Rattle.km_live_model.specs.Rounds.{IsWorker}

-- what stands, what the words hold, and how many entries there are
pub record Now : Type 0 where
  pub past : Past
  pub memory : List ℕ
  pub used : ℕ

-- the answer of an act
abbrev pub answer_now : ℕ → Now → Act → Answer
answer_now words n what = answer words n.past what (elim (loads_from n.past what) [ None ↦ 0 | Some a ↦ word_at n.memory a ])

-- after an entry
abbrev pub after_entry : Now → Act → Answer → Now
after_entry n what given = record n { past = moment n.past what given ∷ n.past; used = n.used + 1 }

-- what a mutator's act is answered, if there is room for it
abbrev pub answer_to : ℕ → ℕ → Now → Option Act → Option Answer
answer_to words limit n None = None
answer_to words limit n (Some what) = if nat_le limit n.used then None else Some (answer_now words n what)

abbrev pub after_act : Now → Option Act → Option Answer → Now
after_act n (Some what) (Some given) = after_entry n what given
after_act n _ _ = n

-- after some steps
abbrev pub memory_after : List ℕ → List WordStep → List ℕ
memory_after ws [] = ws
memory_after ws (s ∷ steps) = memory_after (words_after_step ws s) steps

-- the word that a line loads
abbrev pub word_for : Now → List ℕ → JobLine → ℕ
word_for n registers (Load reg addr) = word_at n.memory (value_in registers addr)
word_for n registers _ = 0

-- what a mutator made
pub record Ran : Type 0 where
  pub steps : List WordStep
  pub entries : Journal
  pub after : Mutator
  pub now : Now

module _ (words by limit : ℕ) where
  abbrev pub given_to : Now → Mutator → JobLine → Option Answer
  given_to n m line = answer_to words limit n (act_in m.registers line)

  abbrev pub mutator_after : Now → Mutator → JobLine → Mutator
  mutator_after n m line = record {
    registers = registers_after words m.registers line (word_for n m.registers line) (given_to n m line);
    full = m.full || leaves_out (act_in m.registers line) (given_to n m line);
  }

  abbrev pub steps_of_line : Now → Mutator → JobLine → List WordStep
  steps_of_line n m line = steps_in words m.registers line (word_for n m.registers line) (given_to n m line)

  abbrev pub now_after : Now → Mutator → JobLine → Now
  now_after n m line =
      record (after_act n (act_in m.registers line) (given_to n m line)) { memory = memory_after n.memory (steps_of_line n m line) }

  -- the lines of a mutator, with no one else at work
  abbrev pub run_lines : Now → Mutator → List JobLine → Ran
  run_lines n m [] = record { steps = []; entries = []; after = m; now = n }
  run_lines n m (line ∷ lines) =
      let rest = run_lines (now_after n m line) (mutator_after n m line) lines in
      record {
        steps = steps_of_line n m line ++ rest.steps;
        entries = entry_of by (act_in m.registers line) (given_to n m line) ++ rest.entries;
        after = rest.after;
        now = rest.now;
      }

  -- where an act was left out the journal is full
  abbrev IsSound : Now → Mutator → Type 0
  IsSound n m = m.full ≡ true → nat_le limit n.used ≡ true

  none_made : (n : Now) (o : Option Act) → nat_le limit n.used ≡ true → entry_of by o (answer_to words limit n o) ≡ []
  none_made n None e = refl
  none_made n (Some what) e = ap (λ q. entry_of by (Some what) (if q then None else Some (answer_now words n what))) e

  left_full : (n : Now) (o : Option Act) → leaves_out o (answer_to words limit n o) ≡ true → nat_le limit n.used ≡ true
  left_full n None e = absurd (elim_false e)
  left_full n (Some what) e = go (nat_le limit n.used) e
    where
      go : (q : Bool) → leaves_out (Some what) (if q then None else Some (answer_now words n what)) ≡ true → q ≡ true
      go true f = refl
      go false f = absurd (elim_false f)

  stays_full : (n : Now) (o : Option Act) → nat_le limit n.used ≡ true → nat_le limit (after_act n o (answer_to words limit n o)).used ≡ true
  stays_full n None e = e
  stays_full n (Some what) e = subst (λ q. nat_le limit (after_act n (Some what) (if q then None else Some (answer_now words n what))).used ≡ true) (sym e) e

  sound_after : (n : Now) (m : Mutator) (line : JobLine) → IsSound n m → IsSound (now_after n m line) (mutator_after n m line)
  sound_after n m line s = λ e. stays_full n (act_in m.registers line) (go m.full s e)
    where
      go : (q : Bool) → (q ≡ true → nat_le limit n.used ≡ true) → (q || leaves_out (act_in m.registers line) (answer_to words limit n (act_in m.registers line))) ≡ true → nat_le limit n.used ≡ true
      go true f g = f refl
      go false f g = left_full n (act_in m.registers line) g

  -- it is a course
  pub run_is_course : (n : Now) (m : Mutator) (lines : List JobLine) → IsSound n m → Course words by m lines (run_lines n m lines).steps (run_lines n m lines).entries (run_lines n m lines).after
  run_is_course n m [] s = (refl, refl, refl)
  run_is_course n m (line ∷ lines) s = (
    steps_of_line n m line,
    (run_lines (now_after n m line) (mutator_after n m line) lines).steps,
    entry_of by (act_in m.registers line) (given_to n m line),
    (run_lines (now_after n m line) (mutator_after n m line) lines).entries,
    mutator_after n m line,
    record {
      value = word_for n m.registers line;
      answer = given_to n m line;
      made_steps = refl;
      made_entries = refl;
      registers = refl;
      full = refl;
      last = λ e. none_made n (act_in m.registers line) (s e);
    },
    run_is_course (now_after n m line) (mutator_after n m line) lines (sound_after n m line s),
    refl,
    refl,
  )

-- the next act of the scanner
abbrev pub act_at : ℕ → Stage → Option Act
act_at gap (AtTick zero) = None
act_at gap (AtTick (suc _)) = Some (act.Tick gap)
act_at gap (AtBegin _) = Some (act.File file.Scan)
act_at gap (AtStep _) = Some act.Step
act_at gap Halted = None

-- whether a scan is running
abbrev pub is_scanning : Stage → Bool
is_scanning (AtStep _) = true
is_scanning _ = false

abbrev pub scanner_entry : Act → Answer → Entry
scanner_entry what given = record { by = 1; act = what; answer = given }

-- the scanner, with no one else at work, up to so many acts
abbrev pub run_scanner : ℕ → ℕ → ℕ → ℕ → Now → Stage → Journal
run_scanner words gap limit zero n stage = []
run_scanner words gap limit (suc fuel) n stage =
    elim (act_at gap stage) [
      | None ↦ []
      | Some what ↦ elim (nat_le limit n.used) [
        | true ↦ if is_scanning stage then scanner_entry act.Halt (answer_now words n act.Halt) ∷ [] else []
        | false ↦
            let given = answer_now words n what in
            scanner_entry what given ∷ run_scanner words gap limit fuel (after_entry n what given) (stage_after stage what given)
      ]
    ]

-- whether two answers are the same, of those that a row has
abbrev pub same_answer : Answer → Answer → Bool
same_answer Done Done = true
same_answer (At a) (At b) = a == b
same_answer (Loaded a v) (Loaded b w) = a == b && v == w
same_answer (Ended k n) (Ended l m) = k == l && n == m
same_answer (Stopped k) (Stopped l) = k == l
same_answer (Refused NotAllocated) (Refused NotAllocated) = true
same_answer _ _ = false

answers_same : (x y : Answer) → same_answer x y ≡ true → x ≡ y
answers_same Done Done e = refl
answers_same (At a) (At b) e = ap At (eqb-true a b e)
answers_same (Loaded a v) (Loaded b w) e =
    let p = and_parts (a == b) (v == w) e in ap (λ z. Loaded z v) (eqb-true a b p.0) ∙ ap (λ z. Loaded b z) (eqb-true v w p.1)
answers_same (Ended k n) (Ended l m) e =
    let p = and_parts (k == l) (n == m) e in ap (λ z. Ended z n) (eqb-true k l p.0) ∙ ap (λ z. Ended l z) (eqb-true n m p.1)
answers_same (Stopped k) (Stopped l) e = ap Stopped (eqb-true k l e)
answers_same (Refused NotAllocated) (Refused NotAllocated) e = refl
answers_same _ _ e = absurd (elim_false e)

-- whether a journal follows a past
abbrev pub follows_on : ℕ → Past → Journal → Bool
follows_on words past [] = true
follows_on words past (e ∷ journal) =
    same_answer e.answer (answer words past e.act (value_of e.answer)) && nat_lt (value_of e.answer) (2 ^ 64)
    && follows_on words (moment past e.act e.answer ∷ past) journal

pub follow : (words : ℕ) (h : History) (journal : Journal) → Follows words h → follows_on words (past_of h) journal ≡ true → Follows words (with_journal h journal)
follow words h [] f e = f
follow words h (x ∷ journal) f e =
    let p = and_parts (same_answer x.answer (answer words (past_of h) x.act (value_of x.answer)) && nat_lt (value_of x.answer) (2 ^ 64)) (follows_on words (past_of (event_of x ∷ h)) journal) e in
    let q = and_parts (same_answer x.answer (answer words (past_of h) x.act (value_of x.answer))) (nat_lt (value_of x.answer) (2 ^ 64)) p.0 in
    follow words (event_of x ∷ h) journal (answers_same x.answer (answer words (past_of h) x.act (value_of x.answer)) q.0, ltb-true (value_of x.answer) (2 ^ 64) q.1, f) p.1

-- whether a history follows, with each moment kept
abbrev pub follows_all : ℕ → History → Bool
follows_all words [] = true
follows_all words (e ∷ h) =
    same_answer e.answer (answer words (past_of h) e.act (value_of e.answer)) && nat_lt (value_of e.answer) (2 ^ 64) && follows_all words h

pub all_follow : (words : ℕ) (h : History) → follows_all words h ≡ true → Follows words h
all_follow words [] e = tt
all_follow words (x ∷ h) e =
    let p = and_parts (same_answer x.answer (answer words (past_of h) x.act (value_of x.answer)) && nat_lt (value_of x.answer) (2 ^ 64)) (follows_all words h) e in
    let q = and_parts (same_answer x.answer (answer words (past_of h) x.act (value_of x.answer))) (nat_lt (value_of x.answer) (2 ^ 64)) p.0 in
    (answers_same x.answer (answer words (past_of h) x.act (value_of x.answer)) q.0, ltb-true (value_of x.answer) (2 ^ 64) q.1, all_follow words h p.1)

-- whether a step is legal, and an order
abbrev pub is_legal_step : List ℕ → WordStep → Bool
is_legal_step ws (LoadStep a value) = in_memory (length ws) a && value == word_at ws a
is_legal_step ws (StoreStep a value) = in_memory (length ws) a

abbrev pub is_legal : List ℕ → Order → Bool
is_legal ws [] = true
is_legal ws (x ∷ order) = is_legal_step ws x.step && is_legal (words_after_step ws x.step) order

step_legal : (ws : List ℕ) (s : WordStep) → is_legal_step ws s ≡ true → IsLegalStep ws s
step_legal ws (LoadStep a value) e = let p = and_parts (in_memory (length ws) a) (value == word_at ws a) e in (p.0, eqb-true value (word_at ws a) p.1)
step_legal ws (StoreStep a value) e = e

pub legal : (ws : List ℕ) (order : Order) → is_legal ws order ≡ true → IsLegal ws order
legal ws [] e = tt
legal ws (x ∷ order) e = let p = and_parts (is_legal_step ws x.step) (is_legal (words_after_step ws x.step) order) e in (step_legal ws x.step p.0, legal (words_after_step ws x.step) order p.1)

-- whether each number is a worker's
abbrev pub is_worker : ℕ → ℕ → Bool
is_worker mutators k = nat_le 1 k && nat_le k (mutators + 1)

pub workers : {X : Type 0} (by : X → ℕ) (mutators : ℕ) (xs : List X) → list_all (λ x. is_worker mutators (by x)) xs ≡ true → Each (λ x. IsWorker mutators (by x)) xs
workers by mutators [] e = tt
workers by mutators (x ∷ xs) e =
    let p = and_parts (is_worker mutators (by x)) (list_all (λ y. is_worker mutators (by y)) xs) e in
    let q = and_parts (nat_le 1 (by x)) (nat_le (by x) (mutators + 1)) p.0 in
    ((leb-true 1 (by x) q.0, leb-true (by x) (mutators + 1) q.1), workers by mutators xs p.1)
