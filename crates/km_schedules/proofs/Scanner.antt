-- The scanner, with no one else at work.
use Rattle.std.proofs.Common.{◌≡◌, ℕ, zero, suc, ◌+◌, ◌-◌, ◌≤◌, ◌<◌, Bool, true, false, not, nat_le, List, [], ◌∷◌, ◌++◌, length, count_by, cond, if◌then◌else◌, refl, subst, arith, leb-true, leb-false, eq-eqb}
use Rattle.std.proofs.lemmas.Bool.{and_from, true≢false}
use Rattle.std.proofs.lemmas.List.Sums.{count_by-le-length, sum_by-append}
use Rattle.km_base.specs.declared.acts.Act.{Act}
use Rattle.km_base.specs.declared.acts.Act.TheVariants as act
use Rattle.km_base.specs.declared.acts.FileCmd.TheVariants as file
use Rattle.km_base.specs.declared.acts.Answer.{Answer}
use Rattle.km_base.specs.declared.acts.Answer.TheVariants.{Loaded}
use Rattle.km_model.specs.Past.{completes, is_loaded}
use Rattle.km_model.specs.Follows.{Run, Follows, told_answer}
use Rattle.km_words.specs.Told.{WordStep, LoadStep}
use Rattle.km_rounds.specs.Orders.{IsLegal, IsLegalStep}
use Rattle.km_rounds.specs.declared.entry.Entry.{Entry}
use Rattle.km_rounds.specs.Journals.{Journal, with_journal, with_loaded, loads_in}
use Rattle.km_live_model.specs.Courses.{Stage, AtTick, AtBegin, AtStep, Halted, is_halt, ends_at, is_next_act, is_scanner_course, stage_after}
use Rattle.km_schedules.specs.Schedules.{IsSoundRun}
use Rattle.km_schedules.proofs.Parts.{AllBy, by_hand}
use Rattle.km_schedules.proofs.Events.{answered, answered_keeps, event_follows, step_loads, unloaded}

-- how many acts of a journal are no halts
abbrev pub acts_in : Journal → ℕ
acts_in journal = count_by (λ (e : Entry). not (is_halt e.act)) journal

-- what the scanner makes from a stage on, after so many entries, where a journal has room for no more than the limit
pub record ScannerRuns (gap limit : ℕ) (r : Run) (used : ℕ) (stage : Stage) : Type 0 where
  pub journal : Journal
  pub whole : Bool
  pub one : AllBy 1 journal
  pub follows : Follows r.words (with_journal r.history journal)
  pub legal : IsLegal r.memory (by_hand 1 (loads_in journal))
  pub course : is_scanner_course gap stage journal whole ≡ true
  pub room : used + acts_in journal ≤ limit
  pub cut : whole ≡ false → limit ≤ used + length journal

-- an act that isn't a load, or that finds what its word holds
loads_legal : (ws : List ℕ) (given : Answer) (steps : List WordStep) → ((a v : ℕ) → given ≡ Loaded a v → IsLegalStep ws (LoadStep a v))
    → IsLegal ws (by_hand 1 steps) → IsLegal ws (by_hand 1 (with_loaded given steps))
loads_legal ws (Loaded a v) steps here rest = (here a v refl, rest)
loads_legal ws _ steps here rest = rest

no_load : (ws : List ℕ) (given : Answer) → is_loaded given ≡ false → (a v : ℕ) → given ≡ Loaded a v → IsLegalStep ws (LoadStep a v)
no_load ws given e a v same = absurd (true≢false (subst (λ x. is_loaded x ≡ false) same e))

-- the entry of an act
abbrev entry_now : Run → Act → Entry
entry_now r what = record { by = 1; act = what; answer = told_answer r what }

pub acts_after : (xs ys : Journal) → acts_in (xs ++ ys) ≤ length xs + acts_in ys
acts_after xs ys =
    let e : acts_in (xs ++ ys) ≡ acts_in xs + acts_in ys = sum_by-append (λ (x : Entry). cond (not (is_halt x.act)) 1 0) xs ys in
    let le : acts_in xs ≤ length xs = count_by-le-length (λ (x : Entry). not (is_halt x.act)) xs in
    omega (arith, e, le)

-- the scanner makes one more act, and goes on
goes_on : (gap limit : ℕ) (r : Run) (used : ℕ) (stage : Stage) (what : Act) → is_next_act gap stage what ≡ true
    → ((a v : ℕ) → told_answer r what ≡ Loaded a v → IsLegalStep r.memory (LoadStep a v))
    → ScannerRuns gap limit (answered r what) (used + 1) (stage_after stage what (told_answer r what)) → ScannerRuns gap limit r used stage
goes_on gap limit r used stage what may here rest = record {
  journal = entry_now r what ∷ rest.journal;
  whole = rest.whole;
  one = (refl, rest.one);
  follows = rest.follows;
  legal = loads_legal r.memory (told_answer r what) (loads_in rest.journal) here rest.legal;
  course = and_from (is_next_act gap stage what) (is_scanner_course gap (stage_after stage what (told_answer r what)) rest.journal rest.whole) may rest.course;
  room = let g = acts_after (entry_now r what ∷ []) rest.journal in let f = rest.room in omega (arith, g, f);
  cut = λ e. let g = rest.cut e in omega (arith, g);
}

-- the scanner makes no further act
ends_here : (gap limit : ℕ) (r : Run) (used : ℕ) (stage : Stage) (whole : Bool) → ends_at stage whole ≡ true → IsSoundRun r → used ≤ limit → (whole ≡ false → limit ≤ used)
    → ScannerRuns gap limit r used stage
ends_here gap limit r used stage whole ends s le cut = record {
  journal = [];
  whole = whole;
  one = tt;
  follows = s.follows;
  legal = tt;
  course = ends;
  room = omega (arith, le);
  cut = λ e. let g = cut e in omega (arith, g);
}

-- the journal is full while a scan runs
halts : (gap limit : ℕ) (r : Run) (used n : ℕ) → IsSoundRun r → used ≤ limit → limit ≤ used → ScannerRuns gap limit r used (AtStep n)
halts gap limit r used n s le full = record {
  journal = entry_now r act.Halt ∷ [];
  whole = false;
  one = (refl, tt);
  follows = event_follows r act.Halt s;
  legal = loads_legal r.memory (told_answer r act.Halt) [] (no_load r.memory (told_answer r act.Halt) (unloaded r act.Halt refl)) tt;
  course = refl;
  room = omega (arith, le);
  cut = λ e. omega (arith, full);
}

-- a stage before the halt
abbrev pub GoesOn : Stage → Type 0
GoesOn Halted = ⊥
GoesOn _ = Unit {0}

after_step : (n : ℕ) (given : Answer) → GoesOn (stage_after (AtStep n) act.Step given)
after_step n given = go (completes given)
  where
    go : (q : Bool) → GoesOn (if q then AtTick (n - 1) else AtStep n)
    go true = tt
    go false = tt

is_open : (limit used : ℕ) → nat_le limit used ≡ false → used + 1 ≤ limit
is_open limit used e = let g = leb-false limit used e in omega (arith, g)

-- each act takes an entry, so the scanner ends
pub scanner_runs : (gap limit fuel : ℕ) (r : Run) (used : ℕ) (stage : Stage) → GoesOn stage → IsSoundRun r → used ≤ limit → limit < used + fuel
    → ScannerRuns gap limit r used stage
scanner_runs gap limit zero r used stage goes s le lt = absurd (omega (arith, le, lt))
scanner_runs gap limit (suc fuel) r used Halted goes s le lt = absurd goes
scanner_runs gap limit (suc fuel) r used (AtTick zero) goes s le lt = ends_here gap limit r used (AtTick zero) true refl s le (λ e. absurd (true≢false e))
scanner_runs gap limit (suc fuel) r used (AtTick (suc n)) goes s le lt =
    elim (nat_le limit used) as (λ q. nat_le limit used ≡ q → ScannerRuns gap limit r used (AtTick (suc n))) [
      | true ↦ λ e. ends_here gap limit r used (AtTick (suc n)) false refl s le (λ _. leb-true limit used e)
      | false ↦ λ e.
          goes_on gap limit r used (AtTick (suc n)) (act.Tick gap) (eq-eqb gap gap refl) (no_load r.memory (told_answer r (act.Tick gap)) (unloaded r (act.Tick gap) refl))
          (scanner_runs gap limit fuel (answered r (act.Tick gap)) (used + 1) (AtBegin (suc n)) tt (answered_keeps r (act.Tick gap) s) (is_open limit used e) (omega (arith, lt)))
    ] refl
scanner_runs gap limit (suc fuel) r used (AtBegin n) goes s le lt =
    elim (nat_le limit used) as (λ q. nat_le limit used ≡ q → ScannerRuns gap limit r used (AtBegin n)) [
      | true ↦ λ e. ends_here gap limit r used (AtBegin n) false refl s le (λ _. leb-true limit used e)
      | false ↦ λ e.
          goes_on gap limit r used (AtBegin n) (act.File file.Scan) refl (no_load r.memory (told_answer r (act.File file.Scan)) (unloaded r (act.File file.Scan) refl))
          (scanner_runs gap limit fuel (answered r (act.File file.Scan)) (used + 1) (AtStep n) tt (answered_keeps r (act.File file.Scan) s) (is_open limit used e) (omega (arith, lt)))
    ] refl
scanner_runs gap limit (suc fuel) r used (AtStep n) goes s le lt =
    elim (nat_le limit used) as (λ q. nat_le limit used ≡ q → ScannerRuns gap limit r used (AtStep n)) [
      | true ↦ λ e. halts gap limit r used n s le (leb-true limit used e)
      | false ↦ λ e.
          goes_on gap limit r used (AtStep n) act.Step refl (λ a v same. step_loads r a v s same)
          (scanner_runs gap limit fuel (answered r act.Step) (used + 1) (stage_after (AtStep n) act.Step (told_answer r act.Step)) (after_step n (told_answer r act.Step))
          (answered_keeps r act.Step s) (is_open limit used e) (omega (arith, lt)))
    ] refl
