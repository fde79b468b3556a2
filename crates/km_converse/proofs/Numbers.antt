use Rattle.std.proofs.Common.{◌≡◌, ℕ, ◌+◌, ◌≤◌, ◌<◌, ◌==◌, Bool, true, false, ◌&&◌, ◌||◌, List, [], ◌∷◌, length, Option, Some, None, refl, sym, ◌∙◌, ap, subst, arith, inl, inr, eqb-true, if◌then◌else◌}
use Rattle.std.proofs.lemmas.Bool.{cases_Bool, or_from, both_ways, and_parts, false_from_ne_true}
use Rattle.km_base.specs.declared.acts.Act.{Act}
use Rattle.km_base.specs.declared.acts.Act.TheVariants.{Step, File, AutoBegin}
use Rattle.km_base.specs.declared.acts.FileCmd.TheVariants.{Scan}
use Rattle.km_base.specs.declared.acts.Answer.{Answer}
use Rattle.km_base.specs.declared.acts.Answer.TheVariants.{Done, Ended, Stopped}
use Rattle.km_model.specs.History.{Event, History}
use Rattle.km_model.specs.Past.{Past, Moment, begins, ends, completes, completes_scan, ends_scan, running_scan, scans, was_completed, end_of, since_begin, since_scan, moments_of, moments_between}
use Rattle.km_model.specs.Scan.{next}
use Rattle.km_model.specs.Verdict.{new_blocks}
use Rattle.km_model.specs.Answers.{answer}
use Rattle.km_model.specs.Follows.{past_of, moment}
use Rattle.km_model.proofs.Cases.{elim_false, none_some, some_same}
use Rattle.km_laws.proofs.Lists.{In}
use Rattle.km_laws.proofs.Since.{IsAnswered}
use Rattle.km_laws.proofs.Completions.{is_stop, completed_by, stopped_scan}
use Rattle.km_laws.proofs.Completed.{last_answer}

completed_ended : (n : ℕ) (s : Answer) → completes_scan n s ≡ true → (completes s ≡ true) × (ends_scan n s ≡ true)
completed_ended n (Ended k m) e = (refl, e)
completed_ended n _ e = absurd (elim_false e)

pub completed_ends : (n : ℕ) (s : Answer) → completes_scan n s ≡ true → ends s ≡ true
completed_ends n (Ended k m) e = refl
completed_ends n _ e = absurd (elim_false e)

pub begins_ends : (act : Act) (s : Answer) → begins act s ≡ true → ends s ≡ false
begins_ends (File Scan) Done e = refl
begins_ends (File Scan) _ e = absurd (elim_false e)
begins_ends AutoBegin Done e = refl
begins_ends AutoBegin _ e = absurd (elim_false e)
begins_ends _ _ e = absurd (elim_false e)

-- what completes a scan
pub record Completion (past : Past) (act : Act) (n : ℕ) : Type 0 where
  pub number : n ≡ scans past
  pub step : act ≡ Step
  pub scan : ℕ
  pub running : running_scan past ≡ Some scan
  pub over : next past ≡ None

pub completion : (words : ℕ) (past : Past) (act : Act) (value : ℕ) (s : Answer) (n : ℕ) → s ≡ answer words past act value → completes_scan n s ≡ true → Completion past act n
completion words past act value s n e done =
    let how = completed_by words past act value (subst (λ a. completes a ≡ true) e (completed_ended n s done).0) in
    let ended : s ≡ Ended (scans past) (length (new_blocks past)) =
    subst (λ (x : Act). s ≡ answer words past x value) how.0 e ∙ last_answer words past value how.1.0 how.1.1 how.2 in
    record {
      number = sym (eqb-true (scans past) n (subst (λ a. completes_scan n a ≡ true) ended done));
      step = how.0;
      scan = how.1.0;
      running = how.1.1;
      over = how.2;
    }

-- a scan that runs is the last begun, and isn't completed; one that was completed was begun
pub record ScansFit (past : Past) : Type 0 where
  pub running : (n : ℕ) → running_scan past ≡ Some n → (n ≡ scans past) × (1 ≤ n) × (was_completed n past ≡ false)
  pub completed : (n : ℕ) → was_completed n past ≡ true → (1 ≤ n) × (n ≤ scans past)

pub scans_more : (m : Moment) (past : Past) → scans past ≤ scans (m ∷ past)
scans_more m past = elim (begins m.act m.answer) as (λ q. scans past ≤ (elim q as (λ _. ℕ) [ true ↦ scans past + 1 | false ↦ scans past ])) [ true ↦ omega arith | false ↦ omega arith ]

pub scans_fit : (words : ℕ) (h : History) → IsAnswered words h → ScansFit (past_of h)
scans_fit words [] a = record { running = λ n e. absurd (none_some n e); completed = λ n e. absurd (elim_false e) }
scans_fit words (e ∷ h) a =
    let old = scans_fit words h a.1 in
    record {
      running = λ n r. runs old n (ends e.answer) refl (begins e.act e.answer) r;
      completed = λ n c. low old n c;
    }
  where
    runs : ScansFit (past_of h) → (n : ℕ) (q : Bool) → ends e.answer ≡ q → (r : Bool)
        → (elim q as (λ _. Option ℕ) [ true ↦ None | false ↦ elim r as (λ _. Option ℕ) [ true ↦ Some (scans (past_of h) + 1) | false ↦ running_scan (past_of h) ] ]) ≡ Some n
        → (n ≡ (elim r as (λ _. ℕ) [ true ↦ scans (past_of h) + 1 | false ↦ scans (past_of h) ])) × (1 ≤ n) × (was_completed n (past_of (e ∷ h)) ≡ false)
    runs old n true f r g = absurd (none_some n g)
    runs old n false f true g =
        let same : scans (past_of h) + 1 ≡ n = some_same (scans (past_of h) + 1) n g in (
          sym same,
          omega (arith, same),
          or_from (completes_scan n e.answer) (was_completed n (past_of h))
              (false_from_ne_true (completes_scan n e.answer) (λ c. both_ways (ends e.answer) f (completed_ends n e.answer c)))
              (false_from_ne_true (was_completed n (past_of h)) (λ c. let le = (old.completed n c).1 in omega (arith, same, le))),
        )
    runs old n false f false g =
        let k = old.running n g in (
          k.0,
          k.1,
          or_from (completes_scan n e.answer) (was_completed n (past_of h))
              (false_from_ne_true (completes_scan n e.answer) (λ c. both_ways (ends e.answer) f (completed_ends n e.answer c))) k.2,
        )

    low : ScansFit (past_of h) → (n : ℕ) → was_completed n (past_of (e ∷ h)) ≡ true → (1 ≤ n) × (n ≤ scans (past_of (e ∷ h)))
    low old n c =
        let more = scans_more (moment (past_of h) e.act e.answer) (past_of h) in
        elim (cases_Bool (completes_scan n e.answer)) [
          | inl now ↦
              let k = completion words (past_of h) e.act a.0.0 e.answer n a.0.1 now in
              let r = old.running k.scan k.running in
              let number = k.number in let scan = r.0 in let some = r.1 in
              (omega (arith, number, scan, some), omega (arith, number, more))
          | inr other ↦
              let k = old.completed n (subst (λ q. (q || was_completed n (past_of h)) ≡ true) other c) in
              let le = k.1 in (k.0, omega (arith, le, more))
        ]

-- what ends a scan ends the running one
pub ended_runs : (words : ℕ) (e : Event) (h : History) (n : ℕ) → IsAnswered words (e ∷ h) → ends_scan n e.answer ≡ true → running_scan (past_of h) ≡ Some n
ended_runs words e h n a ended = go e.answer refl ended
  where
    same_scan : (m n : ℕ) → Stopped m ≡ Stopped n → m ≡ n
    same_scan m n f = cc

    go : (s : Answer) → e.answer ≡ s → ends_scan n s ≡ true → running_scan (past_of h) ≡ Some n
    go (Ended k m) f g =
        let c = completion words (past_of h) e.act a.0.0 e.answer n a.0.1 (subst (λ s. completes_scan n s ≡ true) (sym f) g) in
        c.running ∙ ap (λ (x : ℕ). Some x) (((scans_fit words h a.1).running c.scan c.running).0 ∙ sym c.number)
    go (Stopped k) f g =
        let at = stopped_scan words (past_of h) e.act a.0.0 (subst (λ s. is_stop s ≡ true) a.0.1 (subst (λ s. is_stop s ≡ true) (sym f) refl)) in
        at.1 ∙ ap (λ (x : ℕ). Some x) (sym (same_scan k at.0 (sym f ∙ (a.0.1 ∙ at.2))) ∙ eqb-true k n g)
    go _ f g = absurd (elim_false g)

-- what holds at each moment of scan n
abbrev pub AllIn : (Past → Type 0) → ℕ → Past → Type 0
AllIn P n [] = Unit {0}
AllIn P n (m ∷ past) = (scans past ≡ n → was_completed n past ≡ false → P (m ∷ past)) × AllIn P n past

-- and at each from just after the begin of scan j to just after the end of scan k
abbrev pub AllSince : (Past → Type 0) → ℕ → ℕ → Past → Type 0
AllSince P j k [] = Unit {0}
AllSince P j k (m ∷ past) = (j ≤ scans (m ∷ past) → was_completed k past ≡ false → P (m ∷ past)) × AllSince P j k past

before_in : (P : Past → Type 0) (n : ℕ) (past : Past) → scans past < n → AllIn P n past
before_in P n [] lt = tt
before_in P n (m ∷ past) lt = let more = scans_more m past in ((λ e _. absurd (omega (arith, lt, more, e))), before_in P n past (omega (arith, lt, more)))

since_in : (P : Past → Type 0) (n : ℕ) (past : Past) → ((p : Past) → In p (since_begin past) → P p) → scans past ≡ n → AllIn P n past
since_in P n [] f e = tt
since_in P n (m ∷ past) f e =
    elim (begins m.act m.answer) as (λ q. ((p : Past) → In p (elim q as (λ _. List Past) [ true ↦ (m ∷ past) ∷ [] | false ↦ (m ∷ past) ∷ since_begin past ]) → P p)
    → (elim q as (λ _. ℕ) [ true ↦ scans past + 1 | false ↦ scans past ]) ≡ n → AllIn P n (m ∷ past)) [
      | true ↦ λ g d. ((λ _ _. g (m ∷ past) (inl refl)), before_in P n past (omega (arith, d)))
      | false ↦ λ g d. ((λ _ _. g (m ∷ past) (inl refl)), since_in P n past (λ p i. g p (inr i)) d)
    ] f e

before_since : (P : Past → Type 0) (j k : ℕ) (past : Past) → scans past < j → AllSince P j k past
before_since P j k [] lt = tt
before_since P j k (m ∷ past) lt = let more = scans_more m past in ((λ le _. absurd (omega (arith, lt, le))), before_since P j k past (omega (arith, lt, more)))

since_since : (P : Past → Type 0) (j k : ℕ) (past : Past) → ((p : Past) → In p (since_scan j past) → P p) → AllSince P j k past
since_since P j k [] f = tt
since_since P j k (m ∷ past) f =
    elim (begins m.act m.answer && scans past + 1 == j) as (λ q. (begins m.act m.answer && scans past + 1 == j) ≡ q
    → ((p : Past) → In p (if q then (m ∷ past) ∷ [] else (m ∷ past) ∷ since_scan j past) → P p) → AllSince P j k (m ∷ past)) [
      | true ↦ λ e g. (
        (λ _ _. g (m ∷ past) (inl refl)),
        before_since P j k past (let same = eqb-true (scans past + 1) j (and_parts (begins m.act m.answer) (scans past + 1 == j) e).1 in omega (arith, same)),
      )
      | false ↦ λ e g. ((λ _ _. g (m ∷ past) (inl refl)), since_since P j k past (λ p i. g p (inr i)))
    ] refl f

-- where scan n was completed before, its end stays
pub end_stays : (words : ℕ) (e : Event) (h : History) (n : ℕ) → IsAnswered words (e ∷ h) → was_completed n (past_of h) ≡ true → end_of n (past_of (e ∷ h)) ≡ end_of n (past_of h)
end_stays words e h n a done =
    ap (λ q. elim q as (λ _. Past) [ true ↦ past_of (e ∷ h) | false ↦ end_of n (past_of h) ])
    (false_from_ne_true (ends_scan n e.answer) (λ ended. both_ways (was_completed n (past_of h)) ((scans_fit words h a.1).running n (ended_runs words e h n a ended)).2 done))

-- else it is here
pub end_here : (e : Event) (h : History) (n : ℕ) → completes_scan n e.answer ≡ true → end_of n (past_of (e ∷ h)) ≡ past_of (e ∷ h)
end_here e h n done = ap (λ q. elim q as (λ _. Past) [ true ↦ past_of (e ∷ h) | false ↦ end_of n (past_of h) ]) (completed_ended n e.answer done).1

pub completes_now : (e : Event) (h : History) (n : ℕ) → was_completed n (past_of (e ∷ h)) ≡ true → was_completed n (past_of h) ≡ false → completes_scan n e.answer ≡ true
completes_now e h n done none = go (completes_scan n e.answer) done
  where
    go : (q : Bool) → (q || was_completed n (past_of h)) ≡ true → q ≡ true
    go true f = refl
    go false f = absurd (both_ways (was_completed n (past_of h)) none f)

step_begins : (act : Act) (s : Answer) → act ≡ Step → begins act s ≡ false
step_begins act s e = ap (λ (x : Act). begins x s) e

pub all_in : (P : Past → Type 0) (words : ℕ) (h : History) (n : ℕ) → IsAnswered words h → was_completed n (past_of h) ≡ true → ((p : Past) → In p (moments_of n (past_of h)) → P p) → AllIn P n (past_of h)
all_in P words [] n a done f = tt
all_in P words (e ∷ h) n a done f =
    elim (was_completed n (past_of h)) as (λ q. was_completed n (past_of h) ≡ q → AllIn P n (past_of (e ∷ h))) [
      | true ↦ λ was. (
        (λ _ none. absurd (both_ways (was_completed n (past_of h)) none was)),
        all_in P words h n a.1 was (λ p i. f p (subst (λ x. In p (since_begin x)) (sym (end_stays words e h n a was)) i)),
      )
      | false ↦ λ none.
          let now = completes_now e h n done none in
          let c = completion words (past_of h) e.act a.0.0 e.answer n a.0.1 now in
          since_in P n (past_of (e ∷ h)) (λ p i. f p (subst (λ x. In p (since_begin x)) (sym (end_here e h n now)) i))
          (ap (λ q. elim q as (λ _. ℕ) [ true ↦ scans (past_of h) + 1 | false ↦ scans (past_of h) ]) (step_begins e.act e.answer c.step) ∙ sym c.number)
    ] refl

pub all_since : (P : Past → Type 0) (words : ℕ) (h : History) (j k : ℕ) → IsAnswered words h → was_completed k (past_of h) ≡ true → ((p : Past) → In p (moments_between j k (past_of h)) → P p) → AllSince P j k (past_of h)
all_since P words [] j k a done f = tt
all_since P words (e ∷ h) j k a done f =
    elim (was_completed k (past_of h)) as (λ q. was_completed k (past_of h) ≡ q → AllSince P j k (past_of (e ∷ h))) [
      | true ↦ λ was. (
        (λ _ none. absurd (both_ways (was_completed k (past_of h)) none was)),
        all_since P words h j k a.1 was (λ p i. f p (subst (λ x. In p (since_scan j x)) (sym (end_stays words e h k a was)) i)),
      )
      | false ↦ λ none. since_since P j k (past_of (e ∷ h)) (λ p i. f p (subst (λ x. In p (since_scan j x)) (sym (end_here e h k (completes_now e h k done none))) i))
    ] refl
