-- The scans of a journal: each of their loads is one of the journal's.
use Rattle.std.proofs.Common.{◌≡◌, ℕ, ◌+◌, ◌<◌, ◌≤◌, ◌==◌, Bool, true, false, ◌&&◌, List, [], ◌∷◌, ◌++◌, length, Option, Some, None, if◌then◌else◌, refl, sym, ◌∙◌, ap, subst, arith, ◌⊎◌, inl, inr, eq-eqb}
use Rattle.std.proofs.lemmas.Bool.{both_ways, cases_Bool}
use Rattle.km_base.specs.declared.acts.Act.{Act}
use Rattle.km_base.specs.declared.acts.Act.TheVariants.{Step}
use Rattle.km_base.specs.declared.acts.Answer.{Answer}
use Rattle.km_base.specs.declared.acts.Answer.TheVariants.{Loaded, Ended, Refused}
use Rattle.km_base.specs.declared.acts.Refusal.TheVariants.{NoScanRunning}
use Rattle.km_model.specs.History.{Event, History, value_of}
use Rattle.km_model.specs.Members.{In}
use Rattle.km_model.specs.Past.{Past, Place, ScanLoad, world, loads, begins, scans, running_scan, was_completed, end_of, since_begin, since_scan}
use Rattle.km_model.specs.Scan.{next, scan_load}
use Rattle.km_model.specs.Verdict.{new_blocks}
use Rattle.km_model.specs.Answers.{answer}
use Rattle.km_model.specs.Changes.{world_after_act}
use Rattle.km_model.specs.Follows.{Follows, past_of, moment}
use Rattle.km_model.proofs.Cases.{none_some, some_same}
use Rattle.km_laws.proofs.Since.{IsAnswered}
use Rattle.km_words.specs.Told.{WordStep, LoadStep}
use Rattle.km_converse.proofs.Events.{Begun, Still, Made, event_case}
use Rattle.km_converse.proofs.Numbers.{scans_more, completion, completes_now, end_stays, end_here}
use Rattle.km_round_laws.proofs.Journals.{EachEvent, LoadIn}

-- a step that loads names the next place
loaded_place : (words : ℕ) (past : Past) (value a v : ℕ) (place : Place) → next past ≡ Some place → answer words past Step value ≡ Loaded a v → a ≡ place.word
unfolding answer
loaded_place words past value a v place found e = go (running_scan past) (next past) found e
  where
    refused_no : (r : _) → Refused r ≡ Loaded a v → ⊥
    refused_no r f = cc

    ended_no : (k n : ℕ) → Ended k n ≡ Loaded a v → ⊥
    ended_no k n f = cc

    same : (b u : ℕ) → Loaded b u ≡ Loaded a v → a ≡ b
    same b u f = cc

    go : (o : Option ℕ) (p : Option Place) → p ≡ Some place
        → (elim o as (λ _. Answer) [
          | None ↦ Refused NoScanRunning
          | Some _ ↦ elim p as (λ _. Answer) [ None ↦ Ended (scans past) (length (new_blocks past)) | Some q ↦ Loaded q.word value ]
        ]) ≡ Loaded a v → a ≡ place.word
    go None p f g = absurd (refused_no NoScanRunning g)
    go (Some k) None f g = absurd (none_some place f)
    go (Some k) (Some q) f g = same q.word value g ∙ ap (λ (x : Place). x.word) (some_same q place f)

-- an event that loads leaves what stands
pub made_world : (e : Event) (h : History) → Made (past_of h) e.act e.answer → world (past_of (e ∷ h)) ≡ world (past_of h)
unfolding world_after_act
made_world e h g =
    ap (λ (x : Act). world (past_of (record { act = x; answer = e.answer } ∷ h))) g.step
    ∙ ap (λ s. world (past_of (record { act = Step; answer = s } ∷ h))) g.answer_is

-- an event that begins no scan leaves their number
going : (e : Event) (h : History) → begins e.act e.answer ≡ false → scans (past_of (e ∷ h)) ≡ scans (past_of h)
going e h f = ap (λ q. elim q as (λ _. ℕ) [ true ↦ scans (past_of h) + 1 | false ↦ scans (past_of h) ]) f

-- the moments since the begin of a scan are of that scan
pub since_begin_scans : (past p : Past) → In p (since_begin past) → scans p ≡ scans past
since_begin_scans [] p i = absurd i
since_begin_scans (m ∷ past) p i = go (since_begin_scans past p) (begins m.act m.answer) refl i
  where
    go : (In p (since_begin past) → scans p ≡ scans past) → (q : Bool) → begins m.act m.answer ≡ q → In p (elim q as (λ _. List Past) [ true ↦ (m ∷ past) ∷ [] | false ↦ (m ∷ past) ∷ since_begin past ])
        → scans p ≡ scans (m ∷ past)
    go rest true e (inl same) = ap scans same
    go rest true e (inr none) = absurd none
    go rest false e (inl same) = ap scans same
    go rest false e (inr j) = rest j ∙ sym (ap (λ q. elim q as (λ _. ℕ) [ true ↦ scans past + 1 | false ↦ scans past ]) e)

-- those since the begin of scan j are of that scan or a later one
pub since_scan_scans : (j : ℕ) (past p : Past) → j ≤ scans past → In p (since_scan j past) → j ≤ scans p
since_scan_scans j [] p le i = absurd i
since_scan_scans j (m ∷ past) p le i = go (since_scan_scans j past p) (begins m.act m.answer && scans past + 1 == j) refl i
  where
    before : (q : Bool) → begins m.act m.answer ≡ q → (q && scans past + 1 == j) ≡ false → j ≤ (elim q as (λ _. ℕ) [ true ↦ scans past + 1 | false ↦ scans past ]) → j ≤ scans past
    before false e f less = less
    before true e f less = elim (cases_Bool (scans past + 1 == j)) [
      | inl same ↦ absurd (both_ways (scans past + 1 == j) f same)
      | inr other ↦
          let apart : scans past + 1 ≡ j → ⊥ = λ g. both_ways (scans past + 1 == j) other (eq-eqb (scans past + 1) j g) in
          omega (arith, less, apart)
    ]

    go : (j ≤ scans past → In p (since_scan j past) → j ≤ scans p) → (q : Bool) → (begins m.act m.answer && scans past + 1 == j) ≡ q → In p (if q then (m ∷ past) ∷ [] else (m ∷ past) ∷ since_scan j past) → j ≤ scans p
    go rest true e (inl same) = subst (λ x. j ≤ scans x) (sym same) le
    go rest true e (inr none) = absurd none
    go rest false e (inl same) = subst (λ x. j ≤ scans x) (sym same) le
    go rest false e (inr k) = rest (before (begins m.act m.answer) refl e le) k

-- the end of a completed scan is of that scan
pub end_scans : (words : ℕ) (h : History) (n : ℕ) → IsAnswered words h → was_completed n (past_of h) ≡ true → scans (end_of n (past_of h)) ≡ n
end_scans words [] n a done = cc
end_scans words (e ∷ h) n a done =
    elim (cases_Bool (was_completed n (past_of h))) [
      | inl was ↦ ap scans (end_stays words e h n a was) ∙ end_scans words h n a.1 was
      | inr none ↦
          let now = completes_now e h n done none in
          let c = completion words (past_of h) e.act a.0.0 e.answer n a.0.1 now in
          ap scans (end_here e h n now) ∙ (going e h (ap (λ (x : Act). begins x e.answer) c.step) ∙ sym c.number)
    ]

-- histories that go on from one, by events of which something holds
module _ (words : ℕ) (h : History) (P : Event → Type 0) where
  -- such a history, or an earlier one
  abbrev pub GoesOn : History → Type 0
  GoesOn g = Follows words g × (((n : History) × (g ≡ n ++ h) × EachEvent P n) ⊎ (scans (past_of g) ≤ scans (past_of h)))

  pub earlier : (e : Event) (g : History) → GoesOn (e ∷ g) → GoesOn g
  earlier e g on = ((on.0).2, before on.1)
    where
      more : scans (past_of g) ≤ scans (past_of (e ∷ g))
      more = scans_more (moment (past_of g) e.act e.answer) (past_of g)

      tail : (x : Event) (xs : History) → e ∷ g ≡ x ∷ xs → g ≡ xs
      tail x xs f = cc

      before : (((n : History) × (e ∷ g ≡ n ++ h) × EachEvent P n) ⊎ (scans (past_of (e ∷ g)) ≤ scans (past_of h)))
          → (((n : History) × (g ≡ n ++ h) × EachEvent P n) ⊎ (scans (past_of g) ≤ scans (past_of h)))
      before (inl ([], same, there)) = inr (let up = more in let same_scans : scans (past_of (e ∷ g)) ≡ scans (past_of h) = ap (λ x. scans (past_of x)) same in omega (arith, up, same_scans))
      before (inl (x ∷ n, same, there)) = inl (n, tail x (n ++ h) same, there.1)
      before (inr le) = inr (let up = more in omega (arith, le, up))

  -- it holds of the newest event
  pub newest : (e : Event) (g : History) → GoesOn (e ∷ g) → scans (past_of h) < scans (past_of (e ∷ g)) → P e
  newest e g on later = here on.1
    where
      head : (x : Event) (xs : History) → e ∷ g ≡ x ∷ xs → e ≡ x
      head x xs f = cc

      here : (((n : History) × (e ∷ g ≡ n ++ h) × EachEvent P n) ⊎ (scans (past_of (e ∷ g)) ≤ scans (past_of h))) → P e
      here (inr le) = absurd (omega (arith, later, le))
      here (inl ([], same, there)) = absurd (let f : scans (past_of (e ∷ g)) ≡ scans (past_of h) = ap (λ x. scans (past_of x)) same in omega (arith, later, f))
      here (inl (x ∷ n, same, there)) = subst P (sym (head x (n ++ h) same)) there.0

-- where each of their loads is one of the steps
module _ (words : ℕ) (h : History) (steps : List WordStep) where
  -- that of the newest event is
  pub newest_there : (e : Event) (g : History) → GoesOn words h (LoadIn steps) (e ∷ g) → scans (past_of h) < scans (past_of (e ∷ g)) → (m : Made (past_of g) e.act e.answer)
      → In (LoadStep m.place.word m.value) steps
  newest_there e g on later m =
      let at : m.address ≡ m.place.word = loaded_place words (past_of g) (value_of e.answer) m.address m.value m.place m.found
      (sym (ap (λ (x : Act). answer words (past_of g) x (value_of e.answer)) m.step) ∙ (sym on.0.0 ∙ m.answer_is)) in
      subst (λ a. In (LoadStep a m.value) steps) at (newest words h (LoadIn steps) e g on later m.address m.value m.answer_is)

  -- and so is each load of a scan that began after the history
  pub all_there : (g : History) → GoesOn words h (LoadIn steps) g → scans (past_of h) < scans (past_of g) → (l : ScanLoad) → In l (loads (past_of g)) → In (LoadStep l.place.word l.value) steps
  all_there [] on later l i = absurd i
  all_there (e ∷ g) on later l i = go (all_there g (earlier words h (LoadIn steps) e g on)) (event_case (past_of g) e.act e.answer)
    where
      go : (scans (past_of h) < scans (past_of g) → (k : ScanLoad) → In k (loads (past_of g)) → In (LoadStep k.place.word k.value) steps)
          → Begun (past_of g) e.act e.answer ⊎ (Still (past_of g) e.act e.answer ⊎ Made (past_of g) e.act e.answer) → In (LoadStep l.place.word l.value) steps
      go rest (inl x) = absurd (subst (λ ls. In l ls) x.loads_are i)
      go rest (inr (inl x)) = rest (subst (λ n. scans (past_of h) < n) (going e g x.going) later) l (subst (λ ls. In l ls) x.loads_are i)
      go rest (inr (inr x)) = made (subst (λ ls. In l ls) x.loads_are i)
        where
          made : (l ≡ scan_load (past_of g) x.place x.value) ⊎ In l (loads (past_of g)) → In (LoadStep l.place.word l.value) steps
          made (inl same) = subst (λ (y : ScanLoad). In (LoadStep y.place.word y.value) steps) (sym same) (newest_there e g on later x)
          made (inr j) = rest (subst (λ n. scans (past_of h) < n) (going e g x.going) later) l j
