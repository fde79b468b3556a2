use Rattle.std.proofs.Common.{◌≡◌, ℕ, ◌+◌, ◌<◌, ◌≤◌, ◌==◌, Bool, true, false, ◌||◌, List, [], ◌∷◌, ◌++◌, length, Some, if◌then◌else◌, refl, sym, ◌∙◌, ap, subst, arith, ◌⊎◌, inl, inr, eqb-true, eq-eqb}
use Rattle.std.proofs.lemmas.Bool.{cases_Bool, cases_eq, or_parts, both_ways, false_from_ne_true}
use Rattle.km_base.specs.declared.acts.Act.{Act}
use Rattle.km_base.specs.declared.acts.Answer.TheVariants.{Ended}
use Rattle.km_model.specs.History.{Event, History}
use Rattle.km_model.specs.Blocks.{Block, block_of, is_among, can_be_reported}
use Rattle.km_model.specs.World.{World}
use Rattle.km_model.specs.Past.{Past, world, loads, scans, begins, completes, completes_scan, was_completed, last_completed, begin_moment, at_begin, end_of}
use Rattle.km_model.specs.Scan.{phase_of}
use Rattle.km_model.specs.Verdict.{unreferenced, last_unreferenced, times_new, listing_ids, new_blocks}
use Rattle.km_model.specs.Answers.{answer}
use Rattle.km_model.specs.Changes.{world_after_act}
use Rattle.km_model.specs.Follows.{past_of}
use Rattle.km_model.proofs.Cases.{some_same, none_some}
use Rattle.km_laws.proofs.Lists.{find_in}
use Rattle.km_laws.proofs.Since.{IsAnswered, follows_answered}
use Rattle.km_laws.proofs.Runs.{newest}
use Rattle.km_laws.proofs.Steps.{fits, last_is}
use Rattle.km_laws.proofs.Completions.{completed_by}
use Rattle.km_laws.proofs.Completed.{last_answer, at_completion}
use Rattle.km_converse.specs.Converse.{ForgottenAreListedByLoads, IsClear, IsKept, AreForgotten, is_before_sums, is_counting}
use Rattle.km_converse.proofs.Quiet.{AreLive}
use Rattle.km_converse.proofs.Numbers.{AllIn, AllSince, all_in, all_since, completion, scans_fit, begins_ends, completed_ends, completes_now, end_stays}
use Rattle.km_converse.proofs.Events.{Begun, Still, Made, event_case}
use Rattle.km_converse.proofs.SumNext.{end_over}
use Rattle.km_converse.proofs.Members.{Summed, AllKept, white_at, begun_summed, still_summed, made_summed, kept_on}
use Rattle.km_converse.proofs.Kept.{First, Second, first_begin, second_begin, over_summed, first_still, second_still, first_made, second_made}
use Rattle.km_converse.proofs.Ends.{white_unreferenced, unreferenced_are_listed}

-- what holds from the begin of scan j on, up to the end of scan k
pub record Inv (j k : ℕ) (ids : List ℕ) (value : ℕ → ℕ) (past : Past) : Type 0 where
  pub live : AreLive ids past
  pub summed : Summed value ids past
  pub kept : was_completed j past ≡ true → AllKept value ids past
  pub first : scans past ≡ j → was_completed j past ≡ false → First ids past
  pub second : scans past ≡ k → Second ids past

-- scan j was completed, or no later one begun
abbrev pub IsCompletedBefore : ℕ → Past → Type 0
IsCompletedBefore j past = (was_completed j past ≡ true) ⊎ (scans past ≤ j)

completed_down : (words : ℕ) (e : Event) (h : History) (j : ℕ) → IsAnswered words (e ∷ h) → IsCompletedBefore j (past_of (e ∷ h)) → IsCompletedBefore j (past_of h)
completed_down words e h j a (inr le) =
    inr (elim (begins e.act e.answer) as (λ q. (elim q as (λ _. ℕ) [ true ↦ scans (past_of h) + 1 | false ↦ scans (past_of h) ]) ≤ j → scans (past_of h) ≤ j) [
      | true ↦ λ f. omega (arith, f)
      | false ↦ λ f. f
    ] le)
completed_down words e h j a (inl done) =
    elim (cases_Bool (was_completed j (past_of h))) [
      | inl was ↦ inl was
      | inr none ↦ inr (let number = (completion words (past_of h) e.act a.0.0 e.answer j a.0.1 (completes_now e h j done none)).number in omega (arith, number))
    ]

scans_going : (e : Event) (h : History) → begins e.act e.answer ≡ false → scans (past_of (e ∷ h)) ≡ scans (past_of h)
scans_going e h f = ap (λ q. elim q as (λ _. ℕ) [ true ↦ scans (past_of h) + 1 | false ↦ scans (past_of h) ]) f

module _ (words j k : ℕ) (ids : List ℕ) (value : ℕ → ℕ) (lt : j < k) (some : 1 ≤ j) where
  -- one event
  module _ (e : Event) (h : History) (a : IsAnswered words (e ∷ h)) (kept : IsKept value ids (past_of (e ∷ h))) where
    not_completed : was_completed j (past_of (e ∷ h)) ≡ true → completes_scan j e.answer ≡ false → was_completed j (past_of h) ≡ true
    not_completed done none = subst (λ q. (q || was_completed j (past_of h)) ≡ true) none done

    inv_begun : (j ≤ scans (past_of h) → Inv j k ids value (past_of h)) → Begun (past_of h) e.act e.answer → Inv j k ids value (past_of (e ∷ h))
    inv_begun old g = record {
      live = kept.live;
      summed = begun_summed words e h ids value a kept g;
      kept = λ done.
          let was = not_completed done (false_from_ne_true (completes_scan j e.answer) (λ c. both_ways _ (begins_ends e.act e.answer g.begun) (completed_ends j e.answer c))) in
          let inv = old ((scans_fit words h a.1).completed j was).1 in
          kept_on words e h ids value a kept inv.live inv.summed (inl g) (inv.kept was);
      first = λ _ _. first_begin words (e ∷ h) ids a g.loads_are;
      second = λ _. second_begin (e ∷ h) ids g.loads_are;
    }

    -- at the end of scan j each member was summed
    kept_at_end : Inv j k ids value (past_of h) → completes_scan j e.answer ≡ true → was_completed j (past_of h) ≡ false → AllKept value ids (past_of h)
    kept_at_end inv now none b i m =
        let c = completion words (past_of h) e.act a.0.0 e.answer j a.0.1 now in
        let first = inv.first (sym c.number) none in
        (inv.summed b i m).full
        (elim (cases_eq (phase_of (newest (loads (past_of h)))) 4) [
          | inl four ↦ first.summed b i m (inl four)
          | inr other ↦
              let high = (fits h).0.high in
              let le : phase_of (newest (loads (past_of h))) ≤ 3 = omega (arith, high, other) in
              over_summed words h ids value a.1 inv.live inv.summed first le (end_over (past_of h) c.over (subst (λ o. phase_of o ≤ 3) (sym (last_is (past_of h))) le)) b i m
        ])

    inv_still : Inv j k ids value (past_of h) → Still (past_of h) e.act e.answer → Inv j k ids value (past_of (e ∷ h))
    inv_still inv g = record {
      live = kept.live;
      summed = still_summed words e h ids value a kept inv.live inv.summed g;
      kept = λ done. kept_on words e h ids value a kept inv.live inv.summed (inr (inl g)) (elim (cases_Bool (was_completed j (past_of h))) [
        | inl was ↦ inv.kept was
        | inr none ↦ kept_at_end inv (completes_now e h j done none) none
      ]);
      first = λ s none. first_still words e h ids value a inv.live inv.summed g
          (inv.first (sym (scans_going e h g.going) ∙ s) (or_parts (completes_scan j e.answer) (was_completed j (past_of h)) none).1);
      second = λ s. second_still words e h ids value a inv.live inv.summed g (inv.second (sym (scans_going e h g.going) ∙ s));
    }

    inv_made : IsCompletedBefore j (past_of h) → was_completed k (past_of h) ≡ false
        → (scans (past_of h) ≡ j → was_completed j (past_of h) ≡ false → IsClear is_before_sums ids (past_of (e ∷ h)))
        → (scans (past_of h) ≡ k → was_completed k (past_of h) ≡ false → IsClear is_counting ids (past_of (e ∷ h)))
        → Inv j k ids value (past_of h) → Made (past_of h) e.act e.answer → Inv j k ids value (past_of (e ∷ h))
    inv_made before none clear clear' inv g = record {
      live = kept.live;
      summed = made_summed words e h ids value a kept inv.live inv.summed g;
      kept = λ done. kept_on words e h ids value a kept inv.live inv.summed (inr (inr g)) (inv.kept (not_completed done (g.unended j)));
      first = λ s f.
          let s' = sym (scans_going e h g.going) ∙ s in
          let f' = (or_parts (completes_scan j e.answer) (was_completed j (past_of h)) f).1 in
          first_made words e h ids value a inv.live inv.summed g (inv.first s' f') (clear s' f');
      second = λ s.
          let s' = sym (scans_going e h g.going) ∙ s in
          second_made words e h ids value a inv.live inv.summed g (inv.second s') (inv.kept (elim before [ inl was ↦ was | inr le ↦ absurd (omega (arith, le, s', lt)) ])) kept (clear' s' none);
    }

  inv_at : (h : History) → IsAnswered words h → AllIn (IsClear is_before_sums ids) j (past_of h) → AllIn (IsClear is_counting ids) k (past_of h) → AllSince (IsKept value ids) j k (past_of h)
      → IsCompletedBefore j (past_of h) → was_completed k (past_of h) ≡ false → j ≤ scans (past_of h) → Inv j k ids value (past_of h)
  inv_at [] a c d s before none le = absurd (omega (arith, le, some))
  inv_at (e ∷ h) a c d s before none le =
      let none' = (or_parts (completes_scan k e.answer) (was_completed k (past_of h)) none).1 in
      let kept = s.0 le none' in
      let before' = completed_down words e h j a before in
      elim (event_case (past_of h) e.act e.answer) [
        | inl g ↦ inv_begun e h a kept (λ le'. inv_at h a.1 c.1 d.1 s.1 before' none' le') g
        | inr more ↦ elim more [
          | inl g ↦ inv_still e h a kept (inv_at h a.1 c.1 d.1 s.1 before' none' (subst (λ n. j ≤ n) (scans_going e h g.going) le)) g
          | inr g ↦ inv_made e h a kept before' none' c.0 d.0 (inv_at h a.1 c.1 d.1 s.1 before' none' (subst (λ n. j ≤ n) (scans_going e h g.going) le)) g
        ]
      ]

-- what is completed is the last scan
completes_is : (words : ℕ) (e : Event) (h : History) → IsAnswered words (e ∷ h) → completes e.answer ≡ true → completes_scan (scans (past_of h)) e.answer ≡ true
completes_is words e h a done =
    let how = completed_by words (past_of h) e.act a.0.0 (subst (λ s. completes s ≡ true) a.0.1 done) in
    let ended : e.answer ≡ Ended (scans (past_of h)) (length (new_blocks (past_of h))) =
    subst (λ (x : Act). e.answer ≡ answer words (past_of h) x a.0.0) how.0 a.0.1 ∙ last_answer words (past_of h) a.0.0 how.1.0 how.1.1 how.2 in
    subst (λ s. completes_scan (scans (past_of h)) s ≡ true) (sym ended) (eq-eqb (scans (past_of h)) (scans (past_of h)) refl)

pub last_was : (words : ℕ) (h : History) (k : ℕ) → IsAnswered words h → last_completed (past_of h) ≡ Some k → was_completed k (past_of h) ≡ true
last_was words [] k a f = absurd (none_some k f)
last_was words (e ∷ h) k a f =
    elim (completes e.answer) as (λ q. completes e.answer ≡ q → (if q then Some (scans (past_of h)) else last_completed (past_of h)) ≡ Some k → was_completed k (past_of (e ∷ h)) ≡ true) [
      | true ↦ λ done g. ap (λ q. q || was_completed k (past_of h)) (subst (λ n. completes_scan n e.answer ≡ true) (some_same (scans (past_of h)) k g) (completes_is words e h a done))
      | false ↦ λ _ g. or_true (completes_scan k e.answer) (was_completed k (past_of h)) (last_was words h k a.1 g)
    ] refl f
  where
    or_true : (p q : Bool) → q ≡ true → (p || q) ≡ true
    or_true true q g = refl
    or_true false q g = g

-- the end of scan k, and what holds just before
pub record AtEnd (words : ℕ) (h : History) (j k : ℕ) (ids : List ℕ) (value : ℕ → ℕ) : Type 0 where
  pub event : Event
  pub before : History
  pub answered : IsAnswered words (event ∷ before)
  pub done : completes event.answer ≡ true
  pub number : scans (past_of before) ≡ k
  pub ended : end_of k (past_of h) ≡ end_of (scans (past_of before)) (past_of (event ∷ before))
  pub verdict : last_unreferenced (past_of h) ≡ unreferenced (past_of before)
  pub inv : Inv j k ids value (past_of before)

pub at_end : (words j k : ℕ) (ids : List ℕ) (value : ℕ → ℕ) → j < k → 1 ≤ j → (h : History) → IsAnswered words h
    → AllIn (IsClear is_before_sums ids) j (past_of h) → AllIn (IsClear is_counting ids) k (past_of h) → AllSince (IsKept value ids) j k (past_of h) → IsCompletedBefore j (past_of h)
    → last_completed (past_of h) ≡ Some k → AtEnd words h j k ids value
at_end words j k ids value lt some [] a c d s before f = absurd (none_some k f)
at_end words j k ids value lt some (e ∷ h) a c d s before f =
    go (at_end words j k ids value lt some h a.1 c.1 d.1 s.1 (completed_down words e h j a before)) (completes e.answer) refl f
  where
    go : (last_completed (past_of h) ≡ Some k → AtEnd words h j k ids value) → (q : Bool) → completes e.answer ≡ q → (if q then Some (scans (past_of h)) else last_completed (past_of h)) ≡ Some k
        → AtEnd words (e ∷ h) j k ids value
    go rest true done g =
        let number : scans (past_of h) ≡ k = some_same (scans (past_of h)) k g in
        let now = subst (λ n. completes_scan n e.answer ≡ true) number (completes_is words e h a done) in
        let q = completion words (past_of h) e.act a.0.0 e.answer k a.0.1 now in
        let run = (scans_fit words h a.1).running q.scan q.running in
        let none : was_completed k (past_of h) ≡ false = subst (λ n. was_completed n (past_of h) ≡ false) (run.0 ∙ number) run.2 in
        record {
          event = e;
          before = h;
          answered = a;
          done = done;
          number = number;
          ended = ap (λ n. end_of n (past_of (e ∷ h))) (sym number);
          verdict = ap (λ q. elim q as (λ _. List ℕ) [ true ↦ unreferenced (past_of h) | false ↦ last_unreferenced (past_of h) ]) done;
          inv = inv_at words j k ids value lt some h a.1 c.1 d.1 s.1 (completed_down words e h j a before) none (omega (arith, number, lt));
        }
    go rest false unended g =
        let r = rest g in
        record {
          event = r.event;
          before = r.before;
          answered = r.answered;
          done = r.done;
          number = r.number;
          ended = end_stays words e h k a (last_was words h k a.1 g) ∙ r.ended;
          verdict = ap (λ q. elim q as (λ _. List ℕ) [ true ↦ unreferenced (past_of h) | false ↦ last_unreferenced (past_of h) ]) unended ∙ r.verdict;
          inv = r.inv;
        }

-- the end of a completed scan changes neither what stands nor which scan was begun
end_leaves : (words : ℕ) (e : Event) (h : History) → IsAnswered words (e ∷ h) → completes e.answer ≡ true
    → (world (end_of (scans (past_of h)) (past_of (e ∷ h))) ≡ world (past_of h)) × (at_begin (end_of (scans (past_of h)) (past_of (e ∷ h))) ≡ at_begin (past_of h))
unfolding world_after_act
end_leaves words e h a done =
    at_completion words h e.act e.answer a.0.0 (λ p. (world p ≡ world (past_of h)) × (at_begin p ≡ at_begin (past_of h))) a.0.1 done
    (λ k n run none. (refl, refl))

-- what is forgotten through two completed scans is unreferenced at the second, was new once, and is listed while it is live and can be reported
pub forgotten : (words : ℕ) (h : History) (j k : ℕ) (ids : List ℕ) (value : ℕ → ℕ) → IsAnswered words h
    → j < k → was_completed j (past_of h) ≡ true → last_completed (past_of h) ≡ Some k → AreForgotten (past_of h) j k ids value
    → (id : ℕ) (b : Block) → is_among id ids ≡ true → block_of (world (end_of k (past_of h))).blocks id ≡ Some b
    → b.born + 1000 ≤ (world (at_begin (end_of k (past_of h)))).now
    → (is_among id (last_unreferenced (past_of h)) ≡ true)
    × ((later : History) → times_new (past_of (later ++ h)) id ≡ 1)
    × ((c : Block) → block_of (world (past_of h)).blocks id ≡ Some c → can_be_reported c ≡ true → is_among id (listing_ids (past_of h)) ≡ true)
forgotten words h j k ids value a lt completed last f id b m found old =
    let was = last_was words h k a last in
    let end = at_end words j k ids value lt ((scans_fit words h a).completed j completed).0 h a (all_in (IsClear is_before_sums ids) words h j a completed f.first)
    (all_in (IsClear is_counting ids) words h k a was f.second) (all_since (IsKept value ids) words h j k a was f.kept) (inl completed) last in
    let leaves = end_leaves words end.event end.before end.answered end.done in
    let stands : world (end_of k (past_of h)) ≡ world (past_of end.before) = ap world end.ended ∙ leaves.0 in
    let begun : at_begin (end_of k (past_of h)) ≡ at_begin (past_of end.before) = ap at_begin end.ended ∙ leaves.1 in
    let found' : block_of (world (past_of end.before)).blocks id ≡ Some b = subst (λ (w : World). block_of w.blocks id ≡ Some b) stands found in
    let at = find_in (λ (c : Block). c.id == id) (world (past_of end.before)).blocks b found' in
    let same : b.id ≡ id = eqb-true b.id id at.0 in
    let old' : b.born + 1000 ≤ begin_moment (past_of end.before) = subst (λ (p : Past). b.born + 1000 ≤ (world p).now) begun old in
    let m' : is_among b.id ids ≡ true = subst (λ n. is_among n ids ≡ true) (sym same) m in
    let second = (end.inv).second end.number in
    let white = white_at words end.before ids (end.answered).1 (end.inv).live second.quiet b at.1 m' (second.same b.id m') in
    let among : is_among id (last_unreferenced (past_of h)) ≡ true =
    subst (λ ns. is_among id ns ≡ true) (sym end.verdict) (subst (λ n. is_among n (unreferenced (past_of end.before)) ≡ true) same (white_unreferenced (past_of end.before) b at.1 white old')) in
    let law = unreferenced_are_listed h id among in
    (among, law.0, law.1)

pub forgotten_are_listed_by_loads : ForgottenAreListedByLoads
forgotten_are_listed_by_loads words h j k ids value follows = forgotten words h j k ids value (follows_answered words h follows)
