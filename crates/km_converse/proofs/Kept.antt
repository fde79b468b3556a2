use Rattle.std.proofs.Common.{◌≡◌, ℕ, suc, ◌/◌, ◌<◌, ◌≤◌, ◌==◌, true, false, ◌&&◌, not, List, [], ◌∷◌, Option, Some, None, if◌then◌else◌, refl, sym, ◌∙◌, ap, subst, arith, ◌⊎◌, inl, inr, eqb-true, eq-eqb, le-leb}
use Rattle.std.proofs.lemmas.Bool.{and_parts, and_from, both_ways, cases_Bool, cases_lt, cases_order, cases_eq, false_from_ne_true, or_from, eqb-false, not-true}
use Rattle.km_model.specs.History.{Event, History}
use Rattle.km_model.specs.Blocks.{Block, is_among, option_is}
use Rattle.km_model.specs.Past.{Past, Place, ScanLoad, world, loads, last_load}
use Rattle.km_model.specs.Scan.{next, is_white, sums, sum_so_far, sum_step, last_word, kept_sum, changed_in, scan_load, phase_of, first_queue, second_queue}
use Rattle.km_model.specs.Follows.{past_of}
use Rattle.km_model.proofs.Cases.{none_some, some_same}
use Rattle.km_model.proofs.Ripe.{is_some_same}
use Rattle.km_laws.specs.Left.{made}
use Rattle.km_laws.proofs.Lists.{In}
use Rattle.km_laws.proofs.Runs.{newest, made_same, made_more}
use Rattle.km_laws.proofs.Steps.{fits, next_good, last_is}
use Rattle.km_laws.proofs.Since.{IsAnswered}
use Rattle.km_converse.specs.Converse.{is_clear, IsClear, IsKept, is_before_sums, is_counting}
use Rattle.km_laws.proofs.Hits.{option_here}
use Rattle.km_converse.proofs.Links.{AreQuiet, quiet_begin, quiet_load, quiet_step}
use Rattle.km_converse.proofs.Places.{early_same, good_later}
use Rattle.km_converse.proofs.Quiet.{AreLive, not_holder}
use Rattle.km_converse.proofs.Facts.{distinct_now, heads_now, heads_step, below_registered, place_now}
use Rattle.km_converse.proofs.Events.{Still, Made}
use Rattle.km_converse.proofs.SumNext.{IsAfter, IsDone, IsOver, next_sums, next_over}
use Rattle.km_converse.proofs.Sums.{sum_of, facts_more, done_made, sums_place, found_how}
use Rattle.km_converse.proofs.Members.{whole, last_word_is, was_member, Summed, AllKept, white_at}
use Rattle.km_converse.proofs.Quiet.{live_at}

-- the sums have come past a block
abbrev pub Passed : List ScanLoad → ℕ → Type 0
Passed ls id = (phase_of (newest ls) ≡ 4) ⊎ ((l : ScanLoad) × (newest ls ≡ Some l) × (l.place.phase ≡ 3) × (id < l.place.holder))

-- in the first of the two scans: the members are quiet up to the sums, those that the sums have passed were summed,
-- and no sum of one that wasn't was found changed
pub record First (ids : List ℕ) (past : Past) : Type 0 where
  pub quiet : phase_of (newest (loads past)) ≤ 3 → AreQuiet ids (world past) (loads past)
  pub summed : (b : Block) → In b (world past).blocks → is_among b.id ids ≡ true → Passed (loads past) b.id → made 3 b.id (loads past) ≡ b.size / 8
  pub same : (b : Block) → In b (world past).blocks → is_among b.id ids ≡ true → made 3 b.id (loads past) < b.size / 8 → changed_in (loads past) b.id ≡ false

-- in the second: they are quiet, and no sum of one was found changed
pub record Second (ids : List ℕ) (past : Past) : Type 0 where
  pub quiet : AreQuiet ids (world past) (loads past)
  pub same : (id : ℕ) → is_among id ids ≡ true → changed_in (loads past) id ≡ false

pub first_begin : (words : ℕ) (h : History) (ids : List ℕ) → IsAnswered words h → loads (past_of h) ≡ [] → First ids (past_of h)
first_begin words h ids a none = record {
  quiet = λ _. subst (λ ls. AreQuiet ids (world (past_of h)) ls) (sym none) (quiet_begin ids (world (past_of h)));
  summed = λ b i m p. absurd (passed (subst (λ ls. Passed ls b.id) none p));
  same = λ b i m _. ap (λ ls. changed_in ls b.id) none;
}
  where
    passed : {id : ℕ} → Passed [] id → ⊥
    passed (inl four) = omega (arith, four)
    passed (inr l) = none_some l.0 l.1

pub second_begin : (h : History) (ids : List ℕ) → loads (past_of h) ≡ [] → Second ids (past_of h)
second_begin h ids none = record {
  quiet = subst (λ ls. AreQuiet ids (world (past_of h)) ls) (sym none) (quiet_begin ids (world (past_of h)));
  same = λ id m. ap (λ ls. changed_in ls id) none;
}

-- the members of the set were registered before
member_low : (h : History) (ids : List ℕ) → AreLive ids (past_of h) → (b : Block) → is_among b.id ids ≡ true → b.id < (world (past_of h)).registered
member_low h ids live b m =
    let at = live_at (past_of h) b.id (live b.id m) in
    subst (λ n. n < (world (past_of h)).registered) at.2 (below_registered h at.0 at.1)

-- the sums are over
after_or : (last : Option ScanLoad) (id : ℕ) → IsAfter last id ⊎ ((l : ScanLoad) × (last ≡ Some l) × (l.place.phase ≡ 3) × ((l.place.holder ≡ id) ⊎ (id < l.place.holder)))
after_or None id = inl tt
after_or (Some l) id =
    elim (cases_eq l.place.phase 3) [
      | inr other ↦ inl (λ three. absurd (other three))
      | inl three ↦ elim (cases_order l.place.holder id) [
        | inl same ↦ inr (l, refl, three, inl same)
        | inr more ↦ elim more [ inl lt ↦ inl (λ _. lt) | inr lt ↦ inr (l, refl, three, inr lt) ]
      ]
    ]

module _ (words : ℕ) (h : History) (ids : List ℕ) (value : ℕ → ℕ) (a : IsAnswered words h) (live : AreLive ids (past_of h)) (all : Summed value ids (past_of h)) (first : First ids (past_of h)) where
  -- a member that wasn't summed yet is white
  white_first : phase_of (newest (loads (past_of h))) ≤ 3 → (b : Block) → In b (world (past_of h)).blocks → is_among b.id ids ≡ true → made 3 b.id (loads (past_of h)) < b.size / 8 → is_white (past_of h) b ≡ true
  white_first le b i m lt = white_at words h ids a live (first.quiet le) b i m (first.same b i m lt)

  summed_or : phase_of (newest (loads (past_of h))) ≤ 3 → (b : Block) → In b (world (past_of h)).blocks → is_among b.id ids ≡ true
      → (is_white (past_of h) b ≡ true → made 3 b.id (loads (past_of h)) ≡ b.size / 8) → made 3 b.id (loads (past_of h)) ≡ b.size / 8
  summed_or le b i m f =
      elim (cases_lt (made 3 b.id (loads (past_of h))) (b.size / 8)) [
        | inl lt ↦ f (white_first le b i m lt)
        | inr ge ↦ let low = (all b i m).low in omega (arith, ge, low)
      ]

  -- behind the block that is summed, or done
  summed_behind : IsDone (past_of h) (last_load (past_of h)) → phase_of (newest (loads (past_of h))) ≤ 3 → (b : Block) → In b (world (past_of h)).blocks → is_among b.id ids ≡ true
      → (l : ScanLoad) × (last_load (past_of h) ≡ Some l) × (l.place.phase ≡ 3) × ((l.place.holder ≡ b.id) ⊎ (b.id < l.place.holder)) → made 3 b.id (loads (past_of h)) ≡ b.size / 8
  summed_behind done le b i m l =
      elim l.3 [
        | inl same ↦ summed_or le b i m (λ white. done_made value h (distinct_now words h a) b i (all b i m) (whole words h a b i).0 l.0 l.1 l.2 same (done l.0 l.1 l.2) white)
        | inr lt ↦ first.summed b i m (inr (l.0, sym (last_is (past_of h)) ∙ l.1, l.2, lt))
      ]

  pub over_summed : phase_of (newest (loads (past_of h))) ≤ 3 → IsOver (past_of h) (last_load (past_of h)) → (b : Block) → In b (world (past_of h)).blocks → is_among b.id ids ≡ true → made 3 b.id (loads (past_of h)) ≡ b.size / 8
  over_summed le over b i m =
      elim (after_or (last_load (past_of h)) b.id) [
        | inl after ↦ summed_or le b i m (λ white. absurd (over.none b i white after))
        | inr l ↦ summed_behind over.done le b i m l
      ]

  -- a load of the third phase that goes past a member finds it summed
  passed_three : (place : Place) → next (past_of h) ≡ Some place → place.phase ≡ 3 → phase_of (newest (loads (past_of h))) ≤ 3 → (b : Block) → In b (world (past_of h)).blocks → is_among b.id ids ≡ true → b.id < place.holder
      → made 3 b.id (loads (past_of h)) ≡ b.size / 8
  passed_three place n three le b i m lt =
      elim (next_sums (past_of h) (world (past_of h)).registered place (fits h).1.blocks_rise n three) [
        | inl g ↦ first.summed b i m (inr (g.load, sym (last_is (past_of h)) ∙ g.newest, g.three, subst (λ x. b.id < x) g.holder lt))
        | inr f ↦ elim (after_or (last_load (past_of h)) b.id) [
          | inl after ↦ summed_or le b i m (λ white. absurd (let least = f.first b i white after in let holder = f.holder in omega (arith, least, holder, lt)))
          | inr l ↦ summed_behind f.done le b i m l
        ]
      ]

  passed_four : (place : Place) → next (past_of h) ≡ Some place → place.phase ≡ 4 → (b : Block) → In b (world (past_of h)).blocks → is_among b.id ids ≡ true → made 3 b.id (loads (past_of h)) ≡ b.size / 8
  passed_four place n four b i m =
      elim (cases_eq (phase_of (newest (loads (past_of h)))) 4) [
        | inl same ↦ first.summed b i m (inl same)
        | inr other ↦
            let high = (fits h).0.high in
            let le : phase_of (newest (loads (past_of h))) ≤ 3 = omega (arith, high, other) in
            over_summed le (next_over (past_of h) place n four (subst (λ o. phase_of o ≤ 3) (sym (last_is (past_of h))) le)) b i m
      ]

-- where all are quiet, a load keeps them so
module _ (words : ℕ) (h : History) (ids : List ℕ) (a : IsAnswered words h) (live : AreLive ids (past_of h)) (place : Place) (value : ℕ) (n : next (past_of h) ≡ Some place) where
  load_quiet : ((place.phase == 3) ≡ false → (id : ℕ) → is_among id ids ≡ true → changed_in (loads (past_of h)) id ≡ false)
      → ((place.phase == 3) ≡ false → (b : Block) → In b (world (past_of h)).blocks → is_among b.id ids ≡ true → is_clear (world (past_of h)) ids b (scan_load (past_of h) place value) ≡ true)
      → AreQuiet ids (world (past_of h)) (loads (past_of h)) → AreQuiet ids (world (past_of h)) (scan_load (past_of h) place value ∷ loads (past_of h))
  load_quiet same clear old =
      quiet_load ids (past_of h) place value (distinct_now words h a) (heads_now words h a) (place_now words h place a n)
      (λ counts. not_holder h ids place n (heads_now words h a) (distinct_now words h a) live old (same counts) counts) clear old

  phase_later : phase_of (newest (loads (past_of h))) ≤ place.phase
  phase_later = good_later (first_queue (past_of h)) (second_queue (past_of h)) (loads (past_of h)) (world (past_of h)).blocks (world (past_of h)).tasks place (next_good (past_of h) place (fits h) n)

module _ (words : ℕ) (e : Event) (h : History) (ids : List ℕ) (value : ℕ → ℕ) (a : IsAnswered words (e ∷ h)) (live : AreLive ids (past_of h)) (all : Summed value ids (past_of h)) where
  step_quiet : (ls : List ScanLoad) → AreQuiet ids (world (past_of h)) ls → AreQuiet ids (world (past_of (e ∷ h))) ls
  step_quiet ls old = quiet_step ids (world (past_of h)) (world (past_of (e ∷ h))) ls (heads_step words e h a) (λ b i m. member_low h ids live b m) old

  -- what holds of a member by its id and its number of words
  of_member : (P : ℕ → ℕ → Type 0) → ((b : Block) → In b (world (past_of h)).blocks → is_among b.id ids ≡ true → P b.id (b.size / 8))
      → (b : Block) → In b (world (past_of (e ∷ h))).blocks → is_among b.id ids ≡ true → P b.id (b.size / 8)
  of_member P f b i m =
      let old = was_member words e h ids a live b i m in
      subst (λ s. P b.id (s / 8)) old.4 (subst (λ x. P x ((old.0).size / 8)) old.2 (f old.0 old.1 (subst (λ x. is_among x ids ≡ true) (sym old.2) m)))

  pub first_still : Still (past_of h) e.act e.answer → First ids (past_of h) → First ids (past_of (e ∷ h))
  first_still g first = record {
    quiet = λ le. subst (λ ls. AreQuiet ids (world (past_of (e ∷ h))) ls) (sym g.loads_are) (step_quiet (loads (past_of h)) (first.quiet (subst (λ ls. phase_of (newest ls) ≤ 3) g.loads_are le)));
    summed = of_member (λ id k. Passed (loads (past_of (e ∷ h))) id → made 3 id (loads (past_of (e ∷ h))) ≡ k)
        (subst (λ ls. (b : Block) → In b (world (past_of h)).blocks → is_among b.id ids ≡ true → Passed ls b.id → made 3 b.id ls ≡ b.size / 8) (sym g.loads_are) first.summed);
    same = of_member (λ id k. made 3 id (loads (past_of (e ∷ h))) < k → changed_in (loads (past_of (e ∷ h))) id ≡ false)
        (subst (λ ls. (b : Block) → In b (world (past_of h)).blocks → is_among b.id ids ≡ true → made 3 b.id ls < b.size / 8 → changed_in ls b.id ≡ false) (sym g.loads_are) first.same);
  }

  pub second_still : Still (past_of h) e.act e.answer → Second ids (past_of h) → Second ids (past_of (e ∷ h))
  second_still g second = record {
    quiet = subst (λ ls. AreQuiet ids (world (past_of (e ∷ h))) ls) (sym g.loads_are) (step_quiet (loads (past_of h)) second.quiet);
    same = λ id m. ap (λ ls. changed_in ls id) g.loads_are ∙ second.same id m;
  }

  -- a load of the first of the two scans
  module _ (g : Made (past_of h) e.act e.answer) (first : First ids (past_of h)) where
    made_quiet : IsClear is_before_sums ids (past_of (e ∷ h)) → g.place.phase ≤ 3 → AreQuiet ids (world (past_of (e ∷ h))) (scan_load (past_of h) g.place g.value ∷ loads (past_of h))
    made_quiet clear le =
        let later = phase_later words h ids a.1 live g.place g.value g.found in
        step_quiet (scan_load (past_of h) g.place g.value ∷ loads (past_of h))
        (load_quiet words h ids a.1 live g.place g.value g.found
        (λ counts id m. early_same h g.place g.found (before counts) id)
        (λ counts b i m. clear (scan_load (past_of h) g.place g.value) g.load (le-leb g.place.phase 2 (before counts)) b i m)
        (first.quiet (omega (arith, later, le))))
      where
        before : (g.place.phase == 3) ≡ false → g.place.phase ≤ 2
        before counts = let other = eqb-false g.place.phase 3 counts in omega (arith, le, other)

    -- what was summed before the load is summed
    still_made : (b : Block) → In b (world (past_of h)).blocks → is_among b.id ids ≡ true → made 3 b.id (loads (past_of h)) ≡ b.size / 8
        → made 3 b.id (scan_load (past_of h) g.place g.value ∷ loads (past_of h)) ≡ b.size / 8
    still_made b i m done =
        elim (cases_Bool (g.place.phase == 3 && g.place.holder == b.id)) [
          | inl it ↦
              let parts = and_parts (g.place.phase == 3) (g.place.holder == b.id) it in
              let k = sums_place value h (distinct_now words h a.1) b i (all b i m) (whole words h a.1 b i).0 g.place g.found (eqb-true g.place.phase 3 parts.0) (eqb-true g.place.holder b.id parts.1) in
              absurd (let lt = k.1 in omega (arith, lt, done))
          | inr other ↦ ap (λ q. if q then suc (made 3 b.id (loads (past_of h))) else made 3 b.id (loads (past_of h))) other ∙ done
        ]

    made_passed : (b : Block) → In b (world (past_of h)).blocks → is_among b.id ids ≡ true → Passed (scan_load (past_of h) g.place g.value ∷ loads (past_of h)) b.id
        → made 3 b.id (scan_load (past_of h) g.place g.value ∷ loads (past_of h)) ≡ b.size / 8
    made_passed b i m (inl four) = still_made b i m (passed_four words h ids value a.1 live all first g.place g.found four b i m)
    made_passed b i m (inr k) =
        let same : k.0 ≡ scan_load (past_of h) g.place g.value = sym (some_same (scan_load (past_of h) g.place g.value) k.0 k.1) in
        let three : g.place.phase ≡ 3 = subst (λ (x : ScanLoad). x.place.phase ≡ 3) same k.2 in
        let later = phase_later words h ids a.1 live g.place g.value g.found in
        still_made b i m (passed_three words h ids value a.1 live all first g.place g.found three (omega (arith, later, three)) b i m (subst (λ (x : ScanLoad). b.id < x.place.holder) same k.3))

    made_unchanged : (b : Block) → In b (world (past_of h)).blocks → is_among b.id ids ≡ true → made 3 b.id (scan_load (past_of h) g.place g.value ∷ loads (past_of h)) < b.size / 8
        → changed_in (scan_load (past_of h) g.place g.value ∷ loads (past_of h)) b.id ≡ false
    made_unchanged b i m lt =
        or_from (option_is (scan_load (past_of h) g.place g.value).changed b.id) (changed_in (loads (past_of h)) b.id)
        (false_from_ne_true (option_is (scan_load (past_of h) g.place g.value).changed b.id) (λ found.
        let f = found_how (past_of h) g.place g.value b.id (option_here (scan_load (past_of h) g.place g.value).changed b.id found) in
        let same : f.block ≡ b = (distinct_now words h a.1).ids f.block b f.live i f.same in
        let k = sums_place value h (distinct_now words h a.1) b i (all b i m) (whole words h a.1 b i).0 g.place g.found f.three f.holder in
        let all' : suc (made 3 b.id (loads (past_of h))) ≡ b.size / 8 =
        last_word_is b (made 3 b.id (loads (past_of h))) (whole words h a.1 b i).1 k.1 (sym k.0 ∙ subst (λ c. g.place.word ≡ last_word c) same f.word) in
        let more : made 3 b.id (scan_load (past_of h) g.place g.value ∷ loads (past_of h)) ≡ suc (made 3 b.id (loads (past_of h))) =
        made_same 3 b.id (scan_load (past_of h) g.place g.value) (loads (past_of h)) f.three f.holder in
        omega (arith, lt, all', more)))
        (first.same b i m (elim (made_more 3 b.id (scan_load (past_of h) g.place g.value) (loads (past_of h))) [ inl same ↦ omega (arith, lt, same) | inr more ↦ omega (arith, lt, more) ]))

    pub first_made : IsClear is_before_sums ids (past_of (e ∷ h)) → First ids (past_of (e ∷ h))
    first_made clear = record {
      quiet = λ le. subst (λ ls. AreQuiet ids (world (past_of (e ∷ h))) ls) (sym g.loads_are) (made_quiet clear (subst (λ ls. phase_of (newest ls) ≤ 3) g.loads_are le));
      summed = of_member (λ id k. Passed (loads (past_of (e ∷ h))) id → made 3 id (loads (past_of (e ∷ h))) ≡ k)
          (subst (λ ls. (b : Block) → In b (world (past_of h)).blocks → is_among b.id ids ≡ true → Passed ls b.id → made 3 b.id ls ≡ b.size / 8) (sym g.loads_are) made_passed);
      same = of_member (λ id k. made 3 id (loads (past_of (e ∷ h))) < k → changed_in (loads (past_of (e ∷ h))) id ≡ false)
          (subst (λ ls. (b : Block) → In b (world (past_of h)).blocks → is_among b.id ids ≡ true → made 3 b.id ls < b.size / 8 → changed_in ls b.id ≡ false) (sym g.loads_are) made_unchanged);
    }

  -- a load of the second finds the sum of no member changed
  module _ (g : Made (past_of h) e.act e.answer) (second : Second ids (past_of h)) (sums_kept : AllKept value ids (past_of h)) (kept : IsKept value ids (past_of (e ∷ h))) where
    not_found : (id : ℕ) → is_among id ids ≡ true → (scan_load (past_of h) g.place g.value).changed ≡ Some id → ⊥
    not_found id m found =
        let f = found_how (past_of h) g.place g.value id found in
        let m' : is_among f.block.id ids ≡ true = subst (λ x. is_among x ids ≡ true) (sym f.same) m in
        let holder : g.place.holder ≡ f.block.id = f.holder ∙ sym f.same in
        let facts = all f.block f.live m' in
        let k = sums_place value h (distinct_now words h a.1) f.block f.live facts (whole words h a.1 f.block f.live).0 g.place g.found f.three holder in
        let last : suc (made 3 f.block.id (loads (past_of h))) ≡ f.block.size / 8 =
        last_word_is f.block (made 3 f.block.id (loads (past_of h))) (whole words h a.1 f.block f.live).1 k.1 (sym k.0 ∙ f.word) in
        let l : ScanLoad = scan_load (past_of h) g.place g.value in
        let more = facts_more value l (loads (past_of h)) (kept_sum (past_of h) f.block) (Some (sum_so_far (l ∷ loads (past_of h)) f.block.id)) f.block.id f.block.start (f.block.size / 8) f.three holder k.0 k.1
        (kept.unchanged l g.load f.three (subst (λ x. is_among x ids ≡ true) (sym f.holder) m)) (λ _. refl) facts in
        let it : sums f.block.id l ≡ true = and_from (g.place.phase == 3) (g.place.holder == f.block.id) (eq-eqb g.place.phase 3 f.three) (eq-eqb g.place.holder f.block.id holder) in
        let sum_is : sum_step (sum_so_far (loads (past_of h)) f.block.id) g.value ≡ sum_of value f.block.start (f.block.size / 8) =
        sym (ap (λ q. if q then sum_step (sum_so_far (loads (past_of h)) f.block.id) g.value else sum_so_far (loads (past_of h)) f.block.id) it)
        ∙ some_same (sum_so_far (l ∷ loads (past_of h)) f.block.id) (sum_of value f.block.start (f.block.size / 8)) (more.full (made_same 3 f.block.id l (loads (past_of h)) f.three holder ∙ last)) in
        both_ways (option_is (kept_sum (past_of h) f.block) (sum_step (sum_so_far (loads (past_of h)) f.block.id) g.value))
        (not-true (option_is (kept_sum (past_of h) f.block) (sum_step (sum_so_far (loads (past_of h)) f.block.id) g.value)) f.differs_is)
        (is_some_same (kept_sum (past_of h) f.block) (sum_of value f.block.start (f.block.size / 8)) (sum_step (sum_so_far (loads (past_of h)) f.block.id) g.value) (sums_kept f.block f.live m') sum_is)

    pub second_made : IsClear is_counting ids (past_of (e ∷ h)) → Second ids (past_of (e ∷ h))
    second_made clear = record {
      quiet = subst (λ ls. AreQuiet ids (world (past_of (e ∷ h))) ls) (sym g.loads_are)
          (step_quiet (scan_load (past_of h) g.place g.value ∷ loads (past_of h))
          (load_quiet words h ids a.1 live g.place g.value g.found (λ _ id m. second.same id m)
          (λ counts b i m. clear (scan_load (past_of h) g.place g.value) g.load (ap not counts) b i m) second.quiet));
      same = λ id m. ap (λ ls. changed_in ls id) g.loads_are
          ∙ or_from (option_is (scan_load (past_of h) g.place g.value).changed id) (changed_in (loads (past_of h)) id)
          (false_from_ne_true (option_is (scan_load (past_of h) g.place g.value).changed id) (λ found. not_found id m (option_here (scan_load (past_of h) g.place g.value).changed id found)))
          (second.same id m);
    }
