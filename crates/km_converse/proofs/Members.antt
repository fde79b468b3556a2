use Rattle.std.proofs.Common.{◌≡◌, ℕ, suc, ◌+◌, ◌*◌, ◌/◌, ◌<◌, ◌≤◌, ◌==◌, true, false, ◌&&◌, List, ◌∷◌, Option, Some, None, sym, ◌∙◌, ap, subst, arith, ◌⊎◌, inl, inr, eqb-true, eq-eqb}
use Rattle.std.proofs.lemmas.Bool.{and_parts, and_from, both_ways, cases_Bool}
use Rattle.km_model.specs.History.{Event, History}
use Rattle.km_model.specs.Blocks.{Block, is_among}
use Rattle.km_model.specs.Past.{Past, Place, ScanLoad, world, loads}
use Rattle.km_model.specs.Scan.{next, is_white, sums, sum_so_far, last_word, finishes_summing, kept_sum, changed_in, scan_load, load_of}
use Rattle.km_model.specs.Follows.{past_of, moment}
use Rattle.km_model.proofs.Whites.{white_is}
use Rattle.km_laws.specs.Left.{made}
use Rattle.km_laws.specs.Placed.{BlockPlaced}
use Rattle.km_laws.proofs.Lists.{In, each_in}
use Rattle.km_laws.proofs.Runs.{made_same}
use Rattle.km_laws.proofs.Since.{IsAnswered}
use Rattle.km_converse.specs.Converse.{IsKept}
use Rattle.km_converse.proofs.Links.{AreQuiet, quiet_white}
use Rattle.km_converse.proofs.Headed.{Old}
use Rattle.km_converse.proofs.Acts.{placed, stepped}
use Rattle.km_converse.proofs.Quiet.{AreLive, live_at, reported}
use Rattle.km_converse.proofs.Facts.{distinct_now, heads_now, below_registered}
use Rattle.km_converse.proofs.Events.{Begun, Still, Made}
use Rattle.km_converse.proofs.Sums.{SumFacts, sum_of, facts_begin, facts_other, facts_more, facts_kept, facts_of, kept_same, kept_stays, kept_new, sums_place}

-- a block has whole words
pub whole : (words : ℕ) (h : History) → IsAnswered words h → (b : Block) → In b (world (past_of h)).blocks → (1 ≤ b.size / 8) × (b.size ≡ 8 * (b.size / 8))
whole words h a b i =
    let k = (each_in (BlockPlaced (world (past_of h)).used) (world (past_of h)).blocks b (placed words h a).blocks_in i).6.1 in
    let e : b.size ≡ 8 * suc k.0 = k.1 in
    (omega (arith, e), omega (arith, e))

pub last_word_is : (b : Block) (i : ℕ) → b.size ≡ 8 * (b.size / 8) → i < b.size / 8 → b.start + 8 * i ≡ last_word b → suc i ≡ b.size / 8
last_word_is b i e lt f = omega (arith, e, lt, f)

pub is_last_word : (b : Block) (i a : ℕ) → b.size ≡ 8 * (b.size / 8) → suc i ≡ b.size / 8 → a ≡ b.start + 8 * i → a ≡ last_word b
is_last_word b i a e f g = omega (arith, e, f, g)

-- a member of the set that is live, where all are live before the event too, was there before
pub was_member : (words : ℕ) (e : Event) (h : History) (ids : List ℕ) → IsAnswered words (e ∷ h) → AreLive ids (past_of h)
    → (b : Block) → In b (world (past_of (e ∷ h))).blocks → is_among b.id ids ≡ true → Old (world (past_of h)).blocks b
was_member words e h ids a live b i m =
    elim ((stepped words e h a).blocks_by b i) [
      | inl old ↦ old
      | inr new ↦ absurd (
          let at = live_at (past_of h) b.id (live b.id m) in
          let low : at.0.id < (world (past_of h)).registered = below_registered h at.0 at.1 in
          let same : at.0.id ≡ b.id = at.2 in let le = new.0 in omega (arith, low, same, le))
    ]

-- the sums of the members
abbrev pub Summed : (ℕ → ℕ) → List ℕ → Past → Type 0
Summed value ids past =
    (b : Block) → In b (world past).blocks → is_among b.id ids ≡ true → SumFacts value (loads past) (kept_sum past b) b.id b.start (b.size / 8)

-- each has the sum of its words as kept sum
abbrev pub AllKept : (ℕ → ℕ) → List ℕ → Past → Type 0
AllKept value ids past = (b : Block) → In b (world past).blocks → is_among b.id ids ≡ true → kept_sum past b ≡ Some (sum_of value b.start (b.size / 8))

-- a member whose sum wasn't found changed is white, while they are quiet
pub white_at : (words : ℕ) (h : History) (ids : List ℕ) → IsAnswered words h → AreLive ids (past_of h) → AreQuiet ids (world (past_of h)) (loads (past_of h))
    → (b : Block) → In b (world (past_of h)).blocks → is_among b.id ids ≡ true → changed_in (loads (past_of h)) b.id ≡ false → is_white (past_of h) b ≡ true
white_at words h ids a live quiet b i m unchanged =
    white_is (past_of h) b
    ∙ quiet_white ids (world (past_of h)) (loads (past_of h)) (heads_now words h a) quiet b i m (reported h ids live (distinct_now words h a) b i m) unchanged

module _ (words : ℕ) (e : Event) (h : History) (ids : List ℕ) (value : ℕ → ℕ) (a : IsAnswered words (e ∷ h)) (kept : IsKept value ids (past_of (e ∷ h))) where
  -- no summing of a member is finished by what is no load
  unfinished : (b : Block) → load_of (past_of h) e.act e.answer ≡ None → finishes_summing b (load_of (past_of h) e.act e.answer) ≡ false
  unfinished b none = ap (finishes_summing b) none

  -- at the begin of a scan
  pub begun_summed : Begun (past_of h) e.act e.answer → Summed value ids (past_of (e ∷ h))
  begun_summed g b i m =
      subst (λ ls. SumFacts value ls (kept_sum (past_of (e ∷ h)) b) b.id b.start (b.size / 8)) (sym g.loads_are)
      (facts_begin value (kept_sum (past_of (e ∷ h)) b) b.id b.start (b.size / 8) (whole words (e ∷ h) a b i).0)

  module _ (live : AreLive ids (past_of h)) (summed : Summed value ids (past_of h)) where
    -- a member's facts before the event
    before : (b : Block) → In b (world (past_of (e ∷ h))).blocks → is_among b.id ids ≡ true → SumFacts value (loads (past_of h)) (kept_sum (past_of h) b) b.id b.start (b.size / 8)
    before b i m =
        let old = was_member words e h ids a live b i m in
        facts_of value (past_of h) old.0 b old.2 old.3 old.4 (summed old.0 old.1 (subst (λ n. is_among n ids ≡ true) (sym old.2) m))

    pub still_summed : Still (past_of h) e.act e.answer → Summed value ids (past_of (e ∷ h))
    still_summed g b i m =
        subst (λ ls. SumFacts value ls (kept_sum (past_of (e ∷ h)) b) b.id b.start (b.size / 8)) (sym g.loads_are)
        (facts_kept value (loads (past_of h)) (kept_sum (past_of h) b) (kept_sum (past_of (e ∷ h)) b) b.id b.start (b.size / 8)
        (kept_stays (moment (past_of h) e.act e.answer) (past_of h) b (kept.remembered b i m) (unfinished b g.none)) (before b i m))

    -- where the sums of a member go on
    pub next_place : (place : Place) → next (past_of h) ≡ Some place → place.phase ≡ 3 → (b : Block) → In b (world (past_of (e ∷ h))).blocks → is_among b.id ids ≡ true → place.holder ≡ b.id
        → (place.word ≡ b.start + 8 * made 3 b.id (loads (past_of h))) × (made 3 b.id (loads (past_of h)) < b.size / 8)
    next_place place n three b i m holder =
        let old = was_member words e h ids a live b i m in
        let k = sums_place value h (distinct_now words h a.1) old.0 old.1 (summed old.0 old.1 (subst (λ n. is_among n ids ≡ true) (sym old.2) m)) (whole words h a.1 old.0 old.1).0
        place n three (holder ∙ sym old.2) in
        let word : place.word ≡ b.start + 8 * made 3 b.id (loads (past_of h)) =
        subst (λ x. place.word ≡ b.start + 8 * made 3 x (loads (past_of h))) old.2 (subst (λ s. place.word ≡ s + 8 * made 3 (old.0).id (loads (past_of h))) old.3 k.0) in
        let lt : made 3 b.id (loads (past_of h)) < b.size / 8 =
        subst (λ x. made 3 x (loads (past_of h)) < b.size / 8) old.2 (subst (λ s. made 3 (old.0).id (loads (past_of h)) < s / 8) old.4 k.1) in
        (word, lt)

    pub made_summed : Made (past_of h) e.act e.answer → Summed value ids (past_of (e ∷ h))
    made_summed g b i m =
        subst (λ ls. SumFacts value ls (kept_sum (past_of (e ∷ h)) b) b.id b.start (b.size / 8)) (sym g.loads_are)
        (elim (cases_Bool (sums b.id (scan_load (past_of h) g.place g.value))) [
          | inl it ↦
              let parts = and_parts (g.place.phase == 3) (g.place.holder == b.id) it in
              let three : g.place.phase ≡ 3 = eqb-true g.place.phase 3 parts.0 in
              let holder : g.place.holder ≡ b.id = eqb-true g.place.holder b.id parts.1 in
              let at = next_place g.place g.found three b i m holder in
              facts_more value (scan_load (past_of h) g.place g.value) (loads (past_of h)) (kept_sum (past_of h) b) (kept_sum (past_of (e ∷ h)) b) b.id b.start (b.size / 8) three holder at.0 at.1
              (kept.unchanged (scan_load (past_of h) g.place g.value) g.load three (subst (λ n. is_among n ids ≡ true) (sym holder) m))
              (λ all.
              let word : g.place.word ≡ last_word b = is_last_word b (made 3 b.id (loads (past_of h))) g.place.word (whole words (e ∷ h) a b i).1 all at.0 in
              kept_new (moment (past_of h) e.act e.answer) (past_of h) b
              (ap (finishes_summing b) g.load ∙ and_from (sums b.id (scan_load (past_of h) g.place g.value)) (g.place.word == last_word b) it (eq-eqb g.place.word (last_word b) word))
              ∙ ap (λ ls. Some (sum_so_far ls b.id)) g.loads_are)
              (before b i m)
          | inr other ↦
              facts_other value (scan_load (past_of h) g.place g.value) (loads (past_of h)) (kept_sum (past_of h) b) (kept_sum (past_of (e ∷ h)) b) b.id b.start (b.size / 8) other
              (kept_stays (moment (past_of h) e.act e.answer) (past_of h) b (kept.remembered b i m)
              (ap (finishes_summing b) g.load ∙ ap (λ q. q && g.place.word == last_word b) other))
              (before b i m)
        ])

    -- a kept sum of the words stays
    pub kept_on : Begun (past_of h) e.act e.answer ⊎ (Still (past_of h) e.act e.answer ⊎ Made (past_of h) e.act e.answer) → AllKept value ids (past_of h) → AllKept value ids (past_of (e ∷ h))
    kept_on g all b i m =
        elim (cases_Bool (finishes_summing b (load_of (past_of h) e.act e.answer))) [
          | inl finished ↦ ended g finished
          | inr other ↦ kept_stays (moment (past_of h) e.act e.answer) (past_of h) b (kept.remembered b i m) other ∙ earlier
        ]
      where
        earlier : kept_sum (past_of h) b ≡ Some (sum_of value b.start (b.size / 8))
        earlier =
            let old = was_member words e h ids a live b i m in
            sym (kept_same (past_of h) old.0 b old.2 old.3 old.4)
            ∙ (all old.0 old.1 (subst (λ n. is_among n ids ≡ true) (sym old.2) m)
            ∙ (ap (λ s. Some (sum_of value s ((old.0).size / 8))) old.3 ∙ ap (λ s. Some (sum_of value b.start (s / 8))) old.4))

        by_load : (o : Option ScanLoad) → o ≡ None → finishes_summing b o ≡ true → ⊥
        by_load o none f = both_ways (finishes_summing b o) (ap (finishes_summing b) none) f

        ended : Begun (past_of h) e.act e.answer ⊎ (Still (past_of h) e.act e.answer ⊎ Made (past_of h) e.act e.answer) → finishes_summing b (load_of (past_of h) e.act e.answer) ≡ true
            → kept_sum (past_of (e ∷ h)) b ≡ Some (sum_of value b.start (b.size / 8))
        ended (inl begun) f = absurd (by_load (load_of (past_of h) e.act e.answer) begun.none f)
        ended (inr (inl still)) f = absurd (by_load (load_of (past_of h) e.act e.answer) still.none f)
        ended (inr (inr made')) f =
            let l : ScanLoad = scan_load (past_of h) made'.place made'.value in
            let parts = and_parts (sums b.id l) (made'.place.word == last_word b) (subst (λ o. finishes_summing b o ≡ true) made'.load f) in
            let both = and_parts (made'.place.phase == 3) (made'.place.holder == b.id) parts.0 in
            let three : made'.place.phase ≡ 3 = eqb-true made'.place.phase 3 both.0 in
            let holder : made'.place.holder ≡ b.id = eqb-true made'.place.holder b.id both.1 in
            let at = next_place made'.place made'.found three b i m holder in
            let last : suc (made 3 b.id (loads (past_of h))) ≡ b.size / 8 =
            last_word_is b (made 3 b.id (loads (past_of h))) (whole words (e ∷ h) a b i).1 at.1 (sym at.0 ∙ eqb-true made'.place.word (last_word b) parts.1) in
            (made_summed made' b i m).full (ap (made 3 b.id) made'.loads_are ∙ (made_same 3 b.id l (loads (past_of h)) three holder ∙ last))
