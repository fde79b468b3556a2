-- The laws of journals, from those of histories with loads of any values.
use Rattle.std.proofs.Common.{◌≡◌, ℕ, zero, suc, ◌+◌, ◌*◌, ◌/◌, ◌<◌, ◌≤◌, ◌==◌, Bool, true, false, ◌&&◌, not, List, [], ◌∷◌, ◌++◌, Some, refl, sym, ◌∙◌, ap, subst, arith, ◌⊎◌, inl, inr, eqb-true, eq-eqb, leb-true}
use Rattle.std.proofs.lemmas.Bool.{cases_Bool, and_parts, and_from, both_ways}
use Rattle.km_model.specs.History.{History}
use Rattle.km_model.specs.Blocks.{Block, is_among, contains, words_of}
use Rattle.km_model.specs.World.{World}
use Rattle.km_model.specs.Past.{Past, ScanLoad, world, moments_of, moments_between, end_of}
use Rattle.km_model.specs.Scan.{scan_load, load_of}
use Rattle.km_model.specs.Mention.{is_scannable, is_own_link, names, is_in_set, mentions}
use Rattle.km_model.specs.Follows.{Follows, past_of}
use Rattle.km_model.specs.Verdict.{times_new}
use Rattle.km_model.specs.Memory.{words_from}
use Rattle.km_model.specs.Headline.{is_live_unpainted}
use Rattle.km_model.proofs.Cases.{some_same, none_some, not_true}
use Rattle.km_laws.proofs.Lists.{In, none_in}
use Rattle.km_laws.proofs.Since.{IsAnswered, follows_answered}
use Rattle.km_laws.proofs.NotHeld.{listed_not_held_by_loads}
use Rattle.km_converse.specs.Converse.{is_clear, IsClear, IsUnchanged, IsKept, AreForgotten, is_before_sums, is_counting}
use Rattle.km_converse.proofs.Events.{Begun, Still, Made, event_case}
use Rattle.km_converse.proofs.Suffixes.{IsMoment, begin_moments, scan_moments, end_moment, moment_moments, IsPart, part_of}
use Rattle.km_converse.proofs.Scannable.{unmentioned_clear}
use Rattle.km_converse.proofs.Told.{summed_word}
use Rattle.km_converse.proofs.Places.{word_inside}
use Rattle.km_converse.proofs.Forgotten.{forgotten_are_listed_by_loads}
use Rattle.km_rounds.specs.declared.entry.Entry.{Entry}
use Rattle.km_entries.specs.File.{IsJournal}
use Rattle.km_journal_laws.proofs.Accepted.{accepted_are_journals}
use Rattle.km_journal_laws.specs.Listings.{ForgottenInJournalsAreListed, IsAgreed, IsLeftAlone, IsMomentOf, IsUnnamed, ListedInJournalsAreNotHeld}

-- a part of a history follows
pub part_follows : (words : ℕ) (later h : History) → Follows words (later ++ h) → Follows words h
part_follows words [] h f = f
part_follows words (e ∷ later) h f = part_follows words later h f.2

pub moment_follows : (words : ℕ) (ns : List Entry) (h : History) → IsJournal words ns → IsMomentOf h ns → Follows words h
moment_follows words ns h journal at = part_follows words at.0 h (subst (λ x. Follows words x) at.1 journal.follows)

pub journals_list_nothing_held : ListedInJournalsAreNotHeld
journals_list_nothing_held bytes words ns accepted h values k id at last found listed =
    listed_not_held_by_loads words h values k id (moment_follows words ns h (accepted_are_journals bytes words ns accepted).0 at) last found listed

-- the one member of a set
among_one : (n id : ℕ) → is_among n (id ∷ []) ≡ true → n ≡ id
among_one n id m =
    elim (cases_Bool (id == n)) [
      | inl same ↦ sym (eqb-true id n same)
      | inr other ↦ absurd (both_ways (is_among n (id ∷ [])) (simp other) m)
    ]

one_among : (n id : ℕ) → n ≡ id → is_among n (id ∷ []) ≡ true
one_among n id e = let yes' : id == n ≡ true = eq-eqb id n (sym e) in simp yes'

-- where a load of some phases names nothing from outside a block, it is clear
clear_from : (words : ℕ) (phases : ℕ → Bool) → ((phase : ℕ) → phases phase ≡ true → phase ≡ 3 → ⊥) → (id : ℕ) (g : History) → IsAnswered words g
    → IsUnnamed phases id (past_of g) → IsClear phases (id ∷ []) (past_of g)
clear_from words phases counts id [] a u = tt
clear_from words phases counts id (e ∷ g) a u = λ l load phase b ib m. go l load phase b ib (among_one b.id id m) (event_case (past_of g) e.act e.answer)
  where
    go : (l : ScanLoad) → load_of (past_of g) e.act e.answer ≡ Some l → phases l.place.phase ≡ true → (b : Block) → In b (world (past_of g)).blocks → b.id ≡ id
        → Begun (past_of g) e.act e.answer ⊎ (Still (past_of g) e.act e.answer ⊎ Made (past_of g) e.act e.answer) → is_clear (world (past_of g)) (id ∷ []) b l ≡ true
    go l load phase b ib is (inl x) = absurd (none_some l (sym x.none ∙ load))
    go l load phase b ib is (inr (inl x)) = absurd (none_some l (sym x.none ∙ load))
    go l load phase b ib is (inr (inr x)) =
        let w : World = world (past_of g) in
        let same : scan_load (past_of g) x.place x.value ≡ l = some_same (scan_load (past_of g) x.place x.value) l (sym x.load ∙ load) in
        let three : x.place.phase ≡ 3 → ⊥ = λ h. counts l.place.phase phase (ap (λ (y : ScanLoad). y.place.phase) (sym same) ∙ h) in
        let unnamed : contains x.place.word b ≡ false → is_own_link w b x.place.word x.value ≡ false → names w b x.value ≡ false =
        u (scan_load (past_of g) x.place x.value) x.load (subst (λ (y : ScanLoad). phases y.place.phase ≡ true) (sym same) phase) b ib is in
        let quiet : mentions w (id ∷ []) b x.place.word x.value ≡ false =
        elim (cases_Bool (mentions w (id ∷ []) b x.place.word x.value)) [
          | inr none ↦ none
          | inl yes' ↦ absurd (
              let one = and_parts (is_scannable w x.place.word && not (is_in_set w.blocks (id ∷ []) x.place.word) && not (is_own_link w b x.place.word x.value)) (names w b x.value) yes' in
              let two = and_parts (is_scannable w x.place.word && not (is_in_set w.blocks (id ∷ []) x.place.word)) (not (is_own_link w b x.place.word x.value)) one.0 in
              let three' = and_parts (is_scannable w x.place.word) (not (is_in_set w.blocks (id ∷ []) x.place.word)) two.0 in
              both_ways (names w b x.value) (unnamed (outside b ib is x.place.word (not_true (is_in_set w.blocks (id ∷ []) x.place.word) three'.1)) (not_true (is_own_link w b x.place.word x.value) two.1)) one.1)
        ] in
        subst (λ (y : ScanLoad). is_clear w (id ∷ []) b y ≡ true) same (unmentioned_clear words g x.place x.value (id ∷ []) b a.1 x.found three quiet)
      where
        -- a word that is in no block of the set isn't in this one
        outside : (b : Block) → In b (world (past_of g)).blocks → b.id ≡ id → (a : ℕ) → is_in_set (world (past_of g)).blocks (id ∷ []) a ≡ false → contains a b ≡ false
        outside b ib is a none =
            elim (cases_Bool (contains a b)) [
              | inr none ↦ none
              | inl yes' ↦ absurd (both_ways (is_among b.id (id ∷ []) && contains a b) (none_in (λ (c : Block). is_among c.id (id ∷ []) && contains a c) (world (past_of g)).blocks b none ib)
                  (and_from (is_among b.id (id ∷ [])) (contains a b) (one_among b.id id is) yes'))
            ]

-- a word of a run of words
words_from_in : (n s a : ℕ) → In a (words_from n s) → (i : ℕ) × (i < n) × (a ≡ s + 8 * i)
words_from_in zero s a i = absurd i
words_from_in (suc n) s a (inl here) = (0, omega arith, omega (arith, here))
words_from_in (suc n) s a (inr i) = let k = words_from_in n (s + 8) a i in (k.0 + 1, omega (arith, k.1), omega (arith, k.2))

-- a word of a live block is in it
word_contained : (words : ℕ) (h : History) (b : Block) → IsAnswered words h → In b (world (past_of h)).blocks → (a : ℕ) → In a (words_of b) → contains a b ≡ true
word_contained words h b answered ib a i = let k = words_from_in (b.size / 8) b.start a i in word_inside b k.0 a k.1 k.2

-- where all loads of a block's words agree, its sums find the same
unchanged_from : (words : ℕ) (value : ℕ → ℕ) (id : ℕ) (g : History) → IsAnswered words g → IsAgreed value id (past_of g) → IsUnchanged value (id ∷ []) (past_of g)
unchanged_from words value id [] a u = tt
unchanged_from words value id (e ∷ g) a u = λ l load three m. go l load three (among_one l.place.holder id m) (event_case (past_of g) e.act e.answer)
  where
    go : (l : ScanLoad) → load_of (past_of g) e.act e.answer ≡ Some l → l.place.phase ≡ 3 → l.place.holder ≡ id
        → Begun (past_of g) e.act e.answer ⊎ (Still (past_of g) e.act e.answer ⊎ Made (past_of g) e.act e.answer) → l.value ≡ value l.place.word
    go l load three is (inl x) = absurd (none_some l (sym x.none ∙ load))
    go l load three is (inr (inl x)) = absurd (none_some l (sym x.none ∙ load))
    go l load three is (inr (inr x)) =
        let same : scan_load (past_of g) x.place x.value ≡ l = some_same (scan_load (past_of g) x.place x.value) l (sym x.load ∙ load) in
        let three' : x.place.phase ≡ 3 = ap (λ (y : ScanLoad). y.place.phase) same ∙ three in
        let c = summed_word words g x.place a.1 x.found three' in
        let holder : c.0.id ≡ id = c.2 ∙ ap (λ (y : ScanLoad). y.place.holder) same ∙ is in
        subst (λ (y : ScanLoad). y.value ≡ value y.place.word) same
        (u (scan_load (past_of g) x.place x.value) x.load c.0 c.1 holder (word_contained words g c.0 a.1 c.1 x.place.word c.3))

-- a moment of a past is that of a history
module _ (words : ℕ) (h : History) (j k id : ℕ) (value : ℕ → ℕ) (a : IsAnswered words h) (alone : IsLeftAlone (past_of h) j k id value) where
  part : (p : Past) → IsMoment p (past_of h) → IsPart (IsAnswered words) p h
  part p i = part_of (IsAnswered words) (λ e x r. r.1) h p a i

  between : (p : Past) → In p (moments_between j k (past_of h)) → IsMoment p (past_of h)
  between p i = moment_moments (past_of h) p (end_of k (past_of h)) (scan_moments j (end_of k (past_of h)) p i) (end_moment k (past_of h))

  of_scan : (n : ℕ) (p : Past) → In p (moments_of n (past_of h)) → IsMoment p (past_of h)
  of_scan n p i = moment_moments (past_of h) p (end_of n (past_of h)) (begin_moments (end_of n (past_of h)) p i) (end_moment n (past_of h))

  kept_at : (p : Past) → In p (moments_between j k (past_of h)) → IsKept value (id ∷ []) p
  kept_at p i =
      let still = alone.still p i in
      let q = part p (between p i) in
      record {
        live = λ n m. subst (λ x. is_live_unpainted x p ≡ true) (sym (among_member n m)) still.live;
        remembered = λ b ib m. still.remembered b ib (among_one b.id id m);
        unchanged = subst (λ x. IsUnchanged value (id ∷ []) x) (sym q.moment_is) (unchanged_from words value id q.part q.holds (subst (λ x. IsAgreed value id x) q.moment_is still.agreed));
      }
    where
      among_member : (n : ℕ) → is_among n (id ∷ []) ≡ true → n ≡ id
      among_member n m = among_one n id m

  clear_in : (phases : ℕ → Bool) → ((phase : ℕ) → phases phase ≡ true → phase ≡ 3 → ⊥) → (n : ℕ) → ((p : Past) → In p (moments_of n (past_of h)) → IsUnnamed phases id p)
      → (p : Past) → In p (moments_of n (past_of h)) → IsClear phases (id ∷ []) p
  clear_in phases counts n none p i =
      let q = part p (of_scan n p i) in
      subst (λ x. IsClear phases (id ∷ []) x) (sym q.moment_is) (clear_from words phases counts id q.part q.holds (subst (λ x. IsUnnamed phases id x) q.moment_is (none p i)))

  are_forgotten : AreForgotten (past_of h) j k (id ∷ []) value
  are_forgotten = record {
    kept = kept_at;
    first = clear_in is_before_sums (λ phase e three. let le : phase ≤ 2 = leb-true phase 2 e in omega (arith, le, three)) j alone.first;
    second = clear_in is_counting (λ phase e three. both_ways (phase == 3) (not_true (phase == 3) e) (eq-eqb phase 3 three)) k alone.second;
  }

pub journals_list_the_forgotten : ForgottenInJournalsAreListed
journals_list_the_forgotten bytes words ns accepted h j k id value at lt done last alone b found old =
    let f = moment_follows words ns h (accepted_are_journals bytes words ns accepted).0 at in
    let law = forgotten_are_listed_by_loads words h j k (id ∷ []) value f lt done last (are_forgotten words h j k id value (follows_answered words h f) alone) id b (one_among id id refl) found old in
    (law.2, subst (λ x. times_new (past_of x) id ≡ 1) (sym at.1) (law.1 at.0))
