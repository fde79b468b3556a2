use Rattle.std.proofs.Common.{◌≡◌, ℕ, ◌+◌, ◌≤◌, ◌==◌, Bool, true, false, not, List, [], ◌∷◌, Some, IsTrue, refl, sym, ◌∙◌, ap, subst, arith, ◌⊎◌, inl, inr, eqb-true, eq-eqb, leb-true}
use Rattle.std.specs.List.{list_all}
use Rattle.std.proofs.lemmas.Bool.{both_ways}
use Rattle.km_model.specs.History.{History}
use Rattle.km_model.specs.Memory.{memory_after, word_at}
use Rattle.km_model.specs.Blocks.{Block, block_of, is_among, words_of}
use Rattle.km_model.specs.Past.{Past, ScanLoad, world, history_of, at_begin, end_of, moments_of, moments_between}
use Rattle.km_model.specs.Scan.{scan_load, load_of}
use Rattle.km_model.specs.Mention.{is_mentioned}
use Rattle.km_model.specs.Follows.{FollowsMemory, past_of}
use Rattle.km_model.specs.Headline.{IsMemorySize, ForgottenAreListed, IsForgotten, is_live_unpainted, just_forgot}
use Rattle.km_model.proofs.Cases.{some_same, none_some, not_true}
use Rattle.km_laws.proofs.Lists.{In, find_in}
use Rattle.km_laws.proofs.Steady.{history_same}
use Rattle.km_laws.proofs.Since.{memory_answered}
use Rattle.km_converse.specs.Converse.{ForgottenAreNewOnce, IsClear, IsUnchanged, IsKept, AreForgotten, is_before_sums, is_counting}
use Rattle.km_converse.proofs.Events.{Begun, Still, Made, event_case}
use Rattle.km_converse.proofs.Suffixes.{IsMoment, begin_moments, scan_moments, end_moment, moment_moments, one_first, IsPart, part_of, all_pass, content_same, same_at}
use Rattle.km_converse.proofs.Told.{made_value, made_memory, made_world, forgot_same, words_same, clear_at, summed_word}
use Rattle.km_converse.proofs.Forgotten.{forgotten}

module _ (words : ℕ) (h : History) (j k : ℕ) (ids : List ℕ) (size : IsMemorySize words) (follows : FollowsMemory words h)
    (set : (id : ℕ) → IsTrue (is_among id ids) → (b : Block) × (block_of (world (end_of k (past_of h))).blocks id ≡ Some b) × IsForgotten words (past_of h) j k ids b) where
  part : (g : History) (p : Past) → FollowsMemory words g → IsMoment p (past_of g) → IsPart (FollowsMemory words) p g
  part g p f i = part_of (FollowsMemory words) (λ e x r. r.1) g p f i

  -- a block of a moment and one of the end of scan k with the same id
  same_block : (p : Past) → IsMoment p (past_of h) → (c b : Block) → In c (world p).blocks → In b (world (end_of k (past_of h))).blocks → c.id ≡ b.id → (b.start ≡ c.start) × (b.size ≡ c.size) × (b.born ≡ c.born)
  same_block p i c b ci bi e = go (one_first (past_of h) p (end_of k (past_of h)) i (end_moment k (past_of h)))
    where
      go : IsMoment p (end_of k (past_of h)) ⊎ IsMoment (end_of k (past_of h)) p → (b.start ≡ c.start) × (b.size ≡ c.size) × (b.born ≡ c.born)
      go (inl first) =
          let q = part h (end_of k (past_of h)) follows (end_moment k (past_of h)) in
          let r = part q.part p q.holds (subst (λ x. IsMoment p x) q.moment_is first) in
          let s = (r.same).blocks b c (subst (λ x. In b (world x).blocks) q.moment_is bi) (subst (λ x. In c (world x).blocks) r.moment_is ci) (sym e) in
          (sym s.1, sym s.2, sym s.3)
      go (inr later) =
          let q = part h p follows i in
          let r = part q.part (end_of k (past_of h)) q.holds (subst (λ x. IsMoment (end_of k (past_of h)) x) q.moment_is later) in
          let s = (r.same).blocks c b (subst (λ x. In c (world x).blocks) q.moment_is ci) (subst (λ x. In b (world x).blocks) r.moment_is bi) e in
          (s.1, s.2, s.3)

  -- a member of the set, as it is at the end
  member : (id : ℕ) → is_among id ids ≡ true → (b : Block) × In b (world (end_of k (past_of h))).blocks × (b.id ≡ id) × IsForgotten words (past_of h) j k ids b
  member id m =
      let b = set id m in
      let at = find_in (λ (x : Block). x.id == id) (world (end_of k (past_of h))).blocks b.0 b.1 in
      (b.0, at.1, eqb-true b.0.id id at.0, b.2)

  -- the values of the words at the end
  value : ℕ → ℕ
  value a = word_at (memory_after words (history_of (end_of k (past_of h)))) a

  between : (p : Past) → In p (moments_between j k (past_of h)) → IsMoment p (past_of h)
  between p i = moment_moments (past_of h) p (end_of k (past_of h)) (scan_moments j (end_of k (past_of h)) p i) (end_moment k (past_of h))

  unchanged_part : (g : History) → FollowsMemory words g → In (past_of g) (moments_between j k (past_of h)) → IsUnchanged value ids (past_of g)
  unfolding value
  unchanged_part [] f i = tt
  unchanged_part (e ∷ g) f i = λ l load three m. go l load three m (event_case (past_of g) e.act e.answer)
    where
      go : (l : ScanLoad) → load_of (past_of g) e.act e.answer ≡ Some l → l.place.phase ≡ 3 → is_among l.place.holder ids ≡ true
          → Begun (past_of g) e.act e.answer ⊎ (Still (past_of g) e.act e.answer ⊎ Made (past_of g) e.act e.answer) → l.value ≡ value l.place.word
      go l load three m (inl x) = absurd (none_some l (sym x.none ∙ load))
      go l load three m (inr (inl x)) = absurd (none_some l (sym x.none ∙ load))
      go l load three m (inr (inr x)) =
          let same : scan_load (past_of g) x.place x.value ≡ l = some_same (scan_load (past_of g) x.place x.value) l (sym x.load ∙ load) in
          let three' : x.place.phase ≡ 3 = ap (λ (y : ScanLoad). y.place.phase) same ∙ three in
          let c = summed_word words g x.place (memory_answered words g f.1) x.found three' in
          let m' : is_among c.0.id ids ≡ true = subst (λ n. is_among n ids ≡ true) (sym (c.2 ∙ ap (λ (y : ScanLoad). y.place.holder) same)) m in
          let b = member c.0.id m' in
          let there : In c.0 (world (past_of (e ∷ g))).blocks = subst (λ w. In c.0 w.blocks) (sym (made_world words e g f x)) c.1 in
          let s = same_block (past_of (e ∷ g)) (between (past_of (e ∷ g)) i) c.0 b.0 there b.1 (sym b.2) in
          let among : In x.place.word (words_of b.0) = subst (λ ws. In x.place.word ws) (sym (words_same b.0 c.0 s.0 s.1)) c.3 in
          let one = same_at (word_at (memory_after words (history_of (past_of (e ∷ g))))) (word_at (memory_after words (history_of (end_of k (past_of h))))) (words_of b.0) x.place.word
          (content_same words j b.0 (end_of k (past_of h)) (past_of (e ∷ g)) b.3.1 i) among in
          let memory : memory_after words (history_of (past_of (e ∷ g))) ≡ memory_after words g = ap (memory_after words) (history_same (e ∷ g)) ∙ made_memory words e g f x in
          let it : x.value ≡ value x.place.word = made_value words e g f x ∙ (ap (λ ws. word_at ws x.place.word) (sym memory) ∙ one) in
          subst (λ (y : ScanLoad). y.value ≡ value y.place.word) same it

  kept_at : (p : Past) → In p (moments_between j k (past_of h)) → IsKept value ids p
  kept_at p i = record {
    live = λ id m. let b = member id m in subst (λ n. is_live_unpainted n p ≡ true) b.2 (all_pass (is_live_unpainted b.0.id) (moments_between j k (past_of h)) p b.3.0 i);
    remembered = λ c ci m.
        let b = member c.id m in
        let s = same_block p (between p i) c b.0 ci b.1 (sym b.2) in
        sym (forgot_same p b.0 c s.0) ∙ not_true (just_forgot b.0 p) (all_pass (λ q. not (just_forgot b.0 q)) (moments_between j k (past_of h)) p b.3.2 i);
    unchanged = (
        let q = part h p follows (between p i) in
        subst (λ x. IsUnchanged value ids x) (sym q.moment_is) (unchanged_part q.part q.holds (subst (λ x. In x (moments_between j k (past_of h))) q.moment_is i)));
  }

  clear_part : (phases : ℕ → Bool) → ((phase : ℕ) → phases phase ≡ true → phase ≡ 3 → ⊥) → (g : History) → FollowsMemory words g → IsMoment (past_of g) (past_of h)
      → ((id : ℕ) (m : is_among id ids ≡ true) → is_mentioned words (past_of g) ids (member id m).0 ≡ false) → IsClear phases ids (past_of g)
  clear_part phases counts [] f i none = tt
  clear_part phases counts (e ∷ g) f i none = λ l load phase c ci m.
      let b = member c.id m in
      let kept = go l load (event_case (past_of g) e.act e.answer) in
      let there : In c (world (past_of (e ∷ g))).blocks = subst (λ w. In c w.blocks) (sym kept) ci in
      let s = same_block (past_of (e ∷ g)) i c b.0 there b.1 (sym b.2) in
      clear_at words e g ids b.0 c l size.0 f (none c.id m) s.0 s.1 load (counts l.place.phase phase)
    where
      go : (l : ScanLoad) → load_of (past_of g) e.act e.answer ≡ Some l → Begun (past_of g) e.act e.answer ⊎ (Still (past_of g) e.act e.answer ⊎ Made (past_of g) e.act e.answer)
          → world (past_of (e ∷ g)) ≡ world (past_of g)
      go l load (inl x) = absurd (none_some l (sym x.none ∙ load))
      go l load (inr (inl x)) = absurd (none_some l (sym x.none ∙ load))
      go l load (inr (inr x)) = made_world words e g f x

  clear_in : (phases : ℕ → Bool) → ((phase : ℕ) → phases phase ≡ true → phase ≡ 3 → ⊥) → (n : ℕ)
      → ((id : ℕ) (m : is_among id ids ≡ true) → list_all (λ p. not (is_mentioned words p ids (member id m).0)) (moments_of n (past_of h)) ≡ true)
      → (p : Past) → In p (moments_of n (past_of h)) → IsClear phases ids p
  clear_in phases counts n none p i =
      let at = moment_moments (past_of h) p (end_of n (past_of h)) (begin_moments (end_of n (past_of h)) p i) (end_moment n (past_of h)) in
      let q = part h p follows at in
      subst (λ x. IsClear phases ids x) (sym q.moment_is)
      (clear_part phases counts q.part q.holds (subst (λ x. IsMoment x (past_of h)) q.moment_is at)
      (λ id m. subst (λ x. is_mentioned words x ids (member id m).0 ≡ false) q.moment_is
      (not_true (is_mentioned words p ids (member id m).0) (all_pass (λ x. not (is_mentioned words x ids (member id m).0)) (moments_of n (past_of h)) p (none id m) i))))

  are_forgotten : AreForgotten (past_of h) j k ids value
  are_forgotten = record {
    kept = kept_at;
    first = clear_in is_before_sums (λ phase e three. let le : phase ≤ 2 = leb-true phase 2 e in omega (arith, le, three)) j (λ id m. (member id m).3.3);
    second = clear_in is_counting (λ phase e three. both_ways (phase == 3) (not_true (phase == 3) e) (eq-eqb phase 3 three)) k (λ id m. (member id m).3.4);
  }

-- the laws over a told memory
pub forgotten_are_new_once : ForgottenAreNewOnce
forgotten_are_new_once words h later size follows j k ids lt done last set id b m found old =
    (forgotten words h j k ids (value words h j k ids size follows set) (memory_answered words h follows) lt done last (are_forgotten words h j k ids size follows set) id b m found old).1 later

pub forgotten_are_listed : ForgottenAreListed
forgotten_are_listed words h size follows j k ids lt done last set id c m found can old =
    let b = set id m in
    let now = find_in (λ (x : Block). x.id == id) (world (past_of h)).blocks c found in
    let at = find_in (λ (x : Block). x.id == id) (world (end_of k (past_of h))).blocks b.0 b.1 in
    let s = same_block words h j k ids size follows set (past_of h) (here h) c b.0 now.1 at.1 (eqb-true c.id id now.0 ∙ sym (eqb-true b.0.id id at.0)) in
    let law = forgotten words h j k ids (value words h j k ids size follows set) (memory_answered words h follows) lt done last (are_forgotten words h j k ids size follows set) id b.0 m b.1
    (subst (λ n. n + 1000 ≤ (world (at_begin (end_of k (past_of h)))).now) (sym s.2) old) in
    (law.2 c found can, law.1 [])
  where
    here : (g : History) → IsMoment (past_of g) (past_of g)
    here [] = refl
    here (e ∷ g) = inl refl
