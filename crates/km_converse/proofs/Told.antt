use Rattle.std.proofs.Common.{◌≡◌, ℕ, zero, suc, ◌+◌, ◌*◌, ◌/◌, ◌<◌, ◌≤◌, true, false, List, [], ◌∷◌, Option, Some, None, sym, ◌∙◌, ap, subst, arith, ◌⊎◌, inl, inr}
use Rattle.km_base.specs.declared.acts.Act.{Act}
use Rattle.km_base.specs.declared.acts.Act.TheVariants.{Step}
use Rattle.km_base.specs.declared.acts.Answer.TheVariants.{Loaded}
use Rattle.km_model.specs.History.{Event, History}
use Rattle.km_model.specs.Memory.{base, words_from, all_words, memory_after, word_at}
use Rattle.km_model.specs.Blocks.{Block, Black, words_of}
use Rattle.km_model.specs.World.{World}
use Rattle.km_model.specs.Past.{Past, Place, ScanLoad, world, last_load, history_of}
use Rattle.km_model.specs.Scan.{next, scan_load, load_of}
use Rattle.km_model.specs.Answers.{answer}
use Rattle.km_model.specs.Changes.{world_after_act}
use Rattle.km_model.specs.Mention.{mentions, is_mentioned}
use Rattle.km_model.specs.Follows.{FollowsMemory, past_of, run_of, told_value}
use Rattle.km_model.specs.Headline.{just_forgot}
use Rattle.km_model.proofs.Cases.{some_same, none_some}
use Rattle.km_model.proofs.AnswerLaws.{answers_have}
use Rattle.km_model.proofs.Places.{next_is, NextPlace}
use Rattle.km_laws.proofs.Lists.{In, none_in}
use Rattle.km_laws.proofs.Steady.{history_same}
use Rattle.km_laws.proofs.Since.{IsAnswered, memory_answered}
use Rattle.km_converse.specs.Converse.{is_clear}
use Rattle.km_converse.proofs.Events.{Begun, Still, Made, event_case}
use Rattle.km_converse.proofs.Members.{whole}
use Rattle.km_converse.proofs.Scannable.{next_read, read_word, unmentioned_clear}

-- the value of a load is the given one
loaded_value : (words : ℕ) (past : Past) (act : Act) (value a u : ℕ) → answer words past act value ≡ Loaded a u → u ≡ value
loaded_value words past act value a u h =
    answers_have words past act value (λ x. (b v : ℕ) → x ≡ Loaded b v → v ≡ value) (record {
      refused = λ r b v e. absurd cc;
      done = λ b v e. absurd cc;
      at = λ c b v e. absurd cc;
      skipped = λ b v e. absurd cc;
      dumped = λ i b v e. absurd cc;
      loaded = λ c b v e. cc;
      stopped = λ k r b v e. absurd cc;
    }) (λ step k running none b v e. absurd cc) a u h

-- of a history over a told memory, an event that made a load
module _ (words : ℕ) (e : Event) (h : History) (follows : FollowsMemory words (e ∷ h)) (g : Made (past_of h) e.act e.answer) where
  -- it loaded the word that stands in the memory
  pub made_value : g.value ≡ word_at (memory_after words h) g.place.word
  made_value =
      let told : answer words (past_of h) e.act (told_value (run_of words h) e.act) ≡ Loaded g.address g.value = sym follows.0 ∙ g.answer_is in
      loaded_value words (past_of h) e.act (told_value (run_of words h) e.act) g.address g.value told
      ∙ (ap (λ (x : Act). told_value (run_of words h) x) g.step
      ∙ ap (λ o. elim (elim o as (λ _. Option ℕ) [ None ↦ None | Some p ↦ Some p.word ]) as (λ _. ℕ) [ None ↦ 0 | Some a ↦ word_at (memory_after words h) a ]) g.found)

  -- and left the memory and what stands
  pub made_memory : memory_after words (e ∷ h) ≡ memory_after words h
  made_memory = ap (λ (x : Act). memory_after words (record { act = x; answer = e.answer } ∷ h)) g.step

  pub made_world : world (past_of (e ∷ h)) ≡ world (past_of h)
  unfolding world_after_act
  made_world =
      ap (λ (x : Act). world (past_of (record { act = x; answer = e.answer } ∷ h))) g.step
      ∙ ap (λ s. world (past_of (record { act = Step; answer = s } ∷ h))) g.answer_is

-- a word of the memory is among all words
word_among : (n s i : ℕ) → i < n → In (s + 8 * i) (words_from n s)
word_among zero s i lt = omega (arith, lt)
word_among (suc n) s zero lt = inl (omega arith)
word_among (suc n) s (suc i) lt =
    let e : s + 8 * suc i ≡ s + 8 + 8 * i = omega arith in
    inr (subst (λ a. In a (words_from n (s + 8))) (sym e) (word_among n (s + 8) i (omega (arith, lt))))

-- mentions of a block are those of its start and size
abbrev shape : ℕ → ℕ → Block
shape start size = record { id = 0; start = start; size = size; born = 0; minimum = Black; no_scan = false; areas = []; excess = None }

mentions_same : (w : World) (ids : List ℕ) (b c : Block) (a v : ℕ) → b.start ≡ c.start → b.size ≡ c.size → mentions w ids b a v ≡ mentions w ids c a v
mentions_same w ids b c a v e f = ap (λ s. mentions w ids (shape s b.size) a v) e ∙ ap (λ s. mentions w ids (shape c.start s) a v) f

pub forgot_same : (p : Past) (b c : Block) → b.start ≡ c.start → just_forgot b p ≡ just_forgot c p
forgot_same p b c e = ap (λ s. just_forgot (shape s 0) p) e

pub words_same : (b c : Block) → b.start ≡ c.start → b.size ≡ c.size → words_of b ≡ words_of c
words_same b c e f = ap (λ s. words_of (shape s b.size)) e ∙ ap (λ s. words_of (shape c.start s)) f

-- a moment at which a block isn't mentioned makes its load clear
pub clear_at : (words : ℕ) (e : Event) (h : History) (ids : List ℕ) (b c : Block) (l : ScanLoad) → 512 ≤ words → FollowsMemory words (e ∷ h)
    → is_mentioned words (past_of (e ∷ h)) ids b ≡ false → b.start ≡ c.start → b.size ≡ c.size → load_of (past_of h) e.act e.answer ≡ Some l → (l.place.phase ≡ 3 → ⊥)
    → is_clear (world (past_of h)) ids c l ≡ true
clear_at words e h ids b c l most follows none start size load counts = go (event_case (past_of h) e.act e.answer)
  where
    a : IsAnswered words h
    a = memory_answered words h follows.1

    go : Begun (past_of h) e.act e.answer ⊎ (Still (past_of h) e.act e.answer ⊎ Made (past_of h) e.act e.answer) → is_clear (world (past_of h)) ids c l ≡ true
    go (inl g) = absurd (none_some l (sym g.none ∙ load))
    go (inr (inl g)) = absurd (none_some l (sym g.none ∙ load))
    go (inr (inr g)) =
        let same : scan_load (past_of h) g.place g.value ≡ l = some_same (scan_load (past_of h) g.place g.value) l (sym g.load ∙ load) in
        let counts' : g.place.phase ≡ 3 → ⊥ = λ three. counts (ap (λ (x : ScanLoad). x.place.phase) (sym same) ∙ three) in
        let word = read_word words h g.place most a (next_read (past_of h) g.place counts' g.found) in
        let among : In g.place.word (all_words words) = subst (λ x. In x (all_words words)) (sym word.2) (word_among words base word.0 word.1) in
        let memory : memory_after words (history_of (past_of (e ∷ h))) ≡ memory_after words h = ap (memory_after words) (history_same (e ∷ h)) ∙ made_memory words e h follows g in
        let one : mentions (world (past_of (e ∷ h))) ids b g.place.word (word_at (memory_after words (history_of (past_of (e ∷ h)))) g.place.word) ≡ false =
        none_in (λ x. mentions (world (past_of (e ∷ h))) ids b x (word_at (memory_after words (history_of (past_of (e ∷ h)))) x)) (all_words words) g.place.word none among in
        let two : mentions (world (past_of h)) ids b g.place.word g.value ≡ false =
        subst (λ v. mentions (world (past_of h)) ids b g.place.word v ≡ false) (ap (λ m. word_at m g.place.word) memory ∙ sym (made_value words e h follows g))
        (subst (λ w. mentions w ids b g.place.word (word_at (memory_after words (history_of (past_of (e ∷ h)))) g.place.word) ≡ false) (made_world words e h follows g) one) in
        subst (λ (x : ScanLoad). is_clear (world (past_of h)) ids c x ≡ true) same
        (unmentioned_clear words h g.place g.value ids c a g.found counts' (sym (mentions_same (world (past_of h)) ids b c g.place.word g.value start size) ∙ two))

-- a word of the block that is summed
pub summed_word : (words : ℕ) (h : History) (place : Place) → IsAnswered words h → next (past_of h) ≡ Some place → place.phase ≡ 3
    → (b : Block) × In b (world (past_of h)).blocks × (b.id ≡ place.holder) × In place.word (words_of b)
summed_word words h place a n three = go (next_is (past_of h) place n)
  where
    go : NextPlace (past_of h) (last_load (past_of h)) place → (b : Block) × In b (world (past_of h)).blocks × (b.id ≡ place.holder) × In place.word (words_of b)
    go (inl one) = absurd (let e = one.1.0 in omega (arith, e, three))
    go (inr (inl two)) = absurd (let e = two.1.0 in omega (arith, e, three))
    go (inr (inr (inl it))) =
        let b = it.1.1 in
        let w = b.3 in
        let some = (whole words h a b.0 b.1).0 in
        let lt = w.1 in
        (b.0, b.1, b.2, subst (λ x. In x (words_of b.0)) (sym w.2) (word_among (b.0.size / 8) b.0.start w.0 (omega (arith, lt, some))))
    go (inr (inr (inr four))) = absurd (let e = four.0 in omega (arith, e, three))
