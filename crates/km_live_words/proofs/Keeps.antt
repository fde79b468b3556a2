-- Each call keeps the rule of the words.
use Rattle.std.proofs.Common.{◌≡◌, ◌≢◌, ℕ, zero, suc, ◌+◌, ◌-◌, ◌<◌, ◌⊎◌, true, false, List, [], ◌∷◌, ◌++◌, length, set, slice_index, slice_set, get_or, sym, ap, ◌∙◌, ⊎_elim}
use Rattle.std.proofs.lemmas.List.{set-get_or, ext_get_or}
use Rattle.std.proofs.Math.Numerals.{add-one}
use mathlib.Core.Option.{none, some, some-injective, some-ne-none}
use lib.ListN.{get_elem?}
use Rattle.atomic_table.specs.Table.{State, Me, keeps, step, opening, Allows, Splits, Joins, Final, Seen}
use Rattle.km_model.specs.Memory.{in_memory, index_of, word_at}
use Rattle.km_numbered.specs.Members.{Member, IsAlone, KnowsAll, first, fresh, gone, with_next, with_kept, with_more}
use Rattle.km_numbered.proofs.Places.{at_set}
use Rattle.km_numbered.proofs.Keeping as keeping
use Rattle.km_words.specs.Told.{WordStep, LoadStep, StoreStep}
use Rattle.km_rounds.specs.Orders.{OrderStep, words_after_step, words_after, IsLegalStep, IsLegal, steps_by}
use Rattle.km_live_words.specs.Rule.{Ordered, Loaded, Stored}
use Rattle.km_live_words.proofs.Orders.{after_snoc, legal_snoc, length_after, steps_same, steps_else}
use Rattle.km_live_words.proofs.Words.{address_is}

module _ {S : Type 0} (ws : List ℕ) where
  grows : (s : State S (Member WordStep)) (id : ℕ) (v : Member WordStep) (x : WordStep) (words : List ℕ) (h : Ordered ws s) → get_elem? s.views id ≡ some v → v.spent ≡ false
      → IsLegalStep (words_after ws h.order) x → words ≡ 0 ∷ words_after_step (words_after ws h.order) x
      → Ordered ws record { words = words; homes = s.homes; views = set s.views id (with_more v (x ∷ [])) }
  grows s id v x words h at live legal is =
      let y : OrderStep = record { by = v.number; step = x } in
      record {
        order = h.order ++ y ∷ [];
        legal = legal_snoc ws h.order y h.legal legal;
        words = is ∙ ap (λ (z : List ℕ). 0 ∷ z) (sym (after_snoc ws h.order y));
        hands = keeping.grows (steps_by h.order) (steps_by (h.order ++ y ∷ [])) s.views id v (x ∷ []) h.hands at live (steps_same h.order y) (steps_else h.order y);
      }

  pub loads : (slots id : ℕ) (me : Me S (Member WordStep)) (a : ℕ) → me.0.spent ≡ false → in_memory (length ws) a ≡ true
      → Allows (Ordered ws) slots id me (index_of a + 1) (λ n. n) (Loaded (step slots (index_of a + 1) 0 0 none) me)
  loads slots id me a live small s h _ at _ =
      let v : Member WordStep = me.0 in
      let i : ℕ = index_of a in
      let found : ℕ = slice_index s.words (i + 1) in
      let x : WordStep = LoadStep a found in
      let here : found ≡ word_at (words_after ws h.order) a =
      ap (λ (l : List ℕ). slice_index l (i + 1)) h.words ∙ ap (λ (k : ℕ). slice_index (0 ∷ words_after ws h.order) k) (add-one i) in
      let inside : in_memory (length (words_after ws h.order)) a ≡ true = ap (λ (n : ℕ). in_memory n a) (length_after ws h.order) ∙ small in (
        with_more v (x ∷ []),
        keeps,
        tt,
        grows s id v x (slice_set s.words (i + 1) found) h at live (inside, here) (set-get_or s.words (i + 1) 0 ∙ h.words),
        ap (λ (k : ℕ). (with_more v (LoadStep k found ∷ []), me.1)) (sym (address_is (length ws) a small)),
      )

  pub stores : (slots id : ℕ) (me : Me S (Member WordStep)) (a n : ℕ) → me.0.spent ≡ false → in_memory (length ws) a ≡ true
      → Allows (Ordered ws) slots id me (index_of a + 1) (λ _. n) (λ _. Stored (step slots (index_of a + 1) n 0 none) me n)
  stores slots id me a n live small s h _ at _ =
      let v : Member WordStep = me.0 in
      let i : ℕ = index_of a in
      let x : WordStep = StoreStep a n in
      let inside : in_memory (length (words_after ws h.order)) a ≡ true = ap (λ (n : ℕ). in_memory n a) (length_after ws h.order) ∙ small in (
        with_more v (x ∷ []),
        keeps,
        tt,
        grows s id v x (slice_set s.words (i + 1) n) h at live inside
            (ap (λ (l : List ℕ). slice_set l (i + 1) n) h.words ∙ ap (λ (k : ℕ). slice_set (0 ∷ words_after ws h.order) k n) (add-one i)),
        ap (λ (k : ℕ). (with_more v (StoreStep k n ∷ []), me.1)) (sym (address_is (length ws) a small)),
      )

  pub splits : (id : ℕ) (v : Member WordStep) → v.spent ≡ false → v.number ≡ 0 → Splits (Ordered {S = S} ws) id v (with_next v) (fresh v.next)
  splits id v live zero_is s h at = record {
    order = h.order;
    legal = h.legal;
    words = h.words;
    hands = keeping.splits (steps_by h.order) s.views id v h.hands at live zero_is;
  }

  pub joins : (id : ℕ) (v : Member WordStep) (other : ℕ) (u : Member WordStep) → v.spent ≡ false → v.number ≡ 0 → u.spent ≡ false → Joins (Ordered {S = S} ws) id v other u (with_kept v u) gone
  joins id v other u live zero_is live' s h at apart at' =
      let was : get_elem? s.views other ≡ some u =
      ⊎_elim (λ (t : (other ≡ id) × (with_kept v u ≡ u)). absurd (apart t.0)) (λ (t : (other ≢ id) × (get_elem? s.views other ≡ some u)). t.1) (at_set s.views id other (with_kept v u) u at') in
      record {
        order = h.order;
        legal = h.legal;
        words = h.words;
        hands = keeping.joins (steps_by h.order) s.views id v other u h.hands at live zero_is apart was live';
      }

  pub closes : (id : ℕ) (v : Member WordStep) (words : List ℕ) (homes : List S) → v.spent ≡ false → v.number ≡ 0 → IsAlone v → Final (Seen (Ordered ws) id v) words homes
      → (order : List OrderStep) × IsLegal ws order × KnowsAll v (steps_by order) × (words ≡ 0 ∷ words_after ws order)
  closes id v words homes live zero_is alone end =
      let s : State S (Member WordStep) = end.0 in
      let h : Ordered ws s = end.1.0 in
      (h.order, h.legal, keeping.all_parts (steps_by h.order) s.views id v h.hands end.1.1 live zero_is alone, sym end.2 ∙ h.words)

pub begins : (S : Type 0) (ws words : List ℕ) → words ≡ 0 ∷ ws → Ordered {S = S} ws (opening words [] first)
begins S ws words e = record { order = []; legal = tt; words = e; hands = keeping.begins }

-- the words behind the extra one
pub unloads : (ws words into : List ℕ) (o : List OrderStep) → words ≡ 0 ∷ words_after ws o → length into ≡ length ws
    → ((k : ℕ) → k < length into → get_or into k 0 ≡ get_or words (k + 1) 0) → into ≡ words_after ws o
unloads ws words into o is len each =
    ext_get_or 0 into (words_after ws o) (len ∙ sym (length_after ws o))
    (λ k h. each k h ∙ ap (λ (l : List ℕ). get_or l (k + 1) 0) is ∙ ap (λ (j : ℕ). get_or (0 ∷ words_after ws o) j 0) (add-one k))

pub read_at : (l : List ℕ) (i a : ℕ) → get_elem? l i ≡ some a → get_or l i 0 ≡ a
read_at [] i a e = absurd (some-ne-none a (sym e))
read_at (x ∷ xs) zero a e = some-injective x a e
read_at (x ∷ xs) (suc i) a e = read_at xs i a e
