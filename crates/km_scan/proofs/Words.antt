use Rattle.std.proofs.Common.{◌≡◌, List, [], ◌∷◌, ℕ, zero, suc, ◌+◌, ◌*◌, ◌<◌, ◌≤◌, Bool, true, false, cond, ltb, leb, filter, Some, None, refl, ap, ◌∙◌, arith, subst}
use Rattle.std.specs.Prelude.{find}
use Rattle.std.specs.List.{All}
use Rattle.std.proofs.lemmas.List.Elements.{All-head, All-tail}
use Rattle.std.proofs.lemmas.Bool.{ltb-true, ltb-false, lt-ltb, le-ltb, le-leb, lt-leb}
use Rattle.km_model.specs.Memory.{words_from}
use Rattle.km_model.specs.Scan.{first_word, word_above}

-- the words behind one, among words that are 8 apart

-- a word is behind another, or at the next word or above: that is one
same_test : (w s i j : ℕ) → w + 8 * j ≡ s + 8 * i → leb (w + 8) s ≡ ltb w s
same_test w s i j e =
    elim (ltb w s) as (λ b. ltb w s ≡ b → leb (w + 8) s ≡ b) [
      | true ↦ λ t. at_true (ltb-true w s t)
      | false ↦ λ f. at_false (ltb-false w s f)
    ] refl
  where
    at_true : w < s → leb (w + 8) s ≡ true
    at_true lt = le-leb (w + 8) s (omega (arith, lt, e))

    at_false : s ≤ w → leb (w + 8) s ≡ false
    at_false le = lt-leb (w + 8) s (omega (arith, le))

-- the first word from the next on is the first word above
pub found_behind : (p : ℕ → Bool) (n w s i j : ℕ) → w + 8 * j ≡ s + 8 * i → find (leb (w + 8)) (filter p (words_from n s)) ≡ word_above w (filter p (words_from n s))
found_behind p zero w s i j e = refl
found_behind p (suc n) w s i j e =
    elim (p s) as (λ b. find (leb (w + 8)) (cond b (s ∷ filter p (words_from n (s + 8))) (filter p (words_from n (s + 8)))) ≡ word_above w (cond b (s ∷ filter p (words_from n (s + 8))) (filter p (words_from n (s + 8))))) [
      | true ↦
          ap (λ b. cond b (Some s) (find (leb (w + 8)) (filter p (words_from n (s + 8))))) (same_test w s i j e)
          ∙ ap (λ o. cond (ltb w s) (Some s) o) (found_behind p n w (s + 8) i (j + 1) (omega (arith, e)))
      | false ↦ found_behind p n w (s + 8) i (j + 1) (omega (arith, e))
    ]

-- from the first word on, all are there
pub found_first : (p : ℕ → Bool) (n low s : ℕ) → low ≤ s → find (leb low) (filter p (words_from n s)) ≡ first_word (filter p (words_from n s))
found_first p zero low s le = refl
found_first p (suc n) low s le =
    elim (p s) as (λ b. find (leb low) (cond b (s ∷ filter p (words_from n (s + 8))) (filter p (words_from n (s + 8)))) ≡ first_word (cond b (s ∷ filter p (words_from n (s + 8))) (filter p (words_from n (s + 8))))) [
      | true ↦ ap (λ b. cond b (Some s) (find (leb low) (filter p (words_from n (s + 8))))) (le-leb low s le)
      | false ↦ found_first p n low (s + 8) (omega (arith, le))
    ]

-- the word behind a word, where that isn't the last
pub next_word : (n s w i : ℕ) → w ≡ s + 8 * i → i + 1 < n → word_above w (words_from n s) ≡ Some (w + 8)
next_word zero s w i e lt = absurd (omega (arith, lt))
next_word (suc n) s w zero e lt = rw (le-ltb w s (omega (arith, e))) (first_above n (s + 8) w (omega (arith, e)) (omega (arith, lt)))
  where
    first_above : (n s w : ℕ) → s ≡ w + 8 → 0 < n → word_above w (words_from n s) ≡ Some (w + 8)
    first_above zero s w e lt = absurd (omega (arith, lt))
    first_above (suc n) s w e lt = rw (lt-ltb w s (omega (arith, e))) (ap (λ x. Some x) e)
next_word (suc n) s w (suc i) e lt = rw (le-ltb w s (omega (arith, e))) (next_word n (s + 8) w i (omega (arith, e)) (omega (arith, lt)))

-- and none behind the last
pub no_word : (n s w i : ℕ) → w ≡ s + 8 * i → n ≤ i + 1 → word_above w (words_from n s) ≡ None
no_word zero s w i e le = refl
no_word (suc n) s w zero e le = rw (le-ltb w s (omega (arith, e))) (none n (s + 8) w (omega (arith, le)))
  where
    none : (n s w : ℕ) → n ≤ 0 → word_above w (words_from n s) ≡ None
    none zero s w le = refl
    none (suc n) s w le = absurd (omega (arith, le))
no_word (suc n) s w (suc i) e le = rw (le-ltb w s (omega (arith, e))) (no_word n (s + 8) w i (omega (arith, e)) (omega (arith, le)))

-- what holds of all holds of the one that is found
pub found_all : {A : Type 0} (P : A → Type 0) (test : A → Bool) (ls : List A) (l : A) → All P ls → find test ls ≡ Some l → P l
found_all P test [] l all e = absurd (let z : ⊥ = cc in z)
found_all P test (x ∷ ls) l all e =
    elim (test x) as (λ b. cond b (Some x) (find test ls) ≡ Some l → P l) [
      | true ↦ λ f. let same : x ≡ l = cc in subst P same (All-head P x ls all)
      | false ↦ λ f. found_all P test ls l (All-tail P x ls all) f
    ] e
