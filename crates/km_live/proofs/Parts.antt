-- Parts by number: which of them were taken in, and what they tell of the whole.
use Rattle.std.proofs.Common.{◌≡◌, ℕ, zero, suc, ◌+◌, ◌≤◌, ◌<◌, ◌==◌, ◌⊎◌, Bool, true, false, List, [], ◌∷◌, length, if◌then◌else◌, refl, ◌∙◌, ap, subst, arith, inl, inr, eq-eqb, eqb-true}
use Rattle.std.proofs.lemmas.Bool.{false_from_ne_true}
use Rattle.std.proofs.lemmas.Bool.Decides.{leb_tells}
use Rattle.km_model.specs.Members.{Each}
use Rattle.km_numbered.specs.Members.{list_of, part}
use Rattle.km_live_model.specs.Rounds.{IsWorker}
use Rattle.km_live.specs.Left.{Left, taken_in}

pub other_number : (k j : ℕ) → (k ≡ j → ⊥) → (k == j) ≡ false
other_number k j apart = false_from_ne_true (k == j) (λ e. apart (eqb-true k j e))

filled : {X : Type 0} (x : X) (xs : List X) → x ∷ xs ≡ [] → ⊥
filled x xs e = absurd cc

module _ {A : Type 0} (own : Left → List A) where
  -- what was kept under another number is kept
  pub kept_below : (k : ℕ) (ls : List Left) (kept : List (ℕ × List A)) (j : ℕ) → j < k → list_of j (taken_in own k ls kept) ≡ list_of j kept
  kept_below k [] kept j lt = refl
  kept_below k (l ∷ ls) kept j lt =
      kept_below (k + 1) ls ((k, own l) ∷ kept) j (omega (arith, lt)) ∙ ap (λ q. if q then own l else list_of j kept) (other_number j k (λ e. omega (arith, lt, e)))

  pub kept_above : (k : ℕ) (ls : List Left) (kept : List (ℕ × List A)) (j : ℕ) → k + length ls ≤ j → list_of j (taken_in own k ls kept) ≡ list_of j kept
  kept_above k [] kept j le = refl
  kept_above k (l ∷ ls) kept j le =
      kept_above (k + 1) ls ((k, own l) ∷ kept) j (omega (arith, le)) ∙ ap (λ q. if q then own l else list_of j kept) (other_number j k (λ e. omega (arith, le, e)))

  -- the first of those that were taken in
  pub kept_first : (k : ℕ) (l : Left) (ls : List Left) (kept : List (ℕ × List A)) → list_of k (taken_in own k (l ∷ ls) kept) ≡ own l
  kept_first k l ls kept = kept_below (k + 1) ls ((k, own l) ∷ kept) k (omega arith) ∙ ap (λ q. if q then own l else list_of k kept) (eq-eqb k k refl)

  -- beside the first one's part, which is empty
  pub beside_first : (k : ℕ) (kept : List (ℕ × List A)) → list_of (suc k) ((0, []) ∷ kept) ≡ list_of (suc k) kept
  beside_first k kept = ap (λ q. if q then [] else list_of (suc k) kept) (other_number (suc k) 0 (λ e. omega (arith, e)))

  -- each number is a worker's, or has no part
  pub numbered : (ls : List Left) (first : List A) (mutators : ℕ) (parts : ℕ → List A) → length ls ≡ mutators
      → ((k : ℕ) → parts k ≡ list_of k ((0, []) ∷ taken_in own 2 ls ((1, first) ∷ []))) → (k : ℕ) → IsWorker mutators k ⊎ (parts k ≡ [])
  numbered ls first mutators parts same is zero = inr (is zero)
  numbered ls first mutators parts same is (suc k) = elim (leb_tells (suc k) (mutators + 1)) [
    | inl low ↦ (let l = low.1 in inl (omega arith, l))
    | inr high ↦ (let h = high.1 in
        inr (is (suc k)
        ∙ (beside_first k (taken_in own 2 ls ((1, first) ∷ []))
        ∙ (kept_above 2 ls ((1, first) ∷ []) (suc k) (omega (arith, h, same)) ∙ ap (λ q. if q then first else []) (other_number (suc k) 1 (λ e. omega (arith, e, h)))))))
  ]

module _ {E A : Type 0} (by : E → ℕ) (item : E → A) where
  -- what has a part has a number of this kind, so each item has
  pub within : (P : ℕ → Type 0) (es : List E) → ((k : ℕ) → P k ⊎ (part by item k es ≡ [])) → Each (λ (e : E). P (by e)) es
  within P [] f = tt
  within P (e ∷ es) f = (head (f (by e)), within P es (λ k. rest k (f k)))
    where
      head : P (by e) ⊎ (part by item (by e) (e ∷ es) ≡ []) → P (by e)
      head (inl p) = p
      head (inr none) =
          absurd (filled (item e) (part by item (by e) es) (subst (λ q. (if q then item e ∷ part by item (by e) es else part by item (by e) es) ≡ []) (eq-eqb (by e) (by e) refl) none))

      cut : (k : ℕ) (q : Bool) → (if q then item e ∷ part by item k es else part by item k es) ≡ [] → part by item k es ≡ []
      cut k true none = absurd (filled (item e) (part by item k es) none)
      cut k false none = none

      rest : (k : ℕ) → P k ⊎ (part by item k (e ∷ es) ≡ []) → P k ⊎ (part by item k es ≡ [])
      rest k (inl p) = inl p
      rest k (inr none) = inr (cut k (k == by e) none)

module _ {E : Type 0} (by : E → ℕ) where
  -- what holds of each item of each part holds of each
  pub of_parts : (P : E → Type 0) (es : List E) → ((k : ℕ) → Each P (part by (λ (e : E). e) k es)) → Each P es
  of_parts P [] f = tt
  of_parts P (e ∷ es) f = ((subst (λ q. Each P (if q then e ∷ own (by e) else own (by e))) (eq-eqb (by e) (by e) refl) (f (by e))).0, of_parts P es (λ k. rest k (k == by e) (f k)))
    where
      own : ℕ → List E
      own k = part by (λ (x : E). x) k es

      rest : (k : ℕ) (q : Bool) → Each P (if q then e ∷ own k else own k) → Each P (own k)
      rest k true all = all.1
      rest k false all = all
