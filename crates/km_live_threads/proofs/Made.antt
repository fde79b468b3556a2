-- Each of several, if none is refused, made one after the other.
use Rattle.std.proofs.Common.{◌≡◌, ℕ, ◌+◌, ◌<◌, ◌≤◌, List, [], ◌∷◌, ◌++◌, length, drop, get_or, Result, Ok, Err, refl, sym, ap, ◌∙◌, append_assoc}
use Rattle.std.proofs.lemmas.List.{append-nil, at_drop_all, at_drop_more}
use Rattle.km_base.specs.declared.acts.Refusal.{Refusal}
use Rattle.km_model.specs.Operands.{then_do}
use Rattle.km_live_model.specs.Rounds.{all_of}

-- some that are made, and those of a result
abbrev pub with_made : {B : Type 0} → List B → Result (List B) Refusal → Result (List B) Refusal
with_made done r = then_do r (λ ys. Ok (done ++ ys))

with_none : {B : Type 0} (r : Result (List B) Refusal) → r ≡ with_made [] r
with_none (Ok ys) = refl
with_none (Err refusal) = refl

with_one : {B : Type 0} (done : List B) (y : B) (r : Result (List B) Refusal) → with_made done (then_do r (λ ys. Ok (y ∷ ys))) ≡ with_made (done ++ y ∷ []) r
with_one done y (Ok ys) = ap Ok (sym (append_assoc done (y ∷ []) ys))
with_one done y (Err refusal) = refl

module _ {A B : Type 0} (make : A → Result B Refusal) (xs : List A) where
  -- those before a place are made
  abbrev pub IsMade : ℕ → List B → Type 0
  IsMade i done = all_of make xs ≡ with_made done (all_of make (drop i xs))

  -- none before the first
  pub none_made : IsMade 0 []
  none_made = with_none (all_of make xs)

  -- one more
  pub one_made : (i : ℕ) (done : List B) (d : A) (y : B) → i < length xs → make (get_or xs i d) ≡ Ok y → IsMade i done → IsMade (i + 1) (done ++ y ∷ [])
  one_made i done d y low e m =
      m ∙ ap (with_made done) (at_drop_more (all_of make) xs i d low ∙ ap (λ r. then_do r (λ z. then_do (all_of make (drop (i + 1) xs)) (λ zs. Ok (z ∷ zs)))) e)
      ∙ with_one done y (all_of make (drop (i + 1) xs))

  -- one that is refused
  pub one_refused : (i : ℕ) (done : List B) (d : A) (refusal : Refusal) → i < length xs → make (get_or xs i d) ≡ Err refusal → IsMade i done → all_of make xs ≡ Err refusal
  one_refused i done d refusal low e m =
      m ∙ ap (with_made done) (at_drop_more (all_of make) xs i d low ∙ ap (λ r. then_do r (λ z. then_do (all_of make (drop (i + 1) xs)) (λ zs. Ok (z ∷ zs)))) e)

  -- all
  pub all_made : (i : ℕ) (done : List B) → length xs ≤ i → IsMade i done → all_of make xs ≡ Ok done
  all_made i done most m = m ∙ ap (with_made done) (at_drop_all (all_of make) xs i most) ∙ ap Ok (append-nil done)
