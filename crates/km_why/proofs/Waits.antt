-- Which blocks wait, after a count.
use Rattle.std.proofs.Common.{◌≡◌, ℕ, suc, ◌+◌, ◌<◌, ◌≤◌, inl, inr, ◌⊎◌, Bool, true, false, cond, List, [], ◌∷◌, length, map, filter, refl, sym, ◌∙◌, ap, subst, arith}
use Rattle.std.specs.List.Sorted.{IsPermutation}
use Rattle.std.proofs.lemmas.List.Sorted.{IsPermutation-refl, IsPermutation-cons, IsPermutation-swap, IsPermutation-trans}
use Rattle.km_model.proofs.Cases.{elim_false}
use Rattle.km_model.proofs.Lists.{In}
use Rattle.km_track.specs.Tracker.{AreRising, Live}
use Rattle.km_why.specs.Waiting.{Key}

-- two tests that differ at one alone
module _ {X : Type 0} (f : X → Key) (p q : X → Bool) (x : X) where
  pub same : (xs : List X) → ((y : X) → In y xs → p y ≡ q y) → filter p xs ≡ filter q xs
  same [] each = refl
  same (y ∷ xs) each = ap (λ b. cond b (y ∷ filter p xs) (filter p xs)) (each y (inl refl)) ∙ ap (λ ys. cond (q y) (y ∷ ys) ys) (same xs (λ z i. each z (inr i)))

  turned : (k l : Key) (ks : List Key) → IsPermutation (k ∷ l ∷ ks) (l ∷ k ∷ ks)
  turned k l ks = IsPermutation-swap (k ∷ l ∷ ks) (l ∷ k ∷ ks) 0 1 (omega arith) (omega arith) refl

  -- a list in which it stands once, where the others pass both alike
  abbrev pub HasOne : List X → Type 0
  HasOne [] = ⊥
  HasOne (y ∷ xs) = ((x ≡ y) × ((z : X) → In z xs → p z ≡ q z)) ⊎ ((p y ≡ q y) × HasOne xs)

  -- then the later has this one more
  pub one_more : (xs : List X) → HasOne xs → p x ≡ false → q x ≡ true → IsPermutation (f x ∷ map f (filter p xs)) (map f (filter q xs))
  one_more [] h e g = absurd h
  one_more (y ∷ xs) (inl here) e g = subst (λ z. IsPermutation (f x ∷ map f (cond (p z) (z ∷ filter p xs) (filter p xs))) (map f (cond (q z) (z ∷ filter q xs) (filter q xs)))) here.0 at_x
    where
      at_x : IsPermutation (f x ∷ map f (cond (p x) (x ∷ filter p xs) (filter p xs))) (map f (cond (q x) (x ∷ filter q xs) (filter q xs)))
      at_x = subst (λ b. IsPermutation (f x ∷ map f (cond b (x ∷ filter p xs) (filter p xs))) (map f (cond (q x) (x ∷ filter q xs) (filter q xs)))) (sym e)
          (subst (λ b. IsPermutation (f x ∷ map f (filter p xs)) (map f (cond b (x ∷ filter q xs) (filter q xs)))) (sym g)
          (subst (λ ys. IsPermutation (f x ∷ map f (filter p xs)) (f x ∷ map f ys)) (same xs here.1) (IsPermutation-refl (f x ∷ map f (filter p xs)))))
  one_more (y ∷ xs) (inr there) e g = go (one_more xs there.1 e g) (p y) (q y) there.0
    where
      go : IsPermutation (f x ∷ map f (filter p xs)) (map f (filter q xs)) → (a b : Bool) → a ≡ b → IsPermutation (f x ∷ map f (cond a (y ∷ filter p xs) (filter p xs))) (map f (cond b (y ∷ filter q xs) (filter q xs)))
      go rest true true s = IsPermutation-trans (f x ∷ f y ∷ map f (filter p xs)) (f y ∷ f x ∷ map f (filter p xs)) (f y ∷ map f (filter q xs)) (turned (f x) (f y) (map f (filter p xs)))
          (IsPermutation-cons (f y) (f x ∷ map f (filter p xs)) (map f (filter q xs)) rest)
      go rest true false s = absurd (elim_false (sym s))
      go rest false true s = absurd (elim_false s)
      go rest false false s = rest

  -- and it isn't all that the earlier passes
  pub one_less : (xs : List X) → In x xs → p x ≡ false → length (filter p xs) < length xs
  one_less [] i e = absurd i
  one_less (y ∷ xs) (inl here) e =
      subst (λ z. length (cond (p z) (z ∷ filter p xs) (filter p xs)) < suc (length xs)) here
      (subst (λ b. length (cond b (x ∷ filter p xs) (filter p xs)) < suc (length xs)) (sym e) (let le = no_more xs in omega (arith, le)))
    where
      no_more : (ys : List X) → length (filter p ys) ≤ length ys
      no_more [] = omega arith
      no_more (z ∷ ys) = elim (p z) as (λ b. length (cond b (z ∷ filter p ys) (filter p ys)) ≤ suc (length ys)) [ true ↦ (let le = no_more ys in omega (arith, le)) | false ↦ (let le = no_more ys in omega (arith, le)) ]
  one_less (y ∷ xs) (inr i) e = elim (p y) as (λ b. length (cond b (y ∷ filter p xs) (filter p xs)) < suc (length xs)) [ true ↦ (let lt = one_less xs i e in omega (arith, lt)) | false ↦ (let lt = one_less xs i e in omega (arith, lt)) ]

pub rising_in : (low high : ℕ) (ls : List Live) (l : Live) → AreRising low ls high → In l ls → low ≤ l.tracked.block.id
rising_in low high [] l r i = absurd i
rising_in low high (x ∷ ls) l r (inl same) = subst (λ (y : Live). low ≤ y.tracked.block.id) (sym same) r.0
rising_in low high (x ∷ ls) l r (inr i) = let le = r.0 in let more = rising_in (x.tracked.block.id + 1) high ls l r.1 i in omega (arith, le, more)

-- a live block is the only one with its id
pub live_once : (f : Live → Key) (p q : Live → Bool) (l : Live) (low high : ℕ) (ls : List Live) → AreRising low ls high → In l ls
    → ((z : Live) → In z ls → (z.tracked.block.id ≡ l.tracked.block.id → ⊥) → p z ≡ q z) → HasOne f p q l ls
live_once f p q l low high [] r i each = absurd i
live_once f p q l low high (y ∷ ls) r (inl here) each = inl (
  here,
  λ z j. each z (inr j) (λ e.
      let more = rising_in (y.tracked.block.id + 1) high ls z r.1 j in let at : l.tracked.block.id ≡ y.tracked.block.id = ap (λ (x : Live). x.tracked.block.id) here in omega (arith, more, at, e)),
)
live_once f p q l low high (y ∷ ls) r (inr i) each = inr (
  each y (inl refl) (λ e. let more = rising_in (y.tracked.block.id + 1) high ls l r.1 i in omega (arith, more, e)),
  live_once f p q l (y.tracked.block.id + 1) high ls r.1 i (λ z j. each z (inr j)),
)

pub rising_same : (low high : ℕ) (ls : List Live) (z l : Live) → AreRising low ls high → In z ls → In l ls → z.tracked.block.id ≡ l.tracked.block.id → z ≡ l
rising_same low high [] z l r i j e = absurd i
rising_same low high (y ∷ ls) z l r (inl a) (inl b) e = a ∙ sym b
rising_same low high (y ∷ ls) z l r (inl a) (inr j) e =
    let more = rising_in (y.tracked.block.id + 1) high ls l r.1 j in let at : z.tracked.block.id ≡ y.tracked.block.id = ap (λ (x : Live). x.tracked.block.id) a in absurd (omega (arith, more, at, e))
rising_same low high (y ∷ ls) z l r (inr i) (inl b) e =
    let more = rising_in (y.tracked.block.id + 1) high ls z r.1 i in let at : l.tracked.block.id ≡ y.tracked.block.id = ap (λ (x : Live). x.tracked.block.id) b in absurd (omega (arith, more, at, e))
rising_same low high (y ∷ ls) z l r (inr i) (inr j) e = rising_same (y.tracked.block.id + 1) high ls z l r.1 i j e
