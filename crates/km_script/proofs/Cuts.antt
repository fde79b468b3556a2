use Rattle.std.proofs.Common.{◌≡◌, ℕ, suc, ◌+◌, ◌-◌, ◌<◌, ◌≤◌, Bool, true, false, cond, nat_lt, ◌==◌, List, [], ◌∷◌, length, take, drop, Some, None, position, refl, ap, sym, subst, ◌∙◌, arith, add-one, length-drop}
use Rattle.std.specs.List.{position_or_len}
use Rattle.std.proofs.lemmas.List.{take_all}
use Rattle.std.proofs.lemmas.Bool.{ltb-true, ltb-false}
use Rattle.km_model.specs.Pieces.{up_to, behind_first}

-- the place of a byte, or the length
abbrev pub place : ℕ → List ℕ → ℕ
place c xs = position_or_len (λ x. x == c) xs

one : (n : ℕ) → 1 + n ≡ suc n
one n = omega arith

-- what stands before a byte, and what stands behind it, by the byte's place
record IsCut (c : ℕ) (xs : List ℕ) (n : ℕ) : Type 0 where
  before : up_to c xs ≡ take n xs
  behind : n < length xs → behind_first c xs ≡ Some (drop (suc n) xs)
  none : length xs ≤ n → behind_first c xs ≡ None

here : (c x : ℕ) (xs : List ℕ) → (x == c) ≡ true → IsCut c (x ∷ xs) 0
here c x xs e = record { before = rw e refl; behind = λ _. rw e refl; none = λ h. absurd (omega (arith, h)) }

later : (c x : ℕ) (xs : List ℕ) (n : ℕ) → (x == c) ≡ false → IsCut c xs n → IsCut c (x ∷ xs) (suc n)
later c x xs n e h = record {
  before = rw e (ap (λ ys. x ∷ ys) h.before);
  behind = λ l. rw e (h.behind (omega (arith, l)));
  none = λ l. rw e (h.none (omega (arith, l)));
}

next_place : (c x : ℕ) (xs : List ℕ) (b : Bool) → (x == c) ≡ b → IsCut c xs (place c xs) → IsCut c (x ∷ xs) (place c (x ∷ xs))
next_place c x xs true e h =
    let z : place c (x ∷ xs) ≡ 0 = rw e refl in
    let P : ℕ → Type 0 = λ n. IsCut c (x ∷ xs) n in subst P (sym z) (here c x xs e)
next_place c x xs false e h =
    let z : place c (x ∷ xs) ≡ suc (place c xs) = rw e (one (place c xs)) in
    let P : ℕ → Type 0 = λ n. IsCut c (x ∷ xs) n in subst P (sym z) (later c x xs (place c xs) e h)

cut_at : (c : ℕ) (xs : List ℕ) → IsCut c xs (place c xs)
cut_at c [] = record { before = refl; behind = λ h. absurd (omega (arith, h)); none = λ _. refl }
cut_at c (x ∷ xs) = next_place c x xs (x == c) refl (cut_at c xs)

-- a byte that is there
pub cut_there : (c : ℕ) (xs : List ℕ) (i : ℕ) → position (λ x. x == c) xs ≡ Some i
    → (up_to c xs ≡ take i xs) × (behind_first c xs ≡ Some (take (length xs - (i + 1)) (drop (i + 1) xs)))
cut_there c xs i e = by_test (nat_lt (place c xs) (length xs)) refl e
  where
    by_test : (b : Bool) → nat_lt (place c xs) (length xs) ≡ b → cond b (Some (place c xs)) None ≡ Some i
        → (up_to c xs ≡ take i xs) × (behind_first c xs ≡ Some (take (length xs - (i + 1)) (drop (i + 1) xs)))
    by_test true t s =
        let h : place c xs ≡ i = cc in
        let l : place c xs < length xs = ltb-true _ _ t in (
          (cut_at c xs).before ∙ ap (λ n. take n xs) h,
          (cut_at c xs).behind l ∙ ap (λ n. Some (drop n xs)) (ap suc h ∙ sym (add-one i)) ∙ ap Some (sym (take_all (length xs - (i + 1)) (drop (i + 1) xs) (omega (arith, length-drop (i + 1) xs)))),
        )
    by_test false t s = absurd (cc)

-- a byte that is not there
pub cut_none : (c : ℕ) (xs : List ℕ) → position (λ x. x == c) xs ≡ None → behind_first c xs ≡ None
cut_none c xs e = by_test (nat_lt (place c xs) (length xs)) refl e
  where
    by_test : (b : Bool) → nat_lt (place c xs) (length xs) ≡ b → cond b (Some (place c xs)) None ≡ None → behind_first c xs ≡ None
    by_test true t s = absurd (cc)
    by_test false t s = (cut_at c xs).none (ltb-false _ _ t)
