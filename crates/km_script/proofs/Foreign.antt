use Rattle.std.proofs.Common.{◌≡◌, ℕ, suc, ◌+◌, ◌-◌, Bool, true, false, cond, not, ◌==◌, List, [], ◌∷◌, ◌++◌, length, take, drop, Option, Some, None, refl, ap, sym, ◌∙◌, arith, add-zero}
use Rattle.std.specs.List.{prefix_len, position_from, position_or_len}
use Rattle.std.proofs.lemmas.List.{take-append-drop}
use Rattle.km_model.specs.Grammar.{is_foreign}
use Rattle.km_model.specs.Pieces.{is_blank, goes_on, pieces_from}
use Rattle.km_script.specs.Bytes.{is_plain}
use Rattle.km_script.specs.Marks.{if_here, or_first}

-- a byte of which nothing is noted
pub plain_is : (c : ℕ) → is_plain c ≡ true → (is_blank c ≡ false) × (is_foreign c ≡ false) × ((c == 46) ≡ false) × ((c == 43) ≡ false)
plain_is c e = grind arith

blank_is : (c : ℕ) → is_blank c ≡ true → is_foreign c ≡ false
blank_is c e = grind arith

pub or_first_assoc : (a b c : Option ℕ) → or_first (or_first a b) c ≡ or_first a (or_first b c)
or_first_assoc None b c = refl
or_first_assoc (Some i) b c = refl

pub or_none : (a : Option ℕ) → or_first a None ≡ a
or_none None = refl
or_none (Some i) = refl

-- the first place in two parts
pub place_in_both : (p : ℕ → Bool) (i : ℕ) (xs ys : List ℕ) → position_from p i (xs ++ ys) ≡ or_first (position_from p i xs) (position_from p (i + length xs) ys)
place_in_both p i [] ys = ap (λ k. position_from p k ys) (sym (add-zero i))
place_in_both p i (x ∷ xs) ys =
    elim (p x) as (λ b. cond b (Some i) (position_from p (i + 1) (xs ++ ys)) ≡ or_first (cond b (Some i) (position_from p (i + 1) xs)) (position_from p (i + suc (length xs)) ys)) [
      | true ↦ refl
      | false ↦
          place_in_both p (i + 1) xs ys
          ∙ ap (λ k. or_first (position_from p (i + 1) xs) (position_from p k ys)) (let e : i + 1 + length xs ≡ i + suc (length xs) = omega arith in e)
    ]

-- one byte is looked at
pub place_at : (p : ℕ → Bool) (i x : ℕ) (xs : List ℕ) → position_from p i (x ∷ xs) ≡ or_first (if_here (p x) i) (position_from p (i + 1) xs)
place_at p i x xs =
    elim (p x) as (λ b. cond b (Some i) (position_from p (i + 1) xs) ≡ or_first (if_here b i) (position_from p (i + 1) xs)) [
      | true ↦ refl
      | false ↦ refl
    ]

-- one byte more is looked at
pub place_more : (p : ℕ → Bool) (i x : ℕ) (xs : List ℕ) → position_from p i (xs ++ x ∷ []) ≡ or_first (position_from p i xs) (if_here (p x) (i + length xs))
place_more p i x xs =
    place_in_both p i xs (x ∷ [])
    ∙ ap (λ o. or_first (position_from p i xs) o) (place_at p (i + length xs) x [] ∙ or_none (if_here (p x) (i + length xs)))

-- blanks are not foreign
behind_blanks : (i : ℕ) (cs : List ℕ) → position_from is_foreign i cs ≡ position_from is_foreign (i + prefix_len is_blank cs) (drop (prefix_len is_blank cs) cs)
behind_blanks i [] = refl
behind_blanks i (c ∷ cs) = by_test (is_blank c) refl (behind_blanks (i + 1) cs)
  where
    by_test : (b : Bool) → is_blank c ≡ b
        → position_from is_foreign (i + 1) cs ≡ position_from is_foreign (i + 1 + prefix_len is_blank cs) (drop (prefix_len is_blank cs) cs)
        → position_from is_foreign i (c ∷ cs) ≡ position_from is_foreign (i + prefix_len is_blank (c ∷ cs)) (drop (prefix_len is_blank (c ∷ cs)) (c ∷ cs))
    by_test false e ih =
        let zero : prefix_len is_blank (c ∷ cs) ≡ 0 = rw e refl in
        rw (zero, add-zero i) refl
    by_test true e ih =
        let one : prefix_len is_blank (c ∷ cs) ≡ suc (prefix_len is_blank cs) = rw e (omega arith) in
        let on : i + 1 + prefix_len is_blank cs ≡ i + suc (prefix_len is_blank cs) = omega arith in
        rw one (ap (λ b. cond b (Some i) (position_from is_foreign (i + 1) cs)) (blank_is c e) ∙ ih ∙ ap (λ k. position_from is_foreign k (drop (prefix_len is_blank cs) cs)) on)

-- what is foreign in a line, by its first word and what stands behind that
pub foreign_next : (before noted : Option ℕ) (column blanks first n : ℕ) (cs behind rest : List ℕ)
    → blanks ≡ prefix_len is_blank cs → drop blanks cs ≡ first ∷ behind → noted ≡ position_from is_foreign (column + blanks + 1) (take n behind)
    → rest ≡ drop n behind → length (take n behind) ≡ n
    → or_first (or_first before (or_first (if_here (is_foreign first) (column + blanks)) noted)) (position_from is_foreign (column + blanks + 1 + n) rest)
    ≡ or_first before (position_from is_foreign column cs)
foreign_next before noted column blanks first n cs behind rest b from m r l =
    let here = if_here (is_foreign first) (column + blanks) in
    or_first_assoc before (or_first here noted) (position_from is_foreign (column + blanks + 1 + n) rest)
    ∙ ap (λ o. or_first before o) (
    or_first_assoc here noted (position_from is_foreign (column + blanks + 1 + n) rest)
    ∙ ap (λ o. or_first here o) (
    rw (m, r) (
    ap (λ k. or_first (position_from is_foreign (column + blanks + 1) (take n behind)) (position_from is_foreign (column + blanks + 1 + k) (drop n behind))) (sym l)
    ∙ sym (place_in_both is_foreign (column + blanks + 1) (take n behind) (drop n behind))
    ∙ ap (position_from is_foreign (column + blanks + 1)) (take-append-drop n behind)))
    ∙ sym (place_at is_foreign (column + blanks) first behind)
    ∙ ap (position_from is_foreign (column + blanks)) (sym from)
    ∙ ap (λ k. position_from is_foreign (column + k) (drop k cs)) b
    ∙ sym (behind_blanks column cs))

-- a word ends at a blank or at the end
pub ends_at_blank : (xs : List ℕ) → goes_on (drop (position_or_len is_blank xs) xs) ≡ false
ends_at_blank [] = refl
ends_at_blank (c ∷ cs) = by_test (is_blank c) refl (ends_at_blank cs)
  where
    by_test : (b : Bool) → is_blank c ≡ b → goes_on (drop (position_or_len is_blank cs) cs) ≡ false → goes_on (drop (position_or_len is_blank (c ∷ cs)) (c ∷ cs)) ≡ false
    by_test true e ih =
        let zero : position_or_len is_blank (c ∷ cs) ≡ 0 = rw e refl in
        rw (zero, e) refl
    by_test false e ih =
        let one : position_or_len is_blank (c ∷ cs) ≡ suc (position_or_len is_blank cs) = rw e (omega arith) in
        rw one ih

unless_not : (b : Bool) → not b ≡ false → b ≡ true
unless_not true e = refl
unless_not false e = absurd (cc)

-- two ends of a line that have the same words and the same foreign byte
pub record AreAlike (i k : ℕ) (xs ys : List ℕ) : Type 0 where
  pub pieces : pieces_from i xs ≡ pieces_from k ys
  pub foreign : position_from is_foreign i xs ≡ position_from is_foreign k ys

-- the blank that ends a word may be passed
pub behind_end : (i k end : ℕ) (xs ys : List ℕ) → goes_on xs ≡ false → ys ≡ drop 1 xs → i + length xs ≡ end → k ≡ end - length ys → AreAlike i k xs ys
behind_end i k end [] ys g d l e = rw d (record { pieces = refl; foreign = refl })
behind_end i k end (c ∷ cs) ys g d l e =
    let same : ys ≡ cs = d in
    let next : k ≡ i + 1 = omega (arith, ap length same) in
    let blank : is_blank c ≡ true = unless_not (is_blank c) g in
    rw (same, next) (record {
      pieces = rw blank refl;
      foreign = rw (blank_is c blank) refl;
    })
