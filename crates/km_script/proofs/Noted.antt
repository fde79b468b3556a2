use Rattle.std.proofs.Common.{◌≡◌, ℕ, suc, ◌+◌, ◌<◌, Bool, true, false, List, [], ◌∷◌, ◌++◌, length, take, drop, slice_index_or, Option, refl, ap, sym, subst, ◌∙◌, arith}
use Rattle.std.specs.List.{position_from, position_or_len}
use Rattle.std.proofs.lemmas.List.{take_more, drop_more}
use Rattle.km_model.specs.Pieces.{is_blank}
use Rattle.km_script.specs.Bytes.{is_plain}
use Rattle.km_script.specs.Marks.{AreMarks, if_here, or_first}
use Rattle.km_script.specs.declared.marks.Marks.{Marks}
use Rattle.km_script.proofs.Foreign.{or_none, place_more, plain_is}

-- a byte more is noted
pub noted : (p : ℕ → Bool) (i x place : ℕ) (before : Option ℕ) (xs : List ℕ) → i + length xs ≡ place → before ≡ position_from p i xs
    → or_first before (if_here (p x) place) ≡ position_from p i (xs ++ x ∷ [])
noted p i x place before xs l e =
    ap (λ o. or_first o (if_here (p x) place)) e
    ∙ ap (λ k. or_first (position_from p i xs) (if_here (p x) k)) (sym l)
    ∙ sym (place_more p i x xs)

unnoted : (p : ℕ → Bool) (i x : ℕ) (before : Option ℕ) (xs : List ℕ) → p x ≡ false → before ≡ position_from p i xs → before ≡ position_from p i (xs ++ x ∷ [])
unnoted p i x before xs n e =
    sym (or_none before)
    ∙ ap (λ b. or_first before (if_here b (i + length xs))) (sym n)
    ∙ noted p i x (i + length xs) before xs refl e

-- nothing is noted of a plain byte
pub noted_plain : (marks : Marks) (column i : ℕ) (bytes : List ℕ) → i < length bytes → is_plain (slice_index_or bytes i 0) ≡ true
    → AreMarks marks column (take i bytes) → AreMarks marks column (take (i + 1) bytes)
noted_plain marks column i bytes l h m =
    let x = slice_index_or bytes i 0 in
    let is = plain_is x h in
    let P : List ℕ → Type 0 = λ xs. AreMarks marks column xs in
    subst P (sym (take_more bytes i 0 l)) (record {
      dot = unnoted _ 0 x marks.dot (take i bytes) is.2 m.dot;
      plus = unnoted _ 0 x marks.plus (take i bytes) is.3 m.plus;
      foreign = unnoted _ column x marks.foreign (take i bytes) is.1 m.foreign;
    })

-- the word goes on
pub goes_on_at : (i : ℕ) (bytes : List ℕ) → i < length bytes → is_blank (slice_index_or bytes i 0) ≡ false
    → position_or_len is_blank bytes ≡ i + position_or_len is_blank (drop i bytes)
    → position_or_len is_blank bytes ≡ i + 1 + position_or_len is_blank (drop (i + 1) bytes)
goes_on_at i bytes l n e =
    let x = slice_index_or bytes i 0 in
    let k : position_or_len is_blank (x ∷ drop (i + 1) bytes) ≡ suc (position_or_len is_blank (drop (i + 1) bytes)) = rw n (omega arith) in
    e ∙ ap (λ ds. i + position_or_len is_blank ds) (drop_more bytes i 0 l) ∙ (omega (arith, k))
