use Rattle.std.proofs.Common.{◌≡◌, ℕ, suc, ◌+◌, Bool, true, false, List, [], ◌∷◌, length, take, drop, Err, refl, ap, sym, ◌∙◌, arith, if◌then◌else◌, not, add-zero}
use Rattle.std.specs.List.{prefix_len, position_or_len}
use Rattle.std.proofs.Math.Seq.{drop-length}
use Rattle.km_model.specs.Pieces.{Piece, is_blank, pieces_from, goes_on, put_byte}
use Rattle.km_script.specs.Left.{none_left}
use Rattle.km_script.specs.Words.{IsAllBlank, IsFirstVisible}

-- a word before the others, unless it is empty: then there is no word
abbrev pub word_before : ℕ → List ℕ → List Piece → List Piece
word_before column [] rest = []
word_before column (c ∷ cs) rest = record { column = column; bytes = c ∷ cs } ∷ rest

-- the pieces of bytes, by the length of the word at their front
abbrev pub front_word : ℕ → ℕ → List ℕ → List Piece
front_word column n cs = word_before column (take n cs) (pieces_from (column + n) (drop n cs))

one_more : (column c : ℕ) (d : ℕ) (ds : List ℕ) (n k j : ℕ) → k ≡ suc n → j ≡ suc (suc n)
    → put_byte column c true (front_word (column + 1) k (d ∷ ds)) ≡ front_word column j (c ∷ d ∷ ds)
one_more column c d ds n k j h h' = rw (h, h') (ap (λ k. record { column = column; bytes = c ∷ d ∷ take n ds } ∷ pieces_from k (drop n ds)) (omega arith))

longer : (column c d : ℕ) (ds : List ℕ) (b : Bool) → is_blank d ≡ b
    → (is_blank d ≡ false → pieces_from (column + 1) (d ∷ ds) ≡ front_word (column + 1) (position_or_len is_blank (d ∷ ds)) (d ∷ ds))
    → put_byte column c (not (is_blank d)) (pieces_from (column + 1) (d ∷ ds)) ≡ front_word column (1 + position_or_len is_blank (d ∷ ds)) (c ∷ d ∷ ds)
longer column c d ds true e ih =
    ap (λ b. put_byte column c (not b) (pieces_from (column + 1) (d ∷ ds))) e
    ∙ sym (ap (λ n. front_word column n (c ∷ d ∷ ds)) (let h : 1 + position_or_len is_blank (d ∷ ds) ≡ 1 = rw e refl in h))
longer column c d ds false e ih =
    ap (λ b. put_byte column c (not b) (pieces_from (column + 1) (d ∷ ds))) e
    ∙ ap (put_byte column c true) (ih e)
    ∙ one_more column c d ds (position_or_len is_blank ds) _ _ (rw e (omega arith)) (rw e (omega arith))

-- the word at the front
word_first : (column c : ℕ) (cs : List ℕ) → is_blank c ≡ false → pieces_from column (c ∷ cs) ≡ front_word column (position_or_len is_blank (c ∷ cs)) (c ∷ cs)
word_first column c [] e = rw e refl
word_first column c (d ∷ ds) e = rw e (longer column c d ds (is_blank d) refl (word_first (column + 1) d ds))

-- the word behind some blanks
abbrev pub word_behind : ℕ → ℕ → List ℕ → List Piece
word_behind column blanks cs = front_word (column + blanks) (position_or_len is_blank (drop blanks cs)) (drop blanks cs)

one_later : (column c : ℕ) (cs : List ℕ) (n k : ℕ) → n ≡ suc k → word_behind (column + 1) k cs ≡ word_behind column n (c ∷ cs)
one_later column c cs n k h =
    rw h (ap (λ j. front_word j (position_or_len is_blank (drop k cs)) (drop k cs)) (let e : column + 1 + k ≡ column + suc k = omega arith in e))

behind_blank : (column c : ℕ) (cs : List ℕ) (b : Bool) → is_blank c ≡ b
    → pieces_from (column + 1) cs ≡ word_behind (column + 1) (prefix_len is_blank cs) cs
    → pieces_from column (c ∷ cs) ≡ word_behind column (prefix_len is_blank (c ∷ cs)) (c ∷ cs)
behind_blank column c cs true e ih =
    ap (λ b. if b then pieces_from (column + 1) cs else put_byte column c (goes_on cs) (pieces_from (column + 1) cs)) e
    ∙ ih
    ∙ one_later column c cs _ (prefix_len is_blank cs) (rw e (omega arith))
behind_blank column c cs false e ih =
    word_first column c cs e
    ∙ sym (ap (λ n. word_behind column n (c ∷ cs)) (let h : prefix_len is_blank (c ∷ cs) ≡ 0 = rw e refl in h)
    ∙ ap (λ j. front_word j (position_or_len is_blank (c ∷ cs)) (c ∷ cs)) (add-zero column))

-- the first word stands behind the blanks at the front
pub first_word : (column : ℕ) (cs : List ℕ) → pieces_from column cs ≡ word_behind column (prefix_len is_blank cs) cs
first_word column [] = refl
first_word column (c ∷ cs) = behind_blank column c cs (is_blank c) refl (first_word (column + 1) cs)

-- the pieces of bytes, by how a cursor goes behind their first word
pub next_word : (column : ℕ) (cs from word rest : List ℕ) (blanks n : ℕ)
    → blanks ≡ prefix_len is_blank cs → from ≡ drop blanks cs → n ≡ position_or_len is_blank from
    → word ≡ take n from → rest ≡ drop n from → length word ≡ n
    → pieces_from column cs ≡ word_before (column + blanks) word (pieces_from (column + blanks + length word) rest)
next_word column cs from word rest blanks n b f w front back l =
    first_word column cs
    ∙ sym (rw (l, back, front, w, f, b) refl)

-- blanks alone have no word
pub no_word : (column : ℕ) (cs : List ℕ) → IsAllBlank cs → pieces_from column cs ≡ []
no_word column cs e =
    first_word column cs
    ∙ ap (λ n. word_behind column n cs) e
    ∙ ap (λ ds. front_word (column + length cs) (position_or_len is_blank ds) ds) (drop-length cs)

-- the word behind the blanks at the front, by its first byte and those behind it
pub some_word : (column first n : ℕ) (cs behind word rest : List ℕ) (blanks : ℕ) → IsFirstVisible cs blanks first
    → behind ≡ drop (blanks + 1) cs → n ≡ position_or_len is_blank behind → word ≡ take n behind → rest ≡ drop n behind → length word ≡ n
    → pieces_from column cs ≡ record { column = column + blanks; bytes = first ∷ word } ∷ pieces_from (column + blanks + 1 + n) rest
some_word column first n cs behind word rest blanks f b e front back l =
    next_word column cs (first ∷ behind) (first ∷ word) rest blanks (suc n) f.count (ap (λ ds. first ∷ ds) b ∙ sym f.from)
    (let k : position_or_len is_blank (first ∷ behind) ≡ suc (position_or_len is_blank behind) = rw (f.visible) (omega arith) in ap suc e ∙ sym k)
    (ap (λ ds. first ∷ ds) front) back (ap suc l)
    ∙ ap (λ k. record { column = column + blanks; bytes = first ∷ word } ∷ pieces_from k rest) (let k : column + blanks + suc (length word) ≡ column + blanks + 1 + n = omega (arith, l) in k)

-- the first word stands behind the blanks at the front
pub some_left : (column first : ℕ) (cs : List ℕ) (blanks : ℕ) → IsFirstVisible cs blanks first
    → none_left (pieces_from column cs) ≡ Err (record { column = column + blanks })
some_left column first cs blanks f =
    let behind = drop (blanks + 1) cs in
    let longer : position_or_len is_blank (first ∷ behind) ≡ suc (position_or_len is_blank behind) = rw (f.visible) (omega arith) in
    ap none_left (first_word column cs)
    ∙ ap (λ n. none_left (word_behind column n cs)) (sym f.count)
    ∙ ap (λ ds. none_left (front_word (column + blanks) (position_or_len is_blank ds) ds)) f.from
    ∙ ap (λ n. none_left (front_word (column + blanks) n (first ∷ behind))) longer
