-- The words of a line, from its front.
use Rattle.std.proofs.Common.{◌≡◌, ℕ, suc, ◌+◌, ◌==◌, Bool, true, false, not, List, [], ◌∷◌, take, drop, if◌then◌else◌, refl, ap, sym, ◌∙◌, arith, inl, inr, ◌<◌, length, slice_index_or, Some, None}
use Rattle.std.proofs.lemmas.List.{drop_more}
use Rattle.std.specs.List.{position_or_len}
use Rattle.std.proofs.lemmas.Bool.{cases_Bool}
use Rattle.km_model.specs.Output.{put_in_first}
use Rattle.km_entries.specs.Words.{words_in}
use Rattle.km_journal_lines.specs.Words.{first_word, is_nil, words_after, words_if}

some_first : (c : ℕ) (ws : List (List ℕ)) → is_nil (put_in_first c ws) ≡ false
some_first c [] = refl
some_first c (w ∷ ws) = refl

-- a line has a word, if an empty one
pub some_word : (bytes : List ℕ) → is_nil (words_in bytes) ≡ false
some_word [] = refl
some_word (c ∷ cs) =
    elim (c == 32) as (λ b. is_nil (if b then [] ∷ words_in cs else put_in_first c (words_in cs)) ≡ false) [
      | true ↦ refl
      | false ↦ some_first c (words_in cs)
    ]

pub none_if : (more : Bool) (rest : List ℕ) → not more ≡ is_nil (words_if more rest)
none_if true rest = sym (some_word rest)
none_if false rest = refl

-- the length of the first word
abbrev pub first_length : List ℕ → ℕ
first_length bytes = position_or_len (λ c. c == 32) bytes

-- the first word, and those after it
abbrev pub split : ℕ → List ℕ → List (List ℕ)
split n bytes = take n bytes ∷ words_after (drop n bytes)

one_more : (c : ℕ) (cs : List ℕ) (n : ℕ) → n ≡ suc (first_length cs) → words_in cs ≡ split (first_length cs) cs → put_in_first c (words_in cs) ≡ split n (c ∷ cs)
one_more c cs n e ih = ap (put_in_first c) ih ∙ sym (ap (λ k. split k (c ∷ cs)) e)

pub first_split : (bytes : List ℕ) → words_in bytes ≡ split (first_length bytes) bytes
first_split [] = refl
first_split (c ∷ cs) =
    elim (cases_Bool (c == 32)) [
      | inl space ↦
          let n : first_length (c ∷ cs) ≡ 0 = rw space refl in
          let w : words_in (c ∷ cs) ≡ [] ∷ words_in cs = rw space refl in
          w ∙ sym (ap (λ k. split k (c ∷ cs)) n)
      | inr other ↦
          let n : first_length (c ∷ cs) ≡ suc (first_length cs) = rw other (omega arith) in
          let w : words_in (c ∷ cs) ≡ put_in_first c (words_in cs) = rw other refl in
          w ∙ one_more c cs (first_length (c ∷ cs)) n (first_split cs)
    ]

-- the word goes on
pub goes_on_at : (i : ℕ) (bytes : List ℕ) → i < length bytes → (slice_index_or bytes i 0 == 32) ≡ false
    → first_length bytes ≡ i + first_length (drop i bytes) → first_length bytes ≡ i + 1 + first_length (drop (i + 1) bytes)
goes_on_at i bytes l n e =
    let x = slice_index_or bytes i 0 in
    let k : first_length (x ∷ drop (i + 1) bytes) ≡ suc (first_length (drop (i + 1) bytes)) = rw n (omega arith) in
    e ∙ ap (λ ds. i + first_length ds) (drop_more bytes i 0 l) ∙ (omega (arith, k))

-- the first word and those after it
pub taken : (ws : List (List ℕ)) (w : List ℕ) (rest : List (List ℕ)) → Some w ≡ first_word ws → rest ≡ drop 1 ws → ws ≡ w ∷ rest
taken [] w rest e d = absurd (cc)
taken (v ∷ ws) w rest e d = let same : v ≡ w = cc in ap (λ x. x ∷ ws) same ∙ ap (λ xs. w ∷ xs) (sym d)

pub untaken : (ws : List (List ℕ)) → None ≡ first_word ws → ws ≡ []
untaken [] e = refl
untaken (v ∷ ws) e = absurd (cc)

pub next_word : (more : Bool) (rest : List ℕ) (self : List (List ℕ)) (n : ℕ) (word after : List ℕ) → more ≡ true → words_if more rest ≡ self
    → n ≡ first_length rest → word ≡ take n rest → after ≡ drop n rest → self ≡ word ∷ words_after after
next_word true rest self n word after m v l w b =
    sym v ∙ first_split rest ∙ ap (λ k. split k rest) (sym l) ∙ ap (λ x. x ∷ words_after (drop n rest)) (sym w) ∙ ap (λ x. word ∷ words_after x) (sym b)
next_word false rest self n word after m v l w b = absurd (cc)
