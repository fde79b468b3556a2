use Rattle.std.proofs.Common.{◌≡◌, ℕ, ◌+◌, ◌<◌, ◌≤◌, Bool, true, false, cond, List, [], ◌∷◌, length, drop, position, Option, Some, None, Result, Ok, Err, refl, ap, sym, ◌∙◌, if◌then◌else◌}
use Rattle.std.specs.List.{position_from}
use Rattle.std.proofs.lemmas.Bool.{lt-ltb, le-ltb}
use Rattle.std.proofs.lemmas.Iterator.Adapters.{position_from-zero}
use Rattle.km_base.specs.declared.lines.Line.{Line}
use Rattle.km_base.specs.declared.lines.Line.TheVariants as line
use Rattle.km_base.specs.declared.lines.NotACommand.{NotACommand}
use Rattle.km_model.specs.Pieces.{Piece, pieces}
use Rattle.km_model.specs.Grammar.{line_by, line_of, rules, is_comment, command_line, words_read, is_foreign}
use Rattle.km_script.specs.Left.{Left, behind_word, first_piece}

-- a line without bytes is blank
pub no_bytes : (first : Bool) → line_of first [] ≡ Ok line.Blank
unfolding line_by
no_bytes first = refl

-- a line that is longer than a line may be
pub too_long : (first : Bool) (bytes : List ℕ) → 256 < length bytes → line_of first bytes ≡ Err (record { column = 257 })
unfolding line_by
too_long first bytes h = rw (lt-ltb 256 (length bytes) h) refl

-- a line's reading, unless it has a byte that no command has, at a place or at a column
abbrev unless_at : Option ℕ → Result Line NotACommand → Result Line NotACommand
unless_at o r = elim o [ Some i ↦ Err (record { column = i + 1 }) | None ↦ r ]

abbrev pub unless_foreign : Option ℕ → Result Line NotACommand → Result Line NotACommand
unless_foreign o r = elim o [ Some column ↦ Err (record { column = column }) | None ↦ r ]

one_on : (i : ℕ) (bytes : List ℕ) (r : Result Line NotACommand) → unless_at (position_from is_foreign i bytes) r ≡ unless_foreign (position_from is_foreign (i + 1) bytes) r
one_on i [] r = refl
one_on i (c ∷ cs) r =
    elim (is_foreign c) as (λ b. unless_at (cond b (Some i) (position_from is_foreign (i + 1) cs)) r ≡ unless_foreign (cond b (Some (i + 1)) (position_from is_foreign (i + 1 + 1) cs)) r) [
      | true ↦ refl
      | false ↦ one_on (i + 1) cs r
    ]

at_column : (bytes : List ℕ) (r : Result Line NotACommand) → unless_at (position is_foreign bytes) r ≡ unless_foreign (position_from is_foreign 1 bytes) r
at_column bytes r = ap (λ o. unless_at o r) (position_from-zero is_foreign bytes) ∙ one_on 0 bytes r

abbrev by_pieces : Bool → List ℕ → List Piece → Result Line NotACommand
by_pieces first bytes [] = Ok line.Blank
by_pieces first bytes (p ∷ ps) =
    if is_comment (p ∷ ps) then Ok line.Blank
    else unless_at (position is_foreign bytes) (words_read rules first (length bytes + 1) (p ∷ ps))

no_words_or_some : (first : Bool) (bytes : List ℕ) (ps : List Piece) → pieces bytes ≡ ps
    → (if is_comment ps then Ok line.Blank else (elim ps [ [] ↦ Ok line.Blank | _ ∷ _ ↦ command_line rules first bytes ])) ≡ by_pieces first bytes ps
no_words_or_some first bytes [] e = refl
no_words_or_some first bytes (p ∷ ps) e =
    ap (λ qs. if is_comment (p ∷ ps) then Ok line.Blank else unless_at (position is_foreign bytes) (words_read rules first (length bytes + 1) qs)) e

-- a line that isn't too long
line_of_pieces : (first : Bool) (bytes : List ℕ) → length bytes ≤ 256 → line_of first bytes ≡ by_pieces first bytes (pieces bytes)
unfolding line_by
line_of_pieces first bytes h = rw (le-ltb 256 (length bytes) h) (no_words_or_some first bytes (pieces bytes) refl)

by_first_word : (first : Bool) (bytes : List ℕ) (ps : List Piece) (p : Piece) → Some p ≡ first_piece ps
    → by_pieces first bytes ps
    ≡ (if is_comment (p ∷ []) then Ok line.Blank else unless_foreign (position_from is_foreign 1 bytes) (words_read rules first (length bytes + 1) (p ∷ drop 1 ps)))
by_first_word first bytes [] p e = absurd (cc)
by_first_word first bytes (q ∷ qs) p e =
    let h : q ≡ p = cc in
    ap (λ r. if is_comment (r ∷ []) then Ok line.Blank else unless_at (position is_foreign bytes) (words_read rules first (length bytes + 1) (r ∷ qs))) h
    ∙ ap (λ r. if is_comment (p ∷ []) then Ok line.Blank else r) (at_column bytes (words_read rules first (length bytes + 1) (p ∷ qs)))

-- what is read of a line by the words that a cursor gives
pub record IsCut (bytes : List ℕ) (left : Left) (p : Piece) : Type 0 where
  pub short : length bytes ≤ 256
  pub all : left.pieces ≡ pieces bytes
  pub word : Some p ≡ first_piece left.pieces

-- a line without words
pub no_words : (first : Bool) (bytes : List ℕ) (left : Left) → length bytes ≤ 256 → left.pieces ≡ pieces bytes → None ≡ first_piece left.pieces
    → Ok line.Blank ≡ line_of first bytes
no_words first bytes left h e n =
    sym (line_of_pieces first bytes h ∙ ap (by_pieces first bytes) (sym e) ∙ is_blank_line left.pieces n)
  where
    is_blank_line : (ps : List Piece) → None ≡ first_piece ps → by_pieces first bytes ps ≡ Ok line.Blank
    is_blank_line [] n = refl
    is_blank_line (q ∷ qs) n = absurd (cc)

-- a line with words
by_word : (first : Bool) (bytes : List ℕ) (left : Left) (p : Piece) → IsCut bytes left p
    → line_of first bytes
    ≡ (if is_comment (p ∷ []) then Ok line.Blank else unless_foreign (position_from is_foreign 1 bytes) (words_read rules first (length bytes + 1) (p ∷ drop 1 left.pieces)))
by_word first bytes left p h =
    line_of_pieces first bytes h.short ∙ ap (by_pieces first bytes) (sym h.all) ∙ by_first_word first bytes left.pieces p h.word

-- a comment
pub comment : (first : Bool) (bytes : List ℕ) (left : Left) (p : Piece) → IsCut bytes left p → is_comment (p ∷ []) ≡ true → Ok line.Blank ≡ line_of first bytes
comment first bytes left p h c = sym (by_word first bytes left p h ∙ rw c refl)

-- a line that is no comment, by what the words behind its first are read as
pub words_behind : (first : Bool) (bytes : List ℕ) (left behind : Left) (p : Piece) (r : Result Line NotACommand) (o : Option ℕ) → IsCut bytes left p
    → is_comment (p ∷ []) ≡ false → left.end ≡ length bytes + 1 → left.foreign ≡ position_from is_foreign 1 bytes → behind ≡ behind_word left
    → r ≡ words_read rules first behind.end (p ∷ behind.pieces) → o ≡ behind.foreign → unless_foreign o r ≡ line_of first bytes
words_behind first bytes left behind p r o h c end f b e k =
    ap (λ o. unless_foreign o r) (k ∙ ap (λ (l : Left). l.foreign) b ∙ f)
    ∙ ap (unless_foreign (position_from is_foreign 1 bytes)) (
    e
    ∙ ap (λ (l : Left). words_read rules first l.end (p ∷ l.pieces)) b
    ∙ ap (λ n. words_read rules first n (p ∷ drop 1 left.pieces)) end)
    ∙ sym (by_word first bytes left p h
    ∙ ap (λ b. if b then Ok line.Blank else unless_foreign (position_from is_foreign 1 bytes) (words_read rules first (length bytes + 1) (p ∷ drop 1 left.pieces))) c)
