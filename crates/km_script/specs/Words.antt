use Rattle.std.specs.Prelude.{◌≡◌, ℕ, ◌+◌, ◌<◌, false, List, ◌∷◌, length, drop}
use Rattle.std.specs.List.{prefix_len}
use Rattle.km_model.specs.Pieces.{Piece, is_blank}
use Rattle.km_script.specs.declared.word.Word.{Word}

-- the bytes of a word
abbrev pub bytes_of_word : Word → List ℕ
bytes_of_word w = w.first ∷ w.rest.now

-- a word as a piece of its line
abbrev pub piece_of : Word → Piece
piece_of w = record { column = w.column; bytes = bytes_of_word w }

-- bytes that are all blank
abbrev pub IsAllBlank : List ℕ → Type 0
IsAllBlank bytes = prefix_len is_blank bytes ≡ length bytes

-- the first byte that is no blank, behind a number of blanks
pub record IsFirstVisible (bytes : List ℕ) (blanks first : ℕ) : Type 0 where
  pub count : blanks ≡ prefix_len is_blank bytes
  pub within : blanks < length bytes
  pub from : drop blanks bytes ≡ first ∷ drop (blanks + 1) bytes
  pub visible : is_blank first ≡ false
