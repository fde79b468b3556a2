use Rattle.std.specs.Prelude.{ℕ, List, [], ◌∷◌, drop, Option, Some, None, option_map, Result, Ok, Err}
use Rattle.km_base.specs.declared.lines.NotACommand.{NotACommand}
use Rattle.km_base.specs.declared.lines.RegName.{RegName}
use Rattle.km_model.specs.Grammar.{register_of}
use Rattle.km_model.specs.Pieces.{Piece}

-- what is left of a line: its words, the column behind the line, and the column of the line's first byte that no command has
pub record Left : Type 0 where
  pub end : ℕ
  pub pieces : List Piece
  pub foreign : Option ℕ

-- the first word is taken
abbrev pub behind_word : Left → Left
behind_word l = record l { pieces = drop 1 l.pieces }

-- the first word, if there is one
abbrev pub first_piece : List Piece → Option Piece
first_piece [] = None
first_piece (p ∷ _) = Some p

-- the first word, or the column where it is missing
abbrev pub first_or_end : Left → Result Piece NotACommand
first_or_end l = elim l.pieces [ [] ↦ Err (record { column = l.end }) | p ∷ _ ↦ Ok p ]

-- a function of an `Ok`
abbrev pub map_ok : {A B : Type 0} → (A → B) → Result A NotACommand → Result B NotACommand
map_ok f (Ok a) = Ok (f a)
map_ok f (Err e) = Err e

-- what a word says, or its column
abbrev pub said : {A : Type 0} → ℕ → Option A → Result A NotACommand
said column None = Err (record { column = column })
said column (Some a) = Ok a

-- what the first word of these says, or the column where it is missing or wrong
abbrev pub first_said : {A : Type 0} → (List ℕ → Option A) → ℕ → List Piece → Result A NotACommand
first_said read end [] = Err (record { column = end })
first_said read end (p ∷ _) = said p.column (read p.bytes)

-- the same of what is left of a line
abbrev pub word_said : {A : Type 0} → (List ℕ → Option A) → Left → Result A NotACommand
word_said read l = first_said read l.end l.pieces

-- no word is left
abbrev pub none_left : List Piece → Result (Unit {0}) NotACommand
none_left [] = Ok tt
none_left (p ∷ _) = Err (record { column = p.column })

-- what is said, if no word is left
abbrev pub if_none_left : {A : Type 0} → Result A NotACommand → List Piece → Result A NotACommand
if_none_left (Err e) ps = Err e
if_none_left (Ok a) [] = Ok a
if_none_left (Ok a) (p ∷ _) = Err (record { column = p.column })

-- what the only word of a line says that is left of it
abbrev pub only_said : {A : Type 0} → (List ℕ → Option A) → Left → Result A NotACommand
only_said read l = if_none_left (word_said read l) (drop 1 l.pieces)

-- a register or nothing
abbrev pub register_or_none : List Piece → Result (Option RegName) NotACommand
register_or_none [] = Ok None
register_or_none (p ∷ ps) = if_none_left (said p.column (option_map Some (register_of p.bytes))) ps
