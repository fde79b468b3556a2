-- What is read of the words of a line.
use Rattle.std.specs.Prelude.{◌≡◌, ℕ, List, [], ◌∷◌, Option, Some, None, MatchOption, if◌then◌else◌, Bool, true, false}
use Rattle.km_entries.specs.Reading.{Rest}
use Rattle.km_entries.specs.Words.{words_in}

-- the first of these words
abbrev pub first_word : List (List ℕ) → Option (List ℕ)
first_word [] = None
first_word (w ∷ _) = Some w

-- the words of what is left, unless none is
abbrev pub words_if : Bool → List ℕ → List (List ℕ)
words_if more rest = if more then words_in rest else []

-- what was read, and the words after it
abbrev pub Reads : {A : Type 0} → Option A → List (List ℕ) → Rest A → Type 0
Reads result after reading = MatchOption result (reading ≡ None) (λ a. reading ≡ Some (a, after))

-- whether there are no words
abbrev pub is_nil : List (List ℕ) → Bool
is_nil [] = true
is_nil (_ ∷ _) = false

-- the words after the space at the front, where one is there
abbrev pub words_after : List ℕ → List (List ℕ)
words_after [] = []
words_after (_ ∷ rest) = words_in rest
