-- What the words after the program's name ask for, word by word, as the code reads them.
use Rattle.std.specs.Prelude.{ℕ, List, [], ◌∷◌, Option, Some, None, Result, Ok, Err, bytes_eq, codes, if◌then◌else◌}
use Rattle.km_model.specs.Grammar.{number, number_within}
use Rattle.km_forms.specs.declared.words.Form.{Form}
use Rattle.km_forms.specs.declared.words.Form.TheVariants.{Run, Check, Bench}

-- no word stands after those of a form; the next would have this place
abbrev pub only_form : Form → ℕ → List (List ℕ) → Result Form ℕ
only_form form place [] = Ok form
only_form form place (_ ∷ _) = Err place

-- `bench` and a number, by the number of steps
abbrev pub stepped_form : ℕ → Option ℕ → List (List ℕ) → Result Form ℕ
stepped_form number None rest = Err 3
stepped_form number (Some steps) rest = only_form (Bench number steps) 4 rest

-- `bench` and a number, by the words after them
abbrev pub steps_form : ℕ → List (List ℕ) → Result Form ℕ
steps_form number [] = Err 3
steps_form number (word ∷ rest) = stepped_form number (number_within 0 1000000 word) rest

-- `bench`, by its number
abbrev pub numbered_form : Option ℕ → List (List ℕ) → Result Form ℕ
numbered_form None rest = Err 2
numbered_form (Some number) rest = steps_form number rest

-- `bench`, by the words after it
abbrev pub bench_form : List (List ℕ) → Result Form ℕ
bench_form [] = Err 2
bench_form (word ∷ rest) = numbered_form (number word) rest

-- some words, by the first
abbrev pub named_form : List ℕ → List (List ℕ) → Result Form ℕ
named_form word rest =
    if bytes_eq word (codes "check") then only_form Check 2 rest else (if bytes_eq word (codes "bench") then bench_form rest else Err 1)

-- all words
abbrev pub form_by_words : List (List ℕ) → Result Form ℕ
form_by_words [] = Ok Run
form_by_words (word ∷ rest) = named_form word rest
