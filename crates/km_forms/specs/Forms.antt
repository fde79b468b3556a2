-- What the words after the program's name ask for. Where they are of no form, an `Err` has the place of the first that doesn't fit or is missing.
use Rattle.std.specs.Prelude.{ℕ, suc, ◌+◌, ◌≤◌, Bool, true, false, ◌&&◌, is_some, List, [], ◌∷◌, max, slice_index_or, Option, Some, None, Result, Ok, Err, bytes_eq, codes, if◌then◌else◌}
use Rattle.km_model.specs.Grammar.{number, number_within}
use Rattle.km_forms.specs.declared.words.Form.{Form}
use Rattle.km_forms.specs.declared.words.Form.TheVariants.{Run, Check, Bench}

-- what a word has to be: a name, a number, or a number up to another
abbrev pub is_named : List ℕ → List ℕ → Bool
is_named name word = bytes_eq word name

abbrev pub is_number : List ℕ → Bool
is_number word = is_some (number word)

abbrev pub is_number_to : ℕ → List ℕ → Bool
is_number_to most word = is_some (number_within 0 most word)

-- the three forms, each by what its words have to be: a run has none
abbrev pub run_form : List (List ℕ → Bool)
run_form = []

abbrev pub check_form : List (List ℕ → Bool)
check_form = is_named (codes "check") ∷ []

abbrev pub bench_form : List (List ℕ → Bool)
bench_form = is_named (codes "bench") ∷ is_number ∷ is_number_to 1000000 ∷ []

-- how many of the words are as a form has them, from the first on
abbrev pub fitting : List (List ℕ → Bool) → List (List ℕ) → ℕ
fitting [] words = 0
fitting (has ∷ form) [] = 0
fitting (has ∷ form) (word ∷ words) = if has word then suc (fitting form words) else 0

-- whether the words are all those of a form, and no others
abbrev pub is_form : List (List ℕ → Bool) → List (List ℕ) → Bool
is_form [] [] = true
is_form [] (_ ∷ _) = false
is_form (_ ∷ _) [] = false
is_form (has ∷ form) (word ∷ words) = has word && is_form form words

-- a number that is there
abbrev pub value : Option ℕ → ℕ
value None = 0
value (Some n) = n

-- what the words of a bench name: its script, and how many steps
abbrev pub named_bench : List (List ℕ) → Form
named_bench words = Bench (value (number (slice_index_or words 1 []))) (value (number_within 0 1000000 (slice_index_or words 2 [])))

-- all words
abbrev pub form_of_words : List (List ℕ) → Result Form ℕ
form_of_words words =
    if is_form run_form words then Ok Run
    else (if is_form check_form words then Ok Check
    else (if is_form bench_form words then Ok (named_bench words)
    else Err (1 + max (fitting check_form words) (fitting bench_form words))))

-- a bench has no more steps than a generated script may have
abbrev pub HasFewSteps : Form → Type 0
HasFewSteps (Bench number steps) = steps ≤ 1000000
HasFewSteps _ = Unit {0}
