-- What was loaded for a chunk: words and their values, in order.
use Rattle.std.specs.Prelude.{ℕ, ◌==◌, List, [], ◌∷◌, map, if◌then◌else◌}
use Rattle.km_base.specs.declared.spans.Addr.{Addr}
use Rattle.km_model.specs.Memory.{all_words}
use Rattle.km_words.specs.Told.{WordStep, LoadStep}
use Rattle.km_chunks.specs.declared.load.Load.{Load}

-- the words
abbrev pub words_of : List Load → List Addr
words_of loads = map (λ (l : Load). l.word) loads

-- the load steps that bring them
abbrev pub steps_of : List Load → List WordStep
steps_of loads = map (λ (l : Load). LoadStep l.word.0 l.value) loads

-- the first value that was loaded for a word, or 0 where none was
abbrev pub value_in : List Load → ℕ → ℕ
value_in [] a = 0
value_in (l ∷ loads) a = if l.word.0 == a then l.value else value_in loads a

-- the same for each word of a memory
abbrev pub given_in : ℕ → List Load → List ℕ
given_in words loads = map (value_in loads) (all_words words)
