-- The steps of several hands on the same words.
use Rattle.std.specs.Prelude.{◌≡◌, ℕ, true, List, [], ◌∷◌, length, slice_set}
use Rattle.km_model.specs.Memory.{index_of, in_memory, word_at}
use Rattle.km_numbered.specs.Members.{part}
use Rattle.km_words.specs.Told.{WordStep, LoadStep, StoreStep}

-- a step, and the number of the hand that made it
pub record OrderStep : Type 0 where
  pub by : ℕ
  pub step : WordStep

-- the steps of all hands, one after another
abbrev pub Order : Type 0
Order = List OrderStep

-- the words after a step
abbrev pub words_after_step : List ℕ → WordStep → List ℕ
words_after_step ws (LoadStep a value) = ws
words_after_step ws (StoreStep a value) = slice_set ws (index_of a) value

-- the words that an order leaves
abbrev pub words_after : List ℕ → Order → List ℕ
words_after ws [] = ws
words_after ws (x ∷ xs) = words_after (words_after_step ws x.step) xs

-- a step is at a word, and a load finds what is there
abbrev pub IsLegalStep : List ℕ → WordStep → Type 0
IsLegalStep ws (LoadStep a value) = (in_memory (length ws) a ≡ true) × (value ≡ word_at ws a)
IsLegalStep ws (StoreStep a value) = in_memory (length ws) a ≡ true

-- each step is legal where it stands: each load finds what was last stored before it, or the opening word
abbrev pub IsLegal : List ℕ → Order → Type 0
IsLegal ws [] = Unit {0}
IsLegal ws (x ∷ xs) = IsLegalStep ws x.step × IsLegal (words_after_step ws x.step) xs

-- the part of a hand: its steps, in order
abbrev pub steps_by : Order → ℕ → List WordStep
steps_by order k = part (λ (x : OrderStep). x.by) (λ (x : OrderStep). x.step) k order
