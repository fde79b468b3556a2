-- The rule of the words.
use Rattle.std.specs.Prelude.{◌≡◌, ℕ, ◌+◌, ◌*◌, ◌-◌, List, [], ◌∷◌}
use Rattle.atomic_table.specs.Table.{State, Me, Step}
use Rattle.km_model.specs.Memory.{base}
use Rattle.km_numbered.specs.Members.{Member, Numbered, with_more}
use Rattle.km_words.specs.Told.{WordStep, LoadStep, StoreStep}
use Rattle.km_rounds.specs.Orders.{OrderStep, IsLegal, words_after, steps_by}

-- What holds between any two steps. There is one order, legal from the opening words, that leaves the present words; its
-- parts are those of the hands, and it has no others. The first word of the table is no word of the memory
pub record Ordered {S : Type 0} (opening : List ℕ) (s : State S (Member WordStep)) : Type 0 where
  pub order : List OrderStep
  pub legal : IsLegal opening order
  pub words : s.words ≡ 0 ∷ words_after opening order
  pub hands : Numbered (steps_by order) s.views

-- the address of a word of the table
abbrev pub address_of : ℕ → ℕ
address_of word = base + 8 * (word - 1)

-- what a load and a store tell: the step joined the hand's steps
abbrev pub Loaded : {S : Type 0} → Step S → Me S (Member WordStep) → ℕ → Me S (Member WordStep) → Type 0
Loaded s me found after = after ≡ (with_more me.0 (LoadStep (address_of s.word) found ∷ []), me.1)

abbrev pub Stored : {S : Type 0} → Step S → Me S (Member WordStep) → ℕ → Me S (Member WordStep) → Type 0
Stored s me put after = after ≡ (with_more me.0 (StoreStep (address_of s.word) put ∷ []), me.1)
