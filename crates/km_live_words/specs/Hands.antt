-- What contracts see of shared words and of a hand.
use Rattle.std.specs.Prelude.{◌≡◌, ℕ, List, ◌∷◌, length, Some, None}
use Rattle.atomic_table.specs.Seated.{TableId}
use Rattle.km_numbered.specs.Members.{Member, KnowsAll}
use Rattle.km_rounds.specs.Orders.{Order, IsLegal, steps_by, words_after}
use Rattle.km_words.specs.Told.{Told, WordStep}

-- shared words: which table, and the words that it was opened with
pub record Opened : Type 0 where
  pub table : TableId
  pub words : List ℕ

-- a hand: of which table, and what it knows
pub record HandOf : Type 0 where
  pub table : TableId
  pub hand : Member WordStep

-- shared words with a hand on them
pub record HandOn : Type 0 where
  pub words : Opened
  pub hand : HandOf

-- a table, as numbers
abbrev pub name_of : TableId → List ℕ
name_of t = t.words ∷ (t.slots ∷ (t.views_name ∷ (t.atom ∷ (t.block ∷ (t.offset ∷ t.slot_names)))))

-- the number of a hand and its table, as numbers
abbrev pub place_of : HandOf → List ℕ
place_of h = h.hand.number ∷ name_of h.table

-- what shared words tell of a hand: its steps, and neither a memory nor given values
abbrev pub told_of : HandOn → Told
told_of s = record { size = length s.words.words; place = place_of s.hand; memory = None; given = None; steps = Some s.hand.hand.own }

-- these words are left where the first hand took in all others: there is one order of all steps
pub record LeftBy (opening : List ℕ) (main : Member WordStep) (words : List ℕ) : Type 0 where
  pub order : Order
  pub legal : IsLegal opening order
  pub parts : KnowsAll main (steps_by order)  -- each hand's part is its list, and there are no others
  pub leaves : words ≡ words_after opening order
