-- Which steps on shared words serve which loads of a journal.
use Rattle.std.specs.Prelude.{◌≡◌, ℕ, List, [], ◌∷◌, ◌++◌}
use Rattle.km_model.specs.Members.{In}
use Rattle.km_rounds.specs.Orders.{Order, OrderStep}
use Rattle.km_words.specs.Told.{WordStep}

-- a step serves a load: the hand of a loader made it, and it loaded this word and found this value
pub record Serves (loaders : List ℕ) (s : OrderStep) (load : WordStep) : Type 0 where
  pub hand : In s.by loaders
  pub step : s.step ≡ load

-- each of these loads is served by a step of the order, and no step serves two; the steps that serve none are left
pub data ServedBy (loaders : List ℕ) : List WordStep → Order → Order → Type 0 where
  AllServed : (order : Order) → ServedBy loaders [] order order
  OneServed : (load : WordStep) (loads : List WordStep) (before after left : Order) (s : OrderStep)
      → Serves loaders s load → ServedBy loaders loads (before ++ after) left → ServedBy loaders (load ∷ loads) (before ++ s ∷ after) left
