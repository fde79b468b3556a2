-- What callers see of a search for lists.
use Rattle.std.specs.Prelude.{ℕ, List}
use Rattle.km_why.specs.declared.search.Member.{Member}

-- for how many words there is room, and the list that was found last
pub record Found : Type 0 where
  pub capacity : ℕ
  pub members : List Member
