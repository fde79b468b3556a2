use Rattle.std.specs.Prelude.{ℕ, List}
use Rattle.km_map.specs.declared.entries.Entry.{Entry}

-- what a map is seen as: its entries, rising, and how many more it can take
pub record Sorted : Type 0 where
  pub entries : List Entry
  pub room : ℕ
