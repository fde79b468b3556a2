-- When a thread may take the book.
use Rattle.std.specs.Prelude.{◌≡◌, ℕ, false}
use Rattle.atomic_table.specs.Seated.{TableId}
use Rattle.km_live_map.specs.Views.{TokenOf}

-- a token of this baton and number that doesn't hold the book
pub record IsReady (table : TableId) (n : ℕ) (t : TokenOf) : Type 0 where
  pub baton : t.baton ≡ table
  pub holding : t.view.holding ≡ false
  pub number : t.view.member.number ≡ n
