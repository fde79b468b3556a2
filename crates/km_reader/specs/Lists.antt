-- The lines that a reader gave so far.
use Rattle.std.specs.Prelude.{◌≡◌, ℕ, ◌+◌, ◌-◌, ◌≤◌, Bool, List, ◌++◌, length}
use Rattle.std.specs.Io.KnownBytes.{Consumes}
use Rattle.km_edge.specs.Streams.{SourceState}
use Rattle.km_model.specs.Output.{lines_in}

-- these lines were given, whatever comes after what was taken, and these bytes are held
pub record Gave (s0 s : SourceState) (held : List ℕ) (total limit : ℕ) (lines : List (List ℕ)) : Type 0 where
  pub prefix : List ℕ
  pub over : List ℕ
  pub took : Consumes s0.left s.left ((prefix ++ held) ++ over)
  pub cut : (dropped : List ℕ → Bool) (rest : List ℕ) → lines_in dropped (prefix ++ rest) ≡ lines ++ lines_in dropped rest
  pub size : total ≡ length prefix + length held + length over
  pub beyond : length over ≡ total - limit
  pub few : length lines ≤ length prefix
