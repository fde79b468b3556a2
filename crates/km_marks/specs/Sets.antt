use Rattle.std.specs.Prelude.{ℕ, ◌+◌, ◌/◌, ◌%◌, ◌^◌, ◌==◌, Bool, List, slice_index, slice_set}
use Rattle.std.specs.Int.{bit_at}

-- whether a number is in the set whose bits these words hold
abbrev pub has : List ℕ → ℕ → Bool
has words i = bit_at (slice_index words (i / 64)) (i % 64) == 1

-- the words after a number came in that wasn't in the set
abbrev pub with_mark : List ℕ → ℕ → List ℕ
with_mark words i = slice_set words (i / 64) (slice_index words (i / 64) + 2 ^ (i % 64))
