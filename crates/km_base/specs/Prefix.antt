use Rattle.std.specs.Prelude.{ℕ, ◌==◌, List, [], ◌∷◌, Option, Some, None, if◌then◌else◌}
use Rattle.std.specs.Borrow.{Bor}

-- what is left of a word behind these bytes, if it begins with them
abbrev pub behind_prefix : List ℕ → List ℕ → Option (List ℕ)
behind_prefix [] word = Some word
behind_prefix (p ∷ ps) [] = None
behind_prefix (p ∷ ps) (c ∷ cs) = if p == c then behind_prefix ps cs else None

-- the bytes of a slice
abbrev pub bytes_of : Bor (List ℕ) → List ℕ
bytes_of b = b.now
