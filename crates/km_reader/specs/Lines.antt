-- The lines of an input, as far as it is read.
use Rattle.std.specs.Prelude.{◌≡◌, ℕ, ◌<◌, Bool, false, List, ◌++◌, length, Option, Some, None, []}
use Rattle.km_base.specs.declared.sizes.TheConstants.{LONGEST_LINE}
use Rattle.km_model.specs.Output.{is_unread, lines_in}

-- the lines that are known to be lines whatever comes after these bytes: the whole ones, and one that is too long
abbrev pub whole_lines : List ℕ → List (List ℕ)
whole_lines bytes = lines_in is_unread bytes

-- a test that drops no line that is too long
abbrev pub KeepsLong : (List ℕ → Bool) → Type 0
KeepsLong dropped = (l : List ℕ) → LONGEST_LINE < length l → dropped l ≡ false

-- a list begins with these
abbrev pub IsPrefix : List ℕ → List ℕ → Type 0
IsPrefix prefix whole = (rest : List ℕ) × (whole ≡ prefix ++ rest)

-- these bytes are left, if that is told; if not, let there be none
abbrev pub IsLeft : Option (List ℕ) → List ℕ → Type 0
IsLeft None remaining = remaining ≡ []
IsLeft (Some bytes) remaining = remaining ≡ bytes
