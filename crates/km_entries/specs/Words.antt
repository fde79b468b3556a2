-- The words of a line, parted by single spaces, and the numbers in them.
use Rattle.std.specs.Prelude.{ℕ, ◌+◌, ◌-◌, ◌*◌, Bool, false, ◌&&◌, nat_le, ◌==◌, List, [], ◌∷◌, ◌++◌, length, Option, Some, None, option_and_then, codes, if◌then◌else◌}
use Rattle.km_base.specs.Prefix.{behind_prefix}
use Rattle.km_model.specs.Grammar.{number}
use Rattle.km_model.specs.Output.{put_in_first}

-- words, each with a space before the next
abbrev pub spaced : List (List ℕ) → List ℕ
spaced [] = []
spaced (w ∷ []) = w
spaced (w ∷ v ∷ ws) = w ++ 32 ∷ spaced (v ∷ ws)

-- the pieces between spaces: one more than there are spaces
abbrev pub words_in : List ℕ → List (List ℕ)
words_in [] = [] ∷ []
words_in (c ∷ cs) = if c == 32 then [] ∷ words_in cs else put_in_first c (words_in cs)

-- whether a word begins with a zero and goes on
abbrev pub has_leading_zero : List ℕ → Bool
has_leading_zero [] = false
has_leading_zero (c ∷ []) = false
has_leading_zero (c ∷ _ ∷ _) = c == 48

-- a number within 64 bits: decimal digits without leading zeros
unfoldable pub plain_number : List ℕ → Option ℕ
plain_number word = if has_leading_zero word then None else number word

-- a digit from `0` to `9` or from `a` to `f`
abbrev pub low_digit : ℕ → Option ℕ
low_digit c =
    if nat_le 48 c && nat_le c 57 then Some (c - 48)
    else (if nat_le 97 c && nat_le c 102 then Some (c - 87) else None)

-- the number that these digits spell after those that spell `so_far`, if all are digits
abbrev pub low_spelled : ℕ → List ℕ → Option ℕ
low_spelled so_far [] = Some so_far
low_spelled so_far (c ∷ cs) = option_and_then (λ d. low_spelled (16 * so_far + d) cs) (low_digit c)

-- sixteen such digits
abbrev pub sixteen_digits : List ℕ → Option ℕ
sixteen_digits digits = if length digits == 16 then low_spelled 0 digits else None

-- an address, or any word of 64 bits: `0x` and sixteen digits
unfoldable pub plain_address : List ℕ → Option ℕ
plain_address word = option_and_then sixteen_digits (behind_prefix (codes "0x") word)
