-- Two lists, element by element.
use Rattle.std.proofs.Common.{◌≡◌, ℕ, suc, ◌<◌, List, [], ◌∷◌, length, get_or, arith}
use Rattle.std.specs.List.{AllZip}

-- what holds at each place holds of all pairs
pub zip_all : {X : Type 0} (R : X → X → Type 0) (xs ys : List X) → length ys ≡ length xs → ((i : ℕ) (d : X) → i < length xs → R (get_or xs i d) (get_or ys i d)) → AllZip R xs ys
zip_all R [] [] same each = tt
zip_all R [] (y ∷ ys) same each = absurd (omega (arith, same))
zip_all R (x ∷ xs) [] same each = absurd (omega (arith, same))
zip_all R (x ∷ xs) (y ∷ ys) same each = (each 0 x (omega arith), zip_all R xs ys (omega (arith, same)) (λ i d lt. each (suc i) d (omega (arith, lt))))
