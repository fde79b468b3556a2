use Rattle.std.proofs.Common.{◌≡◌, ℕ, ◌+◌, ◌<◌, Bool, true, false, List, length, drop, get_or, find, cond, Some, unwrap_or, sym, ap, ◌∙◌}
use Rattle.std.proofs.lemmas.List.{at_drop_more}

-- a search through a list
finds : (p : ℕ → Bool) (xs : List ℕ) (i : ℕ) → i < length xs → find p (drop i xs) ≡ find p xs → cond (p (get_or xs i 0)) (Some (get_or xs i 0)) (find p (drop (i + 1) xs)) ≡ find p xs
finds p xs i lt e = sym (at_drop_more (find p) xs i 0 lt) ∙ e

-- it ends at the first that passes, and goes on behind one that doesn't
pub found : (p : ℕ → Bool) (xs : List ℕ) (i d : ℕ) → i < length xs → find p (drop i xs) ≡ find p xs → p (get_or xs i 0) ≡ true → get_or xs i 0 ≡ unwrap_or (find p xs) d
found p xs i d lt e here =
    ap (λ o. unwrap_or o d) (ap (λ b. cond b (Some (get_or xs i 0)) (find p (drop (i + 1) xs))) (sym here) ∙ finds p xs i lt e)

pub passed : (p : ℕ → Bool) (xs : List ℕ) (i : ℕ) → i < length xs → find p (drop i xs) ≡ find p xs → p (get_or xs i 0) ≡ false → find p (drop (i + 1) xs) ≡ find p xs
passed p xs i lt e here = ap (λ b. cond b (Some (get_or xs i 0)) (find p (drop (i + 1) xs))) (sym here) ∙ finds p xs i lt e
