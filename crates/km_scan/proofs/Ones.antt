use Rattle.std.proofs.Common.{◌≡◌, ℕ, ◌+◌, ◌<◌, Bool, true, false, cond, List, [], ◌∷◌, map, Some, if◌then◌else◌, refl, sym, ap, ◌∙◌, subst, arith}
use Rattle.std.specs.Prelude.{find}
use Rattle.km_record.specs.declared.kinds.RecId.{RecId}
use Rattle.km_track.specs.Tracker.{AreRising, Live, is_id}
use Rattle.km_track.proofs.Lives.{found_above, found_its, is_its}

-- changes of one live block

not_it : (id : RecId) (x : Live) → (x.tracked.block.id ≡ id.generation → ⊥) → is_id id x ≡ false
not_it id x ne = elim (is_id id x) as (λ b. is_id id x ≡ b → b ≡ false) [ true ↦ λ e. absurd (ne (is_its id x e).1) | false ↦ λ e. refl ] refl

-- behind all that are changed
map_none : (id : RecId) (f g : Live → Live) (low high : ℕ) (ls : List Live) → AreRising low ls high → id.generation < low → ((x : Live) → (x.tracked.block.id ≡ id.generation → ⊥) → f x ≡ x)
    → map f ls ≡ map (λ (x : Live). if is_id id x then g x else x) ls
map_none id f g low high [] r lt same = refl
map_none id f g low high (x ∷ ls) r lt same =
    let above = r.0 in
    let ne : x.tracked.block.id ≡ id.generation → ⊥ = λ e. omega (arith, above, lt, e) in
    rw (not_it id x ne) (ap (λ y. y ∷ map f ls) (same x ne) ∙ ap (λ ys. x ∷ ys) (map_none id f g (x.tracked.block.id + 1) high ls r.1 (omega (arith, above, lt)) same))

-- what changes only blocks with a number changes the one with that id
pub map_one : (id : RecId) (f g : Live → Live) (low high : ℕ) (ls : List Live) (l : Live) → AreRising low ls high → find (is_id id) ls ≡ Some l → f l ≡ g l → ((x : Live) → (x.tracked.block.id ≡ id.generation → ⊥) → f x ≡ x)
    → map f ls ≡ map (λ (x : Live). if is_id id x then g x else x) ls
map_one id f g low high [] l r e one same = absurd (let z : ⊥ = cc in z)
map_one id f g low high (x ∷ ls) l r e one same =
    let Goal = λ (b : Bool). is_id id x ≡ b → cond b (Some x) (find (is_id id) ls) ≡ Some l → f x ∷ map f ls ≡ (if b then g x else x) ∷ map (λ (y : Live). if is_id id y then g y else y) ls in
    elim (is_id id x) as Goal [
      | true ↦ λ t h.
          let its = (is_its id x t).1 in
          let here : x ≡ l = cc in
          ap (λ y. y ∷ map f ls) (subst (λ (y : Live). f y ≡ g y) (sym here) one)
          ∙ ap (λ ys. g x ∷ ys) (map_none id f g (x.tracked.block.id + 1) high ls r.1 (omega (arith, its)) same)
      | false ↦ λ t h.
          let above = found_above id (x.tracked.block.id + 1) high ls l r.1 h in
          let its = (is_its id l (found_its id ls l h)).1 in
          ap (λ y. y ∷ map f ls) (same x (λ n. omega (arith, above, its, n))) ∙ ap (λ ys. x ∷ ys) (map_one id f g (x.tracked.block.id + 1) high ls l r.1 h one same)
    ] refl e

-- what leaves that one, too, leaves all
pub map_all : (id : RecId) (f : Live → Live) (low high : ℕ) (ls : List Live) (l : Live) → AreRising low ls high → find (is_id id) ls ≡ Some l → f l ≡ l → ((x : Live) → (x.tracked.block.id ≡ id.generation → ⊥) → f x ≡ x) → map f ls ≡ ls
map_all id f low high ls l r e one same = map_one id f (λ (x : Live). x) low high ls l r e one same ∙ none ls
  where
    none : (ls : List Live) → map (λ (x : Live). if is_id id x then x else x) ls ≡ ls
    none [] = refl
    none (x ∷ ls) = ap (λ y. y ∷ map (λ (z : Live). if is_id id z then z else z) ls) (elim (is_id id x) as (λ b. (if b then x else x) ≡ x) [ true ↦ refl | false ↦ refl ]) ∙ ap (λ ys. x ∷ ys) (none ls)
