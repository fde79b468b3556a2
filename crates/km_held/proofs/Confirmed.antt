-- Each member of a list may stand where it does.
use Rattle.std.proofs.Common.{append-nil, ◌≡◌, ℕ, zero, suc, ◌+◌, ◌<◌, ◌==◌, inl, inr, Bool, true, false, ◌&&◌, not, cond, List, [], ◌∷◌, ◌++◌, length, Option, Some, None, find, filter, refl, sym, ◌∙◌, ap, subst, arith, ne_eqb, if◌then◌else◌}
use Rattle.std.proofs.lemmas.Bool.{and_from, or_left}
use Rattle.std.proofs.lemmas.List.{append_assoc}
use Rattle.km_model.proofs.Cases.{elim_false, none_some}
use Rattle.km_laws.proofs.Counts.{IdsRise}
use Rattle.km_laws.proofs.Laws as laws
use Rattle.km_laws.proofs.Lists.{In, each_in, each_none, find_in, in_push_cases}
use Rattle.km_model.specs.Blocks.{Block, Minimum, Black, AtLeast, is_black, needs}
use Rattle.km_model.specs.Held.{Standing, is_supported}
use Rattle.km_certificates.specs.Certificates.{is_member, may_follow, grown, held_blocks, up_to, list_of, first_unfit, standing_after}
use Rattle.km_held.specs.Laws.{ListsAreConfirmed}

unfit_push : (s : Standing) (n : ℕ) (before xs : List Block) (b : Block) → first_unfit s n before xs ≡ None → may_follow s (before ++ xs) b ≡ true → first_unfit s n before (xs ++ b ∷ []) ≡ None
unfit_push s n before [] b e may = ap (λ q. if q then None else Some n) (subst (λ ys. may_follow s ys b ≡ true) (append-nil before) may)
unfit_push s n before (x ∷ xs) b e may = go (unfit_push s (n + 1) (before ++ x ∷ []) xs b) (may_follow s before x) e
  where
    go : (first_unfit s (n + 1) (before ++ x ∷ []) xs ≡ None → may_follow s ((before ++ x ∷ []) ++ xs) b ≡ true → first_unfit s (n + 1) (before ++ x ∷ []) (xs ++ b ∷ []) ≡ None)
        → (q : Bool) → (if q then first_unfit s (n + 1) (before ++ x ∷ []) xs else Some n) ≡ None → (if q then first_unfit s (n + 1) (before ++ x ∷ []) (xs ++ b ∷ []) else Some n) ≡ None
    go rest true f = rest f (subst (λ ys. may_follow s ys b ≡ true) (sym (append_assoc before (x ∷ []) xs)) may)
    go rest false f = absurd (none_some n (sym f))

up_to_fits : (s : Standing) (n id : ℕ) (before bs : List Block) → first_unfit s n before bs ≡ None → first_unfit s n before (up_to id bs) ≡ None
up_to_fits s n id before [] e = refl
up_to_fits s n id before (b ∷ bs) e = go (up_to_fits s (n + 1) id (before ++ b ∷ []) bs) (may_follow s before b) refl (b.id == id) e
  where
    go : (first_unfit s (n + 1) (before ++ b ∷ []) bs ≡ None → first_unfit s (n + 1) (before ++ b ∷ []) (up_to id bs) ≡ None) → (q : Bool) → may_follow s before b ≡ q → (r : Bool)
        → (if q then first_unfit s (n + 1) (before ++ b ∷ []) bs else Some n) ≡ None → first_unfit s n before (if r then b ∷ [] else b ∷ up_to id bs) ≡ None
    go rest true f true g = ap (λ q. if q then None else Some n) f
    go rest true f false g = ap (λ q. if q then first_unfit s (n + 1) (before ++ b ∷ []) (up_to id bs) else Some n) f ∙ rest g
    go rest false f r g = absurd (none_some n (sym g))

grown_fits : (s : Standing) (n : ℕ) (xs : List Block) → first_unfit s 1 [] xs ≡ None → first_unfit s 1 [] (grown n s xs) ≡ None
grown_fits s zero xs e = e
grown_fits s (suc n) xs e = go (grown_fits s n) (find (may_follow s xs) s.blocks) refl
  where
    go : ((ys : List Block) → first_unfit s 1 [] ys ≡ None → first_unfit s 1 [] (grown n s ys) ≡ None) → (o : Option Block) → find (may_follow s xs) s.blocks ≡ o
        → first_unfit s 1 [] (elim o as (λ _. List Block) [ None ↦ xs | Some b ↦ grown n s (xs ++ b ∷ []) ]) ≡ None
    go rest None f = e
    go rest (Some b) f = rest (xs ++ b ∷ []) (unfit_push s 1 [] xs b e (find_in (may_follow s xs) s.blocks b f).0)

black_needs : (b : Block) → needs 0 b ≡ true → is_black b ≡ false
black_needs b e = go b.minimum e
  where
    go : (m : Minimum) → (elim m as (λ _. Bool) [ Black ↦ false | AtLeast n ↦ n == 0 ]) ≡ true → (elim m as (λ _. Bool) [ Black ↦ true | AtLeast _ ↦ false ]) ≡ false
    go Black f = absurd (elim_false f)
    go (AtLeast n) f = refl

root_fits : (s : Standing) (xs : List Block) (b : Block) → needs 0 b ≡ true → ((x : Block) → In x xs → x.id < b.id) → may_follow s xs b ≡ true
root_fits s xs b e below =
    and_from (not (is_member xs b) && not (is_black b)) (is_supported s xs b)
    (and_from (not (is_member xs b)) (not (is_black b)) (ap not (each_none (λ (c : Block). c.id == b.id) xs (λ x i. let lt : x.id < b.id = below x i in ne_eqb x.id b.id (λ f. omega (arith, lt, f))))) (ap not (black_needs b e)))
    (or_left (needs 0 b) _ e)

roots_fit : (s : Standing) (bs xs : List Block) → ((x : Block) → In x xs → (c : Block) → In c bs → x.id < c.id) → IdsRise bs → first_unfit s 1 [] xs ≡ None → first_unfit s 1 [] (xs ++ filter (needs 0) bs) ≡ None
roots_fit s [] xs below up e = subst (λ ys. first_unfit s 1 [] ys ≡ None) (sym (append-nil xs)) e
roots_fit s (b ∷ bs) xs below up e =
    elim (needs 0 b) as (λ q. needs 0 b ≡ q → first_unfit s 1 [] (xs ++ cond q (b ∷ filter (needs 0) bs) (filter (needs 0) bs)) ≡ None) [
      | true ↦ λ f.
          subst (λ ys. first_unfit s 1 [] ys ≡ None) (append_assoc xs (b ∷ []) (filter (needs 0) bs))
          (roots_fit s bs (xs ++ b ∷ []) (λ x i c j. elim (in_push_cases xs x b i) [ inl l ↦ below x l c (inr j) | inr same ↦ subst (λ (y : Block). y.id < c.id) (sym same) (each_in (λ (y : Block). b.id < y.id) bs c up.0 j) ]) up.1
          (unfit_push s 1 [] xs b e (root_fits s xs b f (λ x i. below x i b (inl refl)))))
      | false ↦ λ _. roots_fit s bs xs (λ x i c j. below x i c (inr j)) up.1 e
    ] refl

confirmed : (s : Standing) (id : ℕ) → IdsRise s.blocks → first_unfit s 1 [] (list_of s id) ≡ None
confirmed s id rise = up_to_fits s 1 id [] (held_blocks s) (grown_fits s (length s.blocks) (filter (needs 0) s.blocks) (roots_fit s s.blocks [] (λ x i. absurd i) rise refl))

pub lists_are_confirmed : ListsAreConfirmed
lists_are_confirmed words h id = confirmed (standing_after words h) id (laws.names_rise h).ids
