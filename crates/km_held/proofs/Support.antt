-- More blocks support at least as much.
use Rattle.std.proofs.Common.{◌≡◌, ℕ, ◌+◌, ◌-◌, ◌≤◌, inl, inr, Bool, true, false, ◌&&◌, ◌||◌, not, leb, List, [], ◌∷◌, length, Option, Some, None, filter, refl, ap, subst, arith, le-leb, leb-true, if◌then◌else◌}
use Rattle.std.specs.List.{list_any}
use Rattle.std.proofs.lemmas.Bool.{and_parts, and_from, or_cases, or_left, or_right}
use Rattle.km_model.proofs.Cases.{elim_false}
use Rattle.km_laws.proofs.Lists.{total_le, sum_by-total}
use Rattle.km_laws.specs.Left.{total}
use Rattle.km_model.specs.Memory.{base}
use Rattle.km_model.specs.Blocks.{Block, contains, points_into, is_scanned, is_black, needs, option_is, references_of}
use Rattle.km_model.specs.Tasks.{in_stack}
use Rattle.km_model.specs.Held.{Standing, steady_where, refers, direct_words, surplus, is_supported}
use Rattle.km_certificates.specs.Certificates.{found}

-- where more words pass, no fewer are found, with or without a further test
steady_more : (q : ℕ → Bool) (t u : ℕ → ℕ → Bool) → ((a v : ℕ) → t a v ≡ true → u a v ≡ true) → (a : ℕ) (os : List (Option ℕ))
    → length (filter q (steady_where t a os)) ≤ length (filter q (steady_where u a os))
steady_more q t u more a [] = omega arith
steady_more q t u more a (None ∷ os) = steady_more q t u more (a + 8) os
steady_more q t u more a (Some v ∷ os) = go (steady_more q t u more (a + 8) os) (t a v) (u a v) (q a) refl (more a v)
  where
    go : length (filter q (steady_where t (a + 8) os)) ≤ length (filter q (steady_where u (a + 8) os))
        → (x y z : Bool) → q a ≡ z → (x ≡ true → y ≡ true)
        → length (filter q (if x then a ∷ steady_where t (a + 8) os else steady_where t (a + 8) os)) ≤ length (filter q (if y then a ∷ steady_where u (a + 8) os else steady_where u (a + 8) os))
    go rest true true true e m = rw e (omega (arith, rest))
    go rest true true false e m = rw e rest
    go rest true false z e m = absurd (elim_false (m refl))
    go rest false true true e m = rw e (omega (arith, rest))
    go rest false true false e m = rw e rest
    go rest false false z e m = rest

filter_all : (ws : List ℕ) → filter (λ _. true) ws ≡ ws
filter_all [] = refl
filter_all (w ∷ ws) = ap (λ vs. w ∷ vs) (filter_all ws)

-- some blocks scan at least what others do
abbrev pub ScansMore : List Block → List Block → Type 0
ScansMore xs ys = (a : ℕ) → list_any (λ x. is_scanned x a) xs ≡ true → list_any (λ x. is_scanned x a) ys ≡ true

refers_more : (s : Standing) (xs ys : List Block) → ScansMore xs ys → (b : Block) (a v : ℕ) → refers s xs b a v ≡ true → refers s ys b a v ≡ true
refers_more s xs ys more b a v e =
    let parts = and_parts (points_into v b && not (contains a b)) (list_any (λ x. is_scanned x a) xs || list_any (in_stack a) s.stacks) e in
    and_from (points_into v b && not (contains a b)) (list_any (λ x. is_scanned x a) ys || list_any (in_stack a) s.stacks) parts.0
    (elim (or_cases (list_any (λ x. is_scanned x a) xs) (list_any (in_stack a) s.stacks) parts.1) [
      | inl here ↦ or_left (list_any (λ x. is_scanned x a) ys) (list_any (in_stack a) s.stacks) (more a here)
      | inr stacked ↦ or_right (list_any (λ x. is_scanned x a) ys) (list_any (in_stack a) s.stacks) stacked
    ])

direct_more : (s : Standing) (xs ys : List Block) → ScansMore xs ys → (q : ℕ → Bool) (b : Block)
    → length (filter q (direct_words s xs b)) ≤ length (filter q (direct_words s ys b))
direct_more s xs ys more q b = steady_more q (refers s xs b) (refers s ys b) (refers_more s xs ys more b) base s.steady

surplus_more : (s : Standing) (xs ys : List Block) → ScansMore xs ys → (b head : Block) → surplus s xs head b ≤ surplus s ys head b
surplus_more s xs ys more b head = go (option_is head.excess b.start && not (is_black head))
  where
    outside : length (filter (λ a. not (contains a b)) (direct_words s xs head)) ≤ length (filter (λ a. not (contains a b)) (direct_words s ys head))
    outside = direct_more s xs ys more (λ a. not (contains a b)) head

    go : (q : Bool) → (if q then length (filter (λ a. not (contains a b)) (direct_words s xs head)) - references_of head else 0)
        ≤ (if q then length (filter (λ a. not (contains a b)) (direct_words s ys head)) - references_of head else 0)
    go true = omega (arith, outside)
    go false = omega arith

pub found_more : (s : Standing) (xs ys : List Block) → ScansMore xs ys → (b : Block) → found s xs b ≤ found s ys b
found_more s xs ys more b =
    let direct : length (filter (λ _. true) (direct_words s xs b)) ≤ length (filter (λ _. true) (direct_words s ys b)) = direct_more s xs ys more (λ _. true) b in
    let direct' : length (direct_words s xs b) ≤ length (direct_words s ys b) =
    subst (λ n. n ≤ length (direct_words s ys b)) (ap length (filter_all (direct_words s xs b)))
    (subst (λ n. length (filter (λ _. true) (direct_words s xs b)) ≤ n) (ap length (filter_all (direct_words s ys b))) direct) in
    let passed : total (λ head. surplus s xs head b) s.blocks ≤ total (λ head. surplus s ys head b) s.blocks =
    total_le (λ head. surplus s xs head b) (λ head. surplus s ys head b) (surplus_more s xs ys more b) s.blocks in
    omega (arith, direct', passed, sum_by-total (λ head. surplus s xs head b) s.blocks, sum_by-total (λ head. surplus s ys head b) s.blocks)

-- what is supported stays so
pub supported_more : (s : Standing) (xs ys : List Block) → ScansMore xs ys → (b : Block) → is_supported s xs b ≡ true → is_supported s ys b ≡ true
supported_more s xs ys more b e =
    elim (or_cases (needs 0 b) (leb (references_of b) (found s xs b)) e) [
      | inl none ↦ or_left (needs 0 b) (leb (references_of b) (found s ys b)) none
      | inr enough ↦
          let le : references_of b ≤ found s xs b = leb-true (references_of b) (found s xs b) enough in
          or_right (needs 0 b) (leb (references_of b) (found s ys b)) (le-leb (references_of b) (found s ys b) (omega (arith, le, found_more s xs ys more b)))
    ]
