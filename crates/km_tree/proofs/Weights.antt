use Rattle.std.proofs.Common.{◌≡◌, ℕ, ◌+◌, ltb, eqb, true, false, cond, Option, Some, None, arith}
use Rattle.km_map.specs.declared.entries.Entry.{Entry}
use Rattle.km_tree.specs.declared.node.Placed.{Placed}
use Rattle.km_tree.specs.Trees.{Tree, Leaf, Fork, height_of, weigh, lifted_left, lifted_right, leant_left, leant_right, levelled, hung, lowest, joined, unhung, gone}

-- a change of a tree keeps what its nodes add up to

pub weigh-lifted_left : (f : ℕ → Entry → ℕ) (l : Tree) (k : ℕ) (e : Entry) (r : Tree) → weigh f (lifted_left l k e r) ≡ weigh f l + f k e + weigh f r
weigh-lifted_left f Leaf k e r = omega arith
weigh-lifted_left f (Fork a j g b) k e r = omega arith

pub weigh-lifted_right : (f : ℕ → Entry → ℕ) (l : Tree) (k : ℕ) (e : Entry) (r : Tree) → weigh f (lifted_right l k e r) ≡ weigh f l + f k e + weigh f r
weigh-lifted_right f l k e Leaf = omega arith
weigh-lifted_right f l k e (Fork a j g b) = omega arith

pub weigh-leant_left : (f : ℕ → Entry → ℕ) (t : Tree) → weigh f (leant_left t) ≡ weigh f t
weigh-leant_left f Leaf = omega arith
weigh-leant_left f (Fork a j g b) =
    elim (ltb (height_of a) (height_of b)) as (λ t. weigh f (cond t (lifted_right a j g b) (Fork a j g b)) ≡ weigh f a + f j g + weigh f b) [ true ↦ weigh-lifted_right f a j g b | false ↦ omega arith ]

pub weigh-leant_right : (f : ℕ → Entry → ℕ) (t : Tree) → weigh f (leant_right t) ≡ weigh f t
weigh-leant_right f Leaf = omega arith
weigh-leant_right f (Fork a j g b) =
    elim (ltb (height_of b) (height_of a)) as (λ t. weigh f (cond t (lifted_left a j g b) (Fork a j g b)) ≡ weigh f a + f j g + weigh f b) [ true ↦ weigh-lifted_left f a j g b | false ↦ omega arith ]

pub weigh-levelled : (f : ℕ → Entry → ℕ) (l : Tree) (k : ℕ) (e : Entry) (r : Tree) → weigh f (levelled l k e r) ≡ weigh f l + f k e + weigh f r
weigh-levelled f l k e r =
    elim (ltb (height_of r + 1) (height_of l)) as (λ t. weigh f (cond t (lifted_left (leant_left l) k e r) (cond (ltb (height_of l + 1) (height_of r)) (lifted_right l k e (leant_right r)) (Fork l k e r))) ≡ weigh f l + f k e + weigh f r) [
      | true ↦ omega (arith, weigh-lifted_left f (leant_left l) k e r, weigh-leant_left f l)
      | false ↦ elim (ltb (height_of l + 1) (height_of r)) as (λ t. weigh f (cond t (lifted_right l k e (leant_right r)) (Fork l k e r)) ≡ weigh f l + f k e + weigh f r) [
        | true ↦ omega (arith, weigh-lifted_right f l k e (leant_right r), weigh-leant_right f r)
        | false ↦ omega arith
      ]
    ]

pub weigh-hung : (f : ℕ → Entry → ℕ) (n : ℕ) (x : Entry) (t : Tree) → weigh f (hung n x t) ≡ weigh f t + f n x
weigh-hung f n x Leaf = omega arith
weigh-hung f n x (Fork l k e r) =
    elim (ltb x.span.start.0 e.span.start.0) as (λ b. weigh f (cond b (levelled (hung n x l) k e r) (levelled l k e (hung n x r))) ≡ weigh f l + f k e + weigh f r + f n x) [
      | true ↦ omega (arith, weigh-levelled f (hung n x l) k e r, weigh-hung f n x l)
      | false ↦ omega (arith, weigh-levelled f l k e (hung n x r), weigh-hung f n x r)
    ]

pub weigh-lowest : (f : ℕ → Entry → ℕ) (l : Tree) (k : ℕ) (e : Entry) (r : Tree) → f (lowest l k e r).0 (lowest l k e r).1 + weigh f (lowest l k e r).2 ≡ weigh f l + f k e + weigh f r
weigh-lowest f Leaf k e r = omega arith
weigh-lowest f (Fork a j g b) k e r = omega (arith, weigh-levelled f (lowest a j g b).2 k e r, weigh-lowest f a j g b)

pub weigh-joined : (f : ℕ → Entry → ℕ) (l r : Tree) → weigh f (joined l r) ≡ weigh f l + weigh f r
weigh-joined f l Leaf = omega arith
weigh-joined f l (Fork a j g b) = omega (arith, weigh-levelled f l (lowest a j g b).0 (lowest a j g b).1 (lowest a j g b).2, weigh-lowest f a j g b)

-- the weight of what went
abbrev pub part : (ℕ → Entry → ℕ) → Option Placed → ℕ
part f None = 0
part f (Some p) = f p.place p.entry

pub weigh-unhung : (f : ℕ → Entry → ℕ) (s : ℕ) (t : Tree) → weigh f (unhung s t) + part f (gone s t) ≡ weigh f t
weigh-unhung f s Leaf = omega arith
weigh-unhung f s (Fork l k e r) =
    elim (eqb s e.span.start.0) as (λ b. weigh f (cond b (joined l r) (cond (ltb s e.span.start.0) (levelled (unhung s l) k e r) (levelled l k e (unhung s r)))) + part f (cond b (Some (record { place = k; entry = e })) (cond (ltb s e.span.start.0) (gone s l) (gone s r))) ≡ weigh f l + f k e + weigh f r) [
      | true ↦ omega (arith, weigh-joined f l r)
      | false ↦ elim (ltb s e.span.start.0) as (λ b. weigh f (cond b (levelled (unhung s l) k e r) (levelled l k e (unhung s r))) + part f (cond b (gone s l) (gone s r)) ≡ weigh f l + f k e + weigh f r) [
        | true ↦ omega (arith, weigh-levelled f (unhung s l) k e r, weigh-unhung f s l)
        | false ↦ omega (arith, weigh-levelled f l k e (unhung s r), weigh-unhung f s r)
      ]
    ]
