use Rattle.std.proofs.Common.{◌≡◌, ℕ, ◌+◌, ◌≤◌, true, false, ltb, eqb, cond, refl, arith}
use Rattle.std.specs.Prelude.{max}
use Rattle.std.proofs.lemmas.Bool.{ltb-true, ltb-false}
use Rattle.km_map.specs.declared.entries.Entry.{Entry}
use Rattle.km_tree.specs.Trees.{Tree, Leaf, Fork, height_of, IsLevel, lifted_left, lifted_right, leant_left, leant_right, levelled, hung, lowest, joined, unhung}

-- a level tree of a height or of one more
abbrev pub Grows : ℕ → Tree → Type 0
Grows n t = IsLevel t × (n ≤ height_of t) × (height_of t ≤ n + 1)

-- a level tree of a height or of one less
abbrev pub Shrinks : ℕ → Tree → Type 0
Shrinks n t = IsLevel t × (n ≤ height_of t + 1) × (height_of t ≤ n)

twice_left : (a : Tree) (j : ℕ) (f : Entry) (b : Tree) (k : ℕ) (e : Entry) (r : Tree) → IsLevel a → IsLevel b → IsLevel r → height_of b ≡ height_of a + 1 → height_of b ≡ height_of r + 1 → Grows (height_of b + 1) (lifted_left (lifted_right a j f b) k e r)
twice_left a j f Leaf k e r p q s g h = absurd (omega (arith, g))
twice_left a j f (Fork c i m d) k e r p q s g h =
    ((omega (arith, g, h, q), omega (arith, g, h, q), (omega (arith, g, h, q), omega (arith, g, h, q), p, q.2), (omega (arith, g, h, q), omega (arith, g, h, q), q.3, s)), omega (arith, g, h, q), omega (arith, g, h, q))

left_side : (l : Tree) (k : ℕ) (e : Entry) (r : Tree) → IsLevel l → IsLevel r → height_of l ≡ height_of r + 2 → Grows (height_of l) (lifted_left (leant_left l) k e r)
left_side Leaf k e r p q h = absurd (omega (arith, h))
left_side (Fork a j f b) k e r p q h =
    elim (ltb (height_of a) (height_of b)) as (λ t. ltb (height_of a) (height_of b) ≡ t → Grows (max (height_of a) (height_of b) + 1) (lifted_left (cond t (lifted_right a j f b) (Fork a j f b)) k e r)) [
      | true ↦ λ w. let g = ltb-true _ _ w in let z = twice_left a j f b k e r p.2 p.3 q (omega (arith, g, p.1)) (omega (arith, g, h)) in (z.0, omega (arith, z.1, g), omega (arith, z.2, g))
      | false ↦ λ w. let g = ltb-false _ _ w in ((omega (arith, g, h, p.0), omega (arith, g, h, p.0), p.2, (omega (arith, g, h, p.0), omega (arith, g, h, p.0), p.3, q)), omega (arith, g, h, p.0), omega (arith, g, h, p.0))
    ] refl

twice_right : (l : Tree) (k : ℕ) (e : Entry) (a : Tree) (j : ℕ) (f : Entry) (b : Tree) → IsLevel a → IsLevel b → IsLevel l → height_of a ≡ height_of b + 1 → height_of a ≡ height_of l + 1 → Grows (height_of a + 1) (lifted_right l k e (lifted_left a j f b))
twice_right l k e Leaf j f b p q s g h = absurd (omega (arith, g))
twice_right l k e (Fork c i m d) j f b p q s g h =
    ((omega (arith, g, h, p), omega (arith, g, h, p), (omega (arith, g, h, p), omega (arith, g, h, p), s, p.2), (omega (arith, g, h, p), omega (arith, g, h, p), p.3, q)), omega (arith, g, h, p), omega (arith, g, h, p))

right_side : (l : Tree) (k : ℕ) (e : Entry) (r : Tree) → IsLevel l → IsLevel r → height_of r ≡ height_of l + 2 → Grows (height_of r) (lifted_right l k e (leant_right r))
right_side l k e Leaf p q h = absurd (omega (arith, h))
right_side l k e (Fork a j f b) p q h =
    elim (ltb (height_of b) (height_of a)) as (λ t. ltb (height_of b) (height_of a) ≡ t → Grows (max (height_of a) (height_of b) + 1) (lifted_right l k e (cond t (lifted_left a j f b) (Fork a j f b)))) [
      | true ↦ λ w. let g = ltb-true _ _ w in let z = twice_right l k e a j f b q.2 q.3 p (omega (arith, g, q.0)) (omega (arith, g, h)) in (z.0, omega (arith, z.1, g), omega (arith, z.2, g))
      | false ↦ λ w. let g = ltb-false _ _ w in ((omega (arith, g, h, q.1), omega (arith, g, h, q.1), (omega (arith, g, h, q.1), omega (arith, g, h, q.1), p, q.2), q.3), omega (arith, g, h, q.1), omega (arith, g, h, q.1))
    ] refl

-- a levelled node is as high as its sides ask for
abbrev pub Settles : ℕ → ℕ → Tree → Type 0
Settles l r t = IsLevel t × (max l r ≤ height_of t) × (height_of t ≤ max l r + 1) × (l ≤ r + 1 → r ≤ l + 1 → height_of t ≡ max l r + 1)

pub levelled_settles : (l : Tree) (k : ℕ) (e : Entry) (r : Tree) → IsLevel l → IsLevel r → height_of l ≤ height_of r + 2 → height_of r ≤ height_of l + 2 → Settles (height_of l) (height_of r) (levelled l k e r)
levelled_settles l k e r p q h g =
    elim (ltb (height_of r + 1) (height_of l)) as (λ t. ltb (height_of r + 1) (height_of l) ≡ t → Settles (height_of l) (height_of r) (cond t (lifted_left (leant_left l) k e r) (cond (ltb (height_of l + 1) (height_of r)) (lifted_right l k e (leant_right r)) (Fork l k e r)))) [
      | true ↦ λ w. let z = ltb-true _ _ w in let s = left_side l k e r p q (omega (arith, z, h)) in (s.0, omega (arith, s.1, z), omega (arith, s.2, z), λ x y. absurd (omega (arith, x, z)))
      | false ↦ λ w. elim (ltb (height_of l + 1) (height_of r)) as (λ t. ltb (height_of l + 1) (height_of r) ≡ t → Settles (height_of l) (height_of r) (cond t (lifted_right l k e (leant_right r)) (Fork l k e r))) [
        | true ↦ λ v. let z = ltb-true _ _ v in let s = right_side l k e r p q (omega (arith, z, g)) in (s.0, omega (arith, s.1, z), omega (arith, s.2, z), λ x y. absurd (omega (arith, y, z)))
        | false ↦ λ v. let z = ltb-false _ _ w in let y = ltb-false _ _ v in ((omega (arith, z), omega (arith, y), p, q), omega arith, omega arith, λ _ _. refl)
      ] refl
    ] refl

pub hung_level : (n : ℕ) (x : Entry) (t : Tree) → IsLevel t → Grows (height_of t) (hung n x t)
hung_level n x Leaf p = ((omega arith, omega arith, tt, tt), omega arith, omega arith)
hung_level n x (Fork l k e r) p =
    elim (ltb x.span.start.0 e.span.start.0) as (λ b. Grows (max (height_of l) (height_of r) + 1) (cond b (levelled (hung n x l) k e r) (levelled l k e (hung n x r)))) [
      | true ↦ let u = hung_level n x l p.2 in let s = levelled_settles (hung n x l) k e r u.0 p.3 (omega (arith, u.2, p.0)) (omega (arith, u.1, p.1)) in
          (s.0, higher_left _ _ _ _ u.1 u.2 p.0 p.1 s.1 s.3, omega (arith, s.2, u.2))
      | false ↦ let u = hung_level n x r p.3 in let s = levelled_settles l k e (hung n x r) p.2 u.0 (omega (arith, u.1, p.0)) (omega (arith, u.2, p.1)) in
          (s.0, higher_right _ _ _ _ u.1 u.2 p.0 p.1 s.1 s.3, omega (arith, s.2, u.2))
    ]
  where
    higher_left : (l m r h : ℕ) → l ≤ m → m ≤ l + 1 → l ≤ r + 1 → r ≤ l + 1 → max m r ≤ h → (m ≤ r + 1 → r ≤ m + 1 → h ≡ max m r + 1) → max l r + 1 ≤ h
    higher_left l m r h a b c d g s =
        elim (ltb (r + 1) m) as (λ t. ltb (r + 1) m ≡ t → max l r + 1 ≤ h) [
          | true ↦ λ w. omega (arith, ltb-true _ _ w, a, b, c, d, g)
          | false ↦ λ w. let z = ltb-false _ _ w in omega (arith, s (omega (arith, z)) (omega (arith, a, d)), a)
        ] refl

    higher_right : (l r m h : ℕ) → r ≤ m → m ≤ r + 1 → l ≤ r + 1 → r ≤ l + 1 → max l m ≤ h → (l ≤ m + 1 → m ≤ l + 1 → h ≡ max l m + 1) → max l r + 1 ≤ h
    higher_right l r m h a b c d g s =
        elim (ltb (l + 1) m) as (λ t. ltb (l + 1) m ≡ t → max l r + 1 ≤ h) [
          | true ↦ λ w. omega (arith, ltb-true _ _ w, a, b, c, d, g)
          | false ↦ λ w. let z = ltb-false _ _ w in omega (arith, s (omega (arith, a, c)) (omega (arith, z)), a)
        ] refl

lower_left : (l m r h : ℕ) → l ≤ m + 1 → m ≤ l → l ≤ r + 1 → r ≤ l + 1 → max m r ≤ h → (m ≤ r + 1 → r ≤ m + 1 → h ≡ max m r + 1) → max l r + 1 ≤ h + 1
lower_left l m r h a b c d g s =
    elim (ltb (m + 1) r) as (λ t. ltb (m + 1) r ≡ t → max l r + 1 ≤ h + 1) [
      | true ↦ λ w. omega (arith, ltb-true _ _ w, a, b, c, d, g)
      | false ↦ λ w. let z = ltb-false _ _ w in omega (arith, s (omega (arith, b, c)) (omega (arith, z)), a)
    ] refl

lower_right : (l r m h : ℕ) → r ≤ m + 1 → m ≤ r → l ≤ r + 1 → r ≤ l + 1 → max l m ≤ h → (l ≤ m + 1 → m ≤ l + 1 → h ≡ max l m + 1) → max l r + 1 ≤ h + 1
lower_right l r m h a b c d g s =
    elim (ltb (m + 1) l) as (λ t. ltb (m + 1) l ≡ t → max l r + 1 ≤ h + 1) [
      | true ↦ λ w. omega (arith, ltb-true _ _ w, a, b, c, d, g)
      | false ↦ λ w. let z = ltb-false _ _ w in omega (arith, s (omega (arith, z)) (omega (arith, b, d)), a)
    ] refl

pub shrunk_left : (l m : Tree) (k : ℕ) (e : Entry) (r : Tree) → IsLevel (Fork l k e r) → Shrinks (height_of l) m → Shrinks (max (height_of l) (height_of r) + 1) (levelled m k e r)
shrunk_left l m k e r p u =
    let s = levelled_settles m k e r u.0 p.3 (omega (arith, u.2, p.0)) (omega (arith, u.1, p.1)) in
    (s.0, lower_left _ _ _ _ u.1 u.2 p.0 p.1 s.1 s.3, omega (arith, s.2, u.2))

pub shrunk_right : (l : Tree) (k : ℕ) (e : Entry) (r m : Tree) → IsLevel l → height_of l ≤ height_of r + 1 → height_of r ≤ height_of l + 1 → Shrinks (height_of r) m → Shrinks (max (height_of l) (height_of r) + 1) (levelled l k e m)
shrunk_right l k e r m p a b u =
    let s = levelled_settles l k e m p u.0 (omega (arith, u.1, a)) (omega (arith, u.2, b)) in
    (s.0, lower_right _ _ _ _ u.1 u.2 a b s.1 s.3, omega (arith, s.2, u.2))

pub lowest_level : (l : Tree) (k : ℕ) (e : Entry) (r : Tree) → IsLevel (Fork l k e r) → Shrinks (max (height_of l) (height_of r) + 1) (lowest l k e r).2
lowest_level Leaf k e r p = (p.3, omega (arith, p.1), omega (arith, p.1))
lowest_level (Fork a j f b) k e r p = shrunk_left (Fork a j f b) (lowest a j f b).2 k e r p (lowest_level a j f b p.2)

pub joined_level : (l : Tree) (k : ℕ) (e : Entry) (r : Tree) → IsLevel (Fork l k e r) → Shrinks (max (height_of l) (height_of r) + 1) (joined l r)
joined_level l k e Leaf p = (p.2, omega (arith, p.0), omega (arith, p.0))
joined_level l k e (Fork a j f b) p = shrunk_right l (lowest a j f b).0 (lowest a j f b).1 (Fork a j f b) (lowest a j f b).2 p.2 p.0 p.1 (lowest_level a j f b p.3)

pub unhung_level : (s : ℕ) (t : Tree) → IsLevel t → Shrinks (height_of t) (unhung s t)
unhung_level s Leaf p = (tt, omega arith, omega arith)
unhung_level s (Fork l k e r) p =
    elim (eqb s e.span.start.0) as (λ b. Shrinks (max (height_of l) (height_of r) + 1) (cond b (joined l r) (cond (ltb s e.span.start.0) (levelled (unhung s l) k e r) (levelled l k e (unhung s r))))) [
      | true ↦ joined_level l k e r p
      | false ↦ elim (ltb s e.span.start.0) as (λ b. Shrinks (max (height_of l) (height_of r) + 1) (cond b (levelled (unhung s l) k e r) (levelled l k e (unhung s r)))) [
        | true ↦ shrunk_left l (unhung s l) k e r p (unhung_level s l p.2)
        | false ↦ shrunk_right l k e r (unhung s r) p.2 p.0 p.1 (unhung_level s r p.3)
      ]
    ]
