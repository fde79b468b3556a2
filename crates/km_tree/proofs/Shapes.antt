use Rattle.std.proofs.Common.{◌≡◌, ℕ, zero, suc, ◌+◌, ◌^◌, ◌<◌, ◌≤◌, List, [], ◌∷◌, length, Some, refl, sym, ap, subst, ◌∙◌, arith}
use Rattle.std.specs.Prelude.{slice_get, slice_set, slice_index_or, max}
use Rattle.std.proofs.Math.ListN.{length-set}
use Rattle.std.proofs.lemmas.Bool.{eq-eqb, ne_eqb, lt-ltb, le-ltb}
use Rattle.std.proofs.lemmas.Option.{slice_get-get_or}
use Rattle.km_map.specs.declared.entries.Entry.{Entry}
use Rattle.km_tree.specs.declared.node.Node.{Node}
use Rattle.km_tree.specs.Tables.{Stands, Held, Sides, Made, node_of, OverLeft, OverRight}
use Rattle.km_tree.specs.Trees.{Tree, Leaf, Fork, root_of, height_of, size_of, uses, one, no_node, lifted_left, lifted_right, leant_left, leant_right, levelled}
use Rattle.km_tree.proofs.Tables.{some_same, Topped, topped, leaf_at}
use Rattle.km_tree.proofs.Weights.{weigh-lifted_left, weigh-lifted_right, weigh-leant_left, weigh-leant_right}

pub one_at : (i k : ℕ) → i ≡ k → one i k ≡ 1
one_at i k h = rw (eq-eqb i k h) refl

pub one_off : (i k : ℕ) → (i ≡ k → ⊥) → one i k ≡ 0
one_off i k h = rw (ne_eqb i k h) refl

-- a tree is no higher than it has nodes
pub height_size : (t : Tree) → height_of t ≤ size_of t
height_size Leaf = omega arith
height_size (Fork l k e r) = omega (arith, height_size l, height_size r)

-- a tree stands on where its places have not changed
pub stays : (old new : List Node) (t : Tree) → Stands old t → ((i : ℕ) → 0 < uses i t → slice_get new i ≡ slice_get old i) → Stands new t
stays old new Leaf s h = tt
stays old new (Fork l k e r) s h =
    (h k (omega (arith, one_at k k refl)) ∙ s.0, s.1, stays old new l s.2 (λ i p. h i (omega (arith, p))), stays old new r s.3 (λ i p. h i (omega (arith, p))))

pub slice_get-set_same : (xs : List Node) (i : ℕ) (n : Node) → i < length xs → slice_get (slice_set xs i n) i ≡ Some n
slice_get-set_same [] i n h = absurd (omega (arith, h))
slice_get-set_same (x ∷ xs) zero n h = refl
slice_get-set_same (x ∷ xs) (suc i) n h = slice_get-set_same xs i n (omega (arith, h))

pub slice_get-set_other : (xs : List Node) (i j : ℕ) (n : Node) → (j ≡ i → ⊥) → slice_get (slice_set xs i n) j ≡ slice_get xs j
slice_get-set_other [] i j n h = refl
slice_get-set_other (x ∷ xs) zero zero n h = absurd (h refl)
slice_get-set_other (x ∷ xs) zero (suc j) n h = refl
slice_get-set_other (x ∷ xs) (suc i) zero n h = refl
slice_get-set_other (x ∷ xs) (suc i) (suc j) n h = slice_get-set_other xs i j n (λ w. h (omega (arith, w)))

pub held_left : {table : List Node} {t : Tree} {l k r : ℕ} {u : Tree} → Sides table t l k r u → Held table t l
held_left h = record { is = h.left_is; stands = h.left; once = λ i. omega (arith, h.once i); small = omega (arith, h.small) }

pub held_right : {table : List Node} {t : Tree} {l k r : ℕ} {u : Tree} → Sides table t l k r u → Held table u r
held_right h = record { is = h.right_is; stands = h.right; once = λ i. omega (arith, h.once i); small = omega (arith, h.small) }

-- the sides of the node at the top
pub split : {table : List Node} {t : Tree} {i : ℕ} {n : Node} → Held table t i → (z : Topped table i t n) → Sides table z.left n.left i n.right z.right
split h z =
    record {
      left_is = z.left_is;
      right_is = z.right_is;
      left = z.stands_left;
      right = z.stands_right;
      once = λ i. subst (λ x. uses i x ≤ 1) z.is (h.once i);
      small = subst (λ x. size_of x < 2 ^ 32) z.is h.small;
      inside = z.inside;
      place = z.place;
    }

pub unchanged : {table : List Node} {t : Tree} {i : ℕ} → Held table t i → Made table table t i
unchanged h = record { is = h.is; stands = h.stands; rest = λ i p. refl; same_length = refl }

-- what is made is known by an equal tree
pub made_as : {old new : List Node} {t u : Tree} {a : ℕ} → t ≡ u → Made old new t a → Made old new u a
made_as {old} {new} {a = a} e m = subst (λ x. Made old new x a) e m

-- the sides once one of them is made anew

pub side_left : {table mid : List Node} {t v : Tree} {l m k r : ℕ} {u : Tree} → Sides table t l k r u → Made table mid v m → ((i : ℕ) → uses i v + one i k + uses i u ≤ 1) → size_of v + 1 + size_of u < 2 ^ 32 → Sides mid v m k r u
side_left {table} {mid} {u = u} h w once small =
    record {
      left_is = w.is;
      right_is = h.right_is;
      left = w.stands;
      right = stays table mid u h.right (λ i p. w.rest i (omega (arith, p, once i)));
      once = once;
      small = small;
      inside = omega (arith, h.inside, w.same_length);
      place = h.place;
    }

pub side_right : {table mid : List Node} {t : Tree} {l m k r : ℕ} {u v : Tree} → Sides table t l k r u → Made table mid v m → ((i : ℕ) → uses i t + one i k + uses i v ≤ 1) → size_of t + 1 + size_of v < 2 ^ 32 → Sides mid t l k m v
side_right {table} {mid} {t} h w once small =
    record {
      left_is = h.left_is;
      right_is = w.is;
      left = stays table mid t h.left (λ i p. w.rest i (omega (arith, p, once i)));
      right = w.stands;
      once = once;
      small = small;
      inside = omega (arith, h.inside, w.same_length);
      place = h.place;
    }

-- one change after another
pub after : {old mid new : List Node} {t u : Tree} {a b : ℕ} → Made old mid t a → Made mid new u b → ((i : ℕ) → uses i u ≡ 0 → uses i t ≡ 0) → Made old new u b
after p q h = record { is = q.is; stands = q.stands; rest = λ i w. q.rest i w ∙ p.rest i (h i w); same_length = q.same_length ∙ p.same_length }

-- the node over two trees, once it is written
pub forked : {table : List Node} {t : Tree} {l k r : ℕ} {u : Tree} (e : Entry) (n : ℕ) → Sides table t l k r u → n ≡ max (height_of t) (height_of u) + 1 → Made table (slice_set table k (record { entry = e; left = l; right = r; height = n })) (Fork t k e u) k
forked {table} {t} {l} {k} {r} {u} e n h q =
    let x : Node = record { entry = e; left = l; right = r; height = n } in
    let same : x ≡ node_of t e u = rw (h.left_is, h.right_is, q) refl in
    record {
      is = refl;
      stands = (slice_get-set_same table k x h.inside ∙ ap Some same, h.place, stays table _ t h.left (λ i p. slice_get-set_other table k i x (λ w. omega (arith, h.once i, p, one_at i k w))), stays table _ u h.right (λ i p. slice_get-set_other table k i x (λ w. omega (arith, h.once i, p, one_at i k w))));
      rest = λ i p. slice_get-set_other table k i x (λ w. omega (arith, p, one_at i k w));
      same_length = length-set table k x;
    }

-- the two writes that lift the left side over a node
pub record LiftsLeft (table : List Node) (t : Tree) (l k r : ℕ) (u : Tree) (e : Entry) (n : Node) : Type 0 where
  pub outer : Tree
  pub inner : Tree
  pub lower : Sides table inner n.right k r u
  pub upper : (mid : List Node) → Made table mid (Fork inner k e u) k → Sides mid outer n.left l k (Fork inner k e u)
  pub done : (mid new : List Node) → Made table mid (Fork inner k e u) k → Made mid new (Fork outer l n.entry (Fork inner k e u)) l → Made table new (lifted_left t k e u) l

pub lifts_left : {table : List Node} {t : Tree} {l k r : ℕ} {u : Tree} (e : Entry) (d : Node) → Sides table t l k r u → (l ≡ no_node → ⊥) → LiftsLeft table t l k r u e (slice_index_or table l d)
lifts_left {table} {t} {l} {k} {r} {u} e d h not =
    let n = slice_index_or table l d in
    let z : Topped table l t n = topped table l t d h.left h.left_is not in
    let a = z.left in
    let b = z.right in
    let g : Sides table (Fork a l n.entry b) l k r u = subst (λ x. Sides table x l k r u) z.is h in
    record {
      outer = a;
      inner = b;
      lower = record { left_is = z.right_is; right_is = g.right_is; left = z.stands_right; right = g.right; once = λ i. omega (arith, g.once i); small = omega (arith, g.small); inside = g.inside; place = g.place };
      upper = λ mid w. record {
        left_is = z.left_is;
        right_is = refl;
        left = stays table mid a z.stands_left (λ i p. w.rest i (omega (arith, p, g.once i)));
        right = w.stands;
        once = λ i. omega (arith, g.once i);
        small = omega (arith, g.small);
        inside = omega (arith, z.inside, w.same_length);
        place = z.place;
      };
      done = λ mid new p q. subst (λ x. Made table new (lifted_left x k e u) l) (sym z.is) (after p q (λ i w. omega (arith, w)));
    }

-- the two writes that lift the right side over a node
pub record LiftsRight (table : List Node) (t : Tree) (l k r : ℕ) (u : Tree) (e : Entry) (n : Node) : Type 0 where
  pub inner : Tree
  pub outer : Tree
  pub lower : Sides table t l k n.left inner
  pub upper : (mid : List Node) → Made table mid (Fork t k e inner) k → Sides mid (Fork t k e inner) k r n.right outer
  pub done : (mid new : List Node) → Made table mid (Fork t k e inner) k → Made mid new (Fork (Fork t k e inner) r n.entry outer) r → Made table new (lifted_right t k e u) r

pub lifts_right : {table : List Node} {t : Tree} {l k r : ℕ} {u : Tree} (e : Entry) (d : Node) → Sides table t l k r u → (r ≡ no_node → ⊥) → LiftsRight table t l k r u e (slice_index_or table r d)
lifts_right {table} {t} {l} {k} {r} {u} e d h not =
    let n = slice_index_or table r d in
    let z : Topped table r u n = topped table r u d h.right h.right_is not in
    let a = z.left in
    let b = z.right in
    let g : Sides table t l k r (Fork a r n.entry b) = subst (λ x. Sides table t l k r x) z.is h in
    record {
      inner = a;
      outer = b;
      lower = record { left_is = g.left_is; right_is = z.left_is; left = g.left; right = z.stands_left; once = λ i. omega (arith, g.once i); small = omega (arith, g.small); inside = g.inside; place = g.place };
      upper = λ mid w. record {
        left_is = refl;
        right_is = z.right_is;
        left = w.stands;
        right = stays table mid b z.stands_right (λ i p. w.rest i (omega (arith, p, g.once i)));
        once = λ i. omega (arith, g.once i);
        small = omega (arith, g.small);
        inside = omega (arith, z.inside, w.same_length);
        place = z.place;
      };
      done = λ mid new p q. subst (λ x. Made table new (lifted_right t k e x) r) (sym z.is) (after p q (λ i w. omega (arith, w)));
    }

pub lift_left_none : {table new : List Node} {t : Tree} {l k r : ℕ} {u : Tree} {e : Entry} → Sides table t l k r u → l ≡ no_node → Made table new (Fork t k e u) k → Made table new (lifted_left t k e u) k
lift_left_none {table} {new} {t} {l} {k} {r} {u} {e} h is m =
    let leaf = leaf_at table t h.left (h.left_is ∙ is) in
    subst (λ x. Made table new (lifted_left x k e u) k) (sym leaf) (subst (λ x. Made table new (Fork x k e u) k) leaf m)

pub lift_right_none : {table new : List Node} {t : Tree} {l k r : ℕ} {u : Tree} {e : Entry} → Sides table t l k r u → r ≡ no_node → Made table new (Fork t k e u) k → Made table new (lifted_right t k e u) k
lift_right_none {table} {new} {t} {l} {k} {r} {u} {e} h is m =
    let leaf = leaf_at table u h.right (h.right_is ∙ is) in
    subst (λ x. Made table new (lifted_right t k e x) k) (sym leaf) (subst (λ x. Made table new (Fork t k e x) k) leaf m)

-- what leans and what doesn't

pub leans_left : {table : List Node} {i : ℕ} {t : Tree} {n : Node} (z : Topped table i t n) → height_of z.left < height_of z.right → leant_left t ≡ lifted_right z.left i n.entry z.right
leans_left z h = ap leant_left z.is ∙ (rw (lt-ltb _ _ h) refl)

pub stands_left : {table : List Node} {i : ℕ} {t : Tree} {n : Node} (z : Topped table i t n) → height_of z.right ≤ height_of z.left → leant_left t ≡ t
stands_left z h = ap leant_left z.is ∙ (rw (le-ltb _ _ h) (sym z.is))

pub leans_right : {table : List Node} {i : ℕ} {t : Tree} {n : Node} (z : Topped table i t n) → height_of z.right < height_of z.left → leant_right t ≡ lifted_left z.left i n.entry z.right
leans_right z h = ap leant_right z.is ∙ (rw (lt-ltb _ _ h) refl)

pub stands_right : {table : List Node} {i : ℕ} {t : Tree} {n : Node} (z : Topped table i t n) → height_of z.left ≤ height_of z.right → leant_right t ≡ t
stands_right z h = ap leant_right z.is ∙ (rw (le-ltb _ _ h) (sym z.is))

-- the sides once one of them leans

pub leant_sides_left : {table mid : List Node} {t : Tree} {l m k r : ℕ} {u : Tree} → Sides table t l k r u → Made table mid (leant_left t) m → Sides mid (leant_left t) m k r u
leant_sides_left {t = t} h w = side_left h w (λ i. omega (arith, h.once i, weigh-leant_left (λ k _. one i k) t)) (omega (arith, h.small, weigh-leant_left (λ _ _. 1) t))

pub leant_sides_right : {table mid : List Node} {t : Tree} {l m k r : ℕ} {u : Tree} → Sides table t l k r u → Made table mid (leant_right u) m → Sides mid t l k m (leant_right u)
leant_sides_right {u = u} h w = side_right h w (λ i. omega (arith, h.once i, weigh-leant_right (λ k _. one i k) u)) (omega (arith, h.small, weigh-leant_right (λ _ _. 1) u))

pub levels_left : {table mid new : List Node} {m j : ℕ} (t : Tree) (k : ℕ) (e : Entry) (u : Tree) → height_of u + 1 < height_of t → Made table mid (leant_left t) m → Made mid new (lifted_left (leant_left t) k e u) j → Made table new (levelled t k e u) j
levels_left t k e u lt p q = rw (lt-ltb _ _ lt) (after p q (λ i w. omega (arith, w, weigh-lifted_left (λ k _. one i k) (leant_left t) k e u)))

pub levels_right : {table mid new : List Node} {m j : ℕ} (t : Tree) (k : ℕ) (e : Entry) (u : Tree) → height_of t ≤ height_of u + 1 → height_of t + 1 < height_of u → Made table mid (leant_right u) m → Made mid new (lifted_right t k e (leant_right u)) j → Made table new (levelled t k e u) j
levels_right t k e u le lt p q = rw (le-ltb _ _ le, lt-ltb _ _ lt) (after p q (λ i w. omega (arith, w, weigh-lifted_right (λ k _. one i k) t k e (leant_right u))))

pub levels_none : {table new : List Node} (t : Tree) (k : ℕ) (e : Entry) (u : Tree) → height_of t ≤ height_of u + 1 → height_of u ≤ height_of t + 1 → Made table new (Fork t k e u) k → Made table new (levelled t k e u) k
levels_none t k e u le ge p = rw (le-ltb _ _ le, le-ltb _ _ ge) p

-- a node that gets another side

node_is : (table : List Node) (i : ℕ) {x : Node} (d : Node) → i < length table → slice_get table i ≡ Some x → slice_index_or table i d ≡ x
node_is table i d h g = some_same (sym (slice_get-get_or table i d h) ∙ g)

pub over_left_sides : {table : List Node} {before left root : ℕ} {l m : Tree} {e : Entry} {r : Tree} (d : Node) → OverLeft table before left root l m e r → Sides table m left root (slice_index_or table root d).right r
over_left_sides {table} {left = left} {root = root} {m = m} {r = r} d o = subst (λ k. Sides table m left root k r) (sym (ap (λ (n : Node). n.right) (node_is table root d o.sides.inside o.node))) o.sides

pub over_left_level : {table new : List Node} {before left root top : ℕ} {l m : Tree} {e : Entry} {r : Tree} (d : Node) → OverLeft table before left root l m e r → Made table new (levelled m root (slice_index_or table root d).entry r) top → Made table new (levelled m root e r) top
over_left_level {table} {new} {root = root} {top = top} {m = m} {r = r} d o w = subst (λ x. Made table new (levelled m root x r) top) (ap (λ (n : Node). n.entry) (node_is table root d o.sides.inside o.node)) w

pub over_left_same : {table : List Node} {before left root : ℕ} {l m : Tree} {e : Entry} {r : Tree} (d : Node) → OverLeft table before left root l m e r → left ≡ (slice_index_or table root d).left → height_of m ≡ before → Made table table (levelled m root e r) root
over_left_same {table} {root = root} {l = l} {m = m} {e = e} {r = r} d o same h =
    let root_same : root_of l ≡ root_of m = sym (o.sides.left_is ∙ same ∙ ap (λ (n : Node). n.left) (node_is table root d o.sides.inside o.node)) in
    let height_same : height_of l ≡ height_of m = sym (h ∙ o.height) in
    let node : node_of l e r ≡ node_of m e r = rw (root_same, height_same) refl in
    levels_none m root e r (omega (arith, height_same, o.low)) (omega (arith, height_same, o.high)) (record { is = refl; stands = (o.node ∙ ap Some node, o.sides.place, o.sides.left, o.sides.right); rest = λ i p. refl; same_length = refl })

pub over_right_sides : {table : List Node} {before right root : ℕ} {l : Tree} {e : Entry} {r m : Tree} (d : Node) → OverRight table before right root l e r m → Sides table l (slice_index_or table root d).left root right m
over_right_sides {table} {right = right} {root = root} {l = l} {m = m} d o = subst (λ k. Sides table l k root right m) (sym (ap (λ (n : Node). n.left) (node_is table root d o.sides.inside o.node))) o.sides

pub over_right_level : {table new : List Node} {before right root top : ℕ} {l : Tree} {e : Entry} {r m : Tree} (d : Node) → OverRight table before right root l e r m → Made table new (levelled l root (slice_index_or table root d).entry m) top → Made table new (levelled l root e m) top
over_right_level {table} {new} {root = root} {top = top} {l = l} {m = m} d o w = subst (λ x. Made table new (levelled l root x m) top) (ap (λ (n : Node). n.entry) (node_is table root d o.sides.inside o.node)) w

pub over_right_same : {table : List Node} {before right root : ℕ} {l : Tree} {e : Entry} {r m : Tree} (d : Node) → OverRight table before right root l e r m → right ≡ (slice_index_or table root d).right → height_of m ≡ before → Made table table (levelled l root e m) root
over_right_same {table} {root = root} {l = l} {e = e} {r = r} {m = m} d o same h =
    let root_same : root_of r ≡ root_of m = sym (o.sides.right_is ∙ same ∙ ap (λ (n : Node). n.right) (node_is table root d o.sides.inside o.node)) in
    let height_same : height_of r ≡ height_of m = sym (h ∙ o.height) in
    let node : node_of l e r ≡ node_of l e m = rw (root_same, height_same) refl in
    levels_none l root e m (omega (arith, height_same, o.low)) (omega (arith, height_same, o.high)) (record { is = refl; stands = (o.node ∙ ap Some node, o.sides.place, o.sides.left, o.sides.right); rest = λ i p. refl; same_length = refl })
