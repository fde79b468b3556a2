use Rattle.std.proofs.Common.{◌≡◌, ℕ, ◌+◌, ◌<◌, List, length, Some, refl, sym, ap, subst, ◌∙◌, arith}
use Rattle.std.specs.Prelude.{slice_get, slice_index_or, max}
use Rattle.std.proofs.lemmas.Option.{slice_get_within, slice_get-get_or}
use Rattle.std.proofs.lemmas.Bool.{ne_eqb}
use Rattle.km_map.specs.declared.entries.Entry.{Entry}
use Rattle.km_tree.specs.declared.node.Node.{Node}
use Rattle.km_tree.specs.Tables.{Stands, height_at, height_in, node_of}
use Rattle.km_tree.specs.Trees.{Tree, Leaf, Fork, root_of, height_of, no_node}

pub some_same : {X : Type 0} {x y : X} → Some x ≡ Some y → x ≡ y
some_same {X} {x} {y} h = cc

-- one tree at most stands at a place
pub one_tree : (table : List Node) (t u : Tree) → Stands table t → Stands table u → root_of t ≡ root_of u → t ≡ u
one_tree table Leaf Leaf p q h = refl
one_tree table Leaf (Fork l k e r) p q h = absurd (omega (arith, h, q.1))
one_tree table (Fork l k e r) Leaf p q h = absurd (omega (arith, h, p.1))
one_tree table (Fork l k e r) (Fork m j f s) p q same =
    let node = some_same (sym p.0 ∙ ap (λ i. slice_get table i) same ∙ q.0) in
    let left : root_of l ≡ root_of m = ap (λ (n : Node). n.left) node in
    let right : root_of r ≡ root_of s = ap (λ (n : Node). n.right) node in
    let entry : e ≡ f = ap (λ (n : Node). n.entry) node in
    rw (same, entry, one_tree table l m p.2 q.2 left, one_tree table r s p.3 q.3 right) refl

pub leaf_at : (table : List Node) (t : Tree) → Stands table t → root_of t ≡ no_node → t ≡ Leaf
leaf_at table Leaf s h = refl
leaf_at table (Fork l k e r) s h = absurd (omega (arith, h, s.1))

-- the node at the top of a tree, and what stands below it
pub record Topped (table : List Node) (i : ℕ) (t : Tree) (n : Node) : Type 0 where
  pub left : Tree
  pub right : Tree
  pub is : t ≡ Fork left i n.entry right
  pub left_is : root_of left ≡ n.left
  pub right_is : root_of right ≡ n.right
  pub height : n.height ≡ max (height_of left) (height_of right) + 1
  pub inside : i < length table
  pub place : i < no_node
  pub stands_left : Stands table left
  pub stands_right : Stands table right

pub topped : (table : List Node) (i : ℕ) (t : Tree) (d : Node) → Stands table t → root_of t ≡ i → (i ≡ no_node → ⊥) → Topped table i t (slice_index_or table i d)
topped table i Leaf d s is not = absurd (not (sym is))
topped table i (Fork l k e r) d s is not =
    let inside = slice_get_within table k _ s.0 in
    let same : slice_index_or table k d ≡ node_of l e r = some_same (sym (slice_get-get_or table k d inside) ∙ s.0) in
    let found : Topped table k (Fork l k e r) (slice_index_or table k d) = record {
      left = l;
      right = r;
      is = ap (λ x. Fork l k x r) (sym (ap (λ (n : Node). n.entry) same));
      left_is = sym (ap (λ (n : Node). n.left) same);
      right_is = sym (ap (λ (n : Node). n.right) same);
      height = ap (λ (n : Node). n.height) same;
      inside = inside;
      place = s.1;
      stands_left = s.2;
      stands_right = s.3;
    } in
    subst (λ j. Topped table j (Fork l k e r) (slice_index_or table j d)) is found

pub inside_at : (table : List Node) (t : Tree) (i : ℕ) → Stands table t → root_of t ≡ i → (i ≡ no_node → ⊥) → i < length table
inside_at table Leaf i s is not = absurd (not (sym is))
inside_at table (Fork l k e r) i s is not = rw (sym is) (slice_get_within table k _ s.0)

-- what the prover reads past a table's end
abbrev pub zero_node : Node
zero_node = record { entry = record { span = record { start = record { 0 = 0 }; size = 0 }; slot = 0 }; left = 0; right = 0; height = 0 }

-- the table keeps the height of a tree
pub height_is : (table : List Node) (t : Tree) → Stands table t → height_at table (root_of t) ≡ height_of t
height_is table Leaf p = refl
height_is table (Fork l k e r) p = rw (ne_eqb k no_node (λ h. omega (arith, h, p.1))) (ap height_in p.0)

-- the sides of a node are lower than it
pub lower : {table : List Node} {i : ℕ} {t : Tree} {n : Node} → (z : Topped table i t n) → Stands table t → root_of t ≡ i → (height_at table n.left < height_at table i) × (height_at table n.right < height_at table i)
lower {table} {i} {t} {n} z s is =
    let height : height_at table i ≡ height_of (Fork z.left i n.entry z.right) = ap (height_at table) (sym is) ∙ height_is table t s ∙ ap height_of z.is in
    let left : height_at table n.left ≡ height_of z.left = ap (height_at table) (sym z.left_is) ∙ height_is table z.left z.stands_left in
    let right : height_at table n.right ≡ height_of z.right = ap (height_at table) (sym z.right_is) ∙ height_is table z.right z.stands_right in
    (omega (arith, height, left), omega (arith, height, right))

-- a tree with a node at its top
pub record Forked (t : Tree) (i : ℕ) : Type 0 where
  pub left : Tree
  pub entry : Entry
  pub right : Tree
  pub is : t ≡ Fork left i entry right

pub forked_at : (t : Tree) (i : ℕ) → root_of t ≡ i → (i ≡ no_node → ⊥) → Forked t i
forked_at Leaf i h not = absurd (not (sym h))
forked_at (Fork l k e r) i h not = record { left = l; entry = e; right = r; is = rw h refl }
