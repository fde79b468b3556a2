use Rattle.std.proofs.Common.{◌≡◌, ℕ, ◌+◌, ◌^◌, ◌<◌, ◌≤◌, List, ◌∷◌, ◌++◌, length, Option, Some, refl, sym, ap, subst, ◌∙◌, arith}
use Rattle.std.specs.Prelude.{slice_index_or}
use Rattle.std.proofs.lemmas.Bool.{eq-eqb, ne_eqb, lt-ltb, le-ltb}
use Rattle.std.proofs.lemmas.Option.{slice_get_within}
use Rattle.km_map.specs.declared.entries.Entry.{Entry}
use Rattle.km_map.specs.Entries.{end_of, IsRising}
use Rattle.km_tree.specs.declared.node.Node.{Node}
use Rattle.km_tree.specs.declared.node.Placed.{Placed}
use Rattle.km_tree.specs.Tables.{OverLeft, OverRight, Stands, Held, Sides, Pair, Made, height_at}
use Rattle.km_tree.specs.Trees.{IsLevel, height_of, Tree, Leaf, Fork, size_of, weigh, uses, one, no_node, entries_of, or_else, met_by, met_in, levelled, hung, lowest, joined, unhung, gone}
use Rattle.km_tree.proofs.Finds.{rising-left, rising-right, met_left, met_here, met_right}
use Rattle.km_tree.proofs.Tables.{Topped, topped, Forked, forked_at, lower}
use Rattle.km_tree.proofs.Shapes.{one_at, split, held_left, side_left, side_right, stays, after, made_as}
use Rattle.km_tree.proofs.Weights.{weigh-levelled, weigh-hung, weigh-lowest, weigh-unhung}

levelled_after : {table mid new : List Node} {a b : ℕ} (t : Tree) (k : ℕ) (e : Entry) (u : Tree) → Made table mid t a → Made mid new (levelled t k e u) b → Made table new (levelled t k e u) b
levelled_after t k e u p q = after p q (λ i w. omega (arith, w, weigh-levelled (λ k _. one i k) t k e u))

levelled_behind : {table mid new : List Node} {a b : ℕ} (t : Tree) (k : ℕ) (e : Entry) (u : Tree) → Made table mid u a → Made mid new (levelled t k e u) b → Made table new (levelled t k e u) b
levelled_behind t k e u p q = after p q (λ i w. omega (arith, w, weigh-levelled (λ k _. one i k) t k e u))

-- a level node stands where one of its sides was made anew

over_left : {table mid : List Node} {l m : Tree} {i root j a before : ℕ} {e : Entry} {r : Tree} → Stands table (Fork l root e r) → Sides table l i root j r → IsLevel (Fork l root e r) → Made table mid m a → ((i : ℕ) → uses i m + one i root + uses i r ≤ 1) → size_of m + 1 + size_of r < 2 ^ 32 → before ≡ height_of l
    → OverLeft mid before a root l m e r
over_left {mid = mid} {m = m} {root = root} {a = a} {r = r} stands s level w once small h =
    record {
      node = w.rest root (omega (arith, once root, one_at root root refl)) ∙ stands.0;
      sides = subst (λ k. Sides mid m a root k r) (sym s.right_is) (side_left s w once small);
      height = h;
      low = level.0;
      high = level.1;
    }

over_right : {table mid : List Node} {l : Tree} {i root j a before : ℕ} {e : Entry} {r m : Tree} → Stands table (Fork l root e r) → Sides table l i root j r → IsLevel (Fork l root e r) → Made table mid m a → ((i : ℕ) → uses i l + one i root + uses i m ≤ 1) → size_of l + 1 + size_of m < 2 ^ 32 → before ≡ height_of r
    → OverRight mid before a root l e r m
over_right {mid = mid} {l = l} {root = root} {a = a} {m = m} stands s level w once small h =
    record {
      node = w.rest root (omega (arith, once root, one_at root root refl)) ∙ stands.0;
      sides = subst (λ k. Sides mid l k root a m) (sym s.left_is) (side_right s w once small);
      height = h;
      low = level.0;
      high = level.1;
    }

-- a node at which a new entry goes left or right
pub record Hangs (table : List Node) (t : Tree) (root new : ℕ) (e : Entry) (n : Node) : Type 0 where
  pub left : Tree
  pub right : Tree
  pub left_beside : Sides table left n.left new no_node Leaf
  pub right_beside : Sides table right n.right new no_node Leaf
  pub left_lower : height_at table n.left < height_at table root
  pub right_lower : height_at table n.right < height_at table root
  pub sides : Sides table left n.left root n.right right
  pub left_level : IsLevel left
  pub right_level : IsLevel right
  pub left_over : (mid : List Node) (a before : ℕ) → before ≡ height_of left → Made table mid (hung new e left) a → OverLeft mid before a root left (hung new e left) n.entry right
  pub right_over : (mid : List Node) (a before : ℕ) → before ≡ height_of right → Made table mid (hung new e right) a → OverRight mid before a root left n.entry right (hung new e right)
  pub left_rising : IsRising (entries_of t) → IsRising (entries_of left)
  pub right_rising : IsRising (entries_of t) → IsRising (entries_of right)
  pub left_met : (other : Option ℕ) → IsRising (entries_of t) → e.span.start.0 < n.entry.span.start.0 → met_in e.span (met_by e.span other n.entry) left ≡ met_in e.span other t
  pub here_met : (other : Option ℕ) → IsRising (entries_of t) → 0 < e.span.size → n.entry.span.start.0 ≤ e.span.start.0 → e.span.start.0 < end_of n.entry → met_in e.span other t ≡ Some n.entry.slot
  pub right_met : (other : Option ℕ) → IsRising (entries_of t) → end_of n.entry ≤ e.span.start.0 → met_in e.span other right ≡ met_in e.span other t
  pub left_done : (mid end : List Node) (a b : ℕ) → e.span.start.0 < n.entry.span.start.0 → Made table mid (hung new e left) a → Made mid end (levelled (hung new e left) root n.entry right) b → Made table end (hung new e t) b
  pub right_done : (mid end : List Node) (a b : ℕ) → n.entry.span.start.0 ≤ e.span.start.0 → Made table mid (hung new e right) a → Made mid end (levelled left root n.entry (hung new e right)) b → Made table end (hung new e t) b

pub hangs : {table : List Node} {t : Tree} {root new : ℕ} (e : Entry) (d : Node) → IsLevel t → Sides table t root new no_node Leaf → (root ≡ no_node → ⊥) → Hangs table t root new e (slice_index_or table root d)
hangs {table} {t} {root} {new} e d flat h not =
    let n = slice_index_or table root d in
    let z : Topped table root t n = topped table root t d h.left h.left_is not in
    let s = split (held_left h) z in
    let l = z.left in
    let r = z.right in
    let once : (i : ℕ) → uses i l + one i root + uses i r + one i new ≤ 1 = λ i. let o : uses i (Fork l root n.entry r) + one i new ≤ 1 = subst (λ x. uses i x + one i new ≤ 1) z.is (omega (arith, h.once i)) in omega (arith, o) in
    let small : size_of l + 1 + size_of r + 1 < 2 ^ 32 = let o : size_of (Fork l root n.entry r) + 1 < 2 ^ 32 = subst (λ x. size_of x + 1 < 2 ^ 32) z.is (omega (arith, h.small)) in omega (arith, o) in
    let falls = lower z h.left h.left_is in
    let stands : Stands table (Fork l root n.entry r) = subst (Stands table) z.is h.left in
    let level : IsLevel (Fork l root n.entry r) = subst IsLevel z.is flat in
    let risen : IsRising (entries_of t) → IsRising (entries_of l ++ n.entry ∷ entries_of r) = λ up. subst (λ x. IsRising (entries_of x)) z.is up in
    record {
      left = l;
      right = r;
      sides = s;
      left_level = level.2;
      right_level = level.3;
      left_beside = record { left_is = z.left_is; right_is = refl; left = z.stands_left; right = tt; once = λ i. omega (arith, once i); small = omega (arith, small); inside = h.inside; place = h.place };
      right_beside = record { left_is = z.right_is; right_is = refl; left = z.stands_right; right = tt; once = λ i. omega (arith, once i); small = omega (arith, small); inside = h.inside; place = h.place };
      left_lower = falls.0;
      right_lower = falls.1;
      left_over = λ mid a before same w. over_left stands s level w (λ i. omega (arith, once i, weigh-hung (λ k _. one i k) new e l)) (omega (arith, small, weigh-hung (λ _ _. 1) new e l)) same;
      right_over = λ mid a before same w. over_right stands s level w (λ i. omega (arith, once i, weigh-hung (λ k _. one i k) new e r)) (omega (arith, small, weigh-hung (λ _ _. 1) new e r)) same;
      left_rising = λ up. rising-left (entries_of l) _ (risen up);
      right_rising = λ up. (rising-right (entries_of l) (n.entry ∷ entries_of r) (risen up)).2;
      left_met = λ other up lt. met_left e.span (entries_of l) n.entry (entries_of r) other (risen up) lt ∙ ap (met_in e.span other) (sym z.is);
      here_met = λ other up pos le lt. ap (met_in e.span other) z.is ∙ ap (λ o. or_else o other) (met_here e.span (entries_of l) n.entry (entries_of r) (risen up) pos le lt);
      right_met = λ other up le. ap (λ o. or_else o other) (met_right e.span (entries_of l) n.entry (entries_of r) (risen up) le) ∙ ap (met_in e.span other) (sym z.is);
      left_done = λ mid end a b lt p q. made_as (sym (ap (hung new e) z.is ∙ (rw (lt-ltb _ _ lt) refl))) (levelled_after (hung new e l) root n.entry r p q);
      right_done = λ mid end a b le p q. made_as (sym (ap (hung new e) z.is ∙ (rw (le-ltb _ _ le) refl))) (levelled_behind l root n.entry (hung new e r) p q);
    }

pub pair_of : {table : List Node} {t : Tree} {l k r : ℕ} {u : Tree} → Sides table t l k r u → Pair table t l r u
pair_of s = record { left_is = s.left_is; right_is = s.right_is; left = s.left; right = s.right; once = λ i. omega (arith, s.once i); small = omega (arith, s.small) }

-- a node at which the search for what is to go ends, or goes left or right
pub record Unhangs (table : List Node) (t : Tree) (root s : ℕ) (n : Node) : Type 0 where
  pub left : Tree
  pub right : Tree
  pub sides : Sides table left n.left root n.right right
  pub left_lower : height_at table n.left < height_at table root
  pub right_lower : height_at table n.right < height_at table root
  pub left_level : IsLevel left
  pub right_level : IsLevel right
  pub left_over : (mid : List Node) (a before : ℕ) → before ≡ height_of left → Made table mid (unhung s left) a → OverLeft mid before a root left (unhung s left) n.entry right
  pub right_over : (mid : List Node) (a before : ℕ) → before ≡ height_of right → Made table mid (unhung s right) a → OverRight mid before a root left n.entry right (unhung s right)
  pub here : (end : List Node) (b : ℕ) → s ≡ n.entry.span.start.0 → Made table end (joined left right) b → (Some (record { place = root; entry = n.entry }) ≡ gone s t) × Made table end (unhung s t) b
  pub left_done : (mid end : List Node) (a b : ℕ) (p : Option Placed) → s < n.entry.span.start.0 → p ≡ gone s left → Made table mid (unhung s left) a → Made mid end (levelled (unhung s left) root n.entry right) b → (p ≡ gone s t) × Made table end (unhung s t) b
  pub right_done : (mid end : List Node) (a b : ℕ) (p : Option Placed) → n.entry.span.start.0 < s → p ≡ gone s right → Made table mid (unhung s right) a → Made mid end (levelled left root n.entry (unhung s right)) b → (p ≡ gone s t) × Made table end (unhung s t) b

pub unhangs : {table : List Node} {t : Tree} {root : ℕ} (s : ℕ) (d : Node) → IsLevel t → Held table t root → (root ≡ no_node → ⊥) → Unhangs table t root s (slice_index_or table root d)
unhangs {table} {t} {root} s d flat h not =
    let n = slice_index_or table root d in
    let z : Topped table root t n = topped table root t d h.stands h.is not in
    let x = split h z in
    let l = z.left in
    let r = z.right in
    let falls = lower z h.stands h.is in
    let stands : Stands table (Fork l root n.entry r) = subst (Stands table) z.is h.stands in
    let level : IsLevel (Fork l root n.entry r) = subst IsLevel z.is flat in
    record {
      left = l;
      right = r;
      sides = x;
      left_level = level.2;
      right_level = level.3;
      left_lower = falls.0;
      right_lower = falls.1;
      left_over = λ mid a before same w. over_left stands x level w (λ i. omega (arith, x.once i, weigh-unhung (λ k _. one i k) s l)) (omega (arith, x.small, weigh-unhung (λ _ _. 1) s l)) same;
      right_over = λ mid a before same w. over_right stands x level w (λ i. omega (arith, x.once i, weigh-unhung (λ k _. one i k) s r)) (omega (arith, x.small, weigh-unhung (λ _ _. 1) s r)) same;
      here = λ end b same w. (sym (ap (gone s) z.is ∙ (rw (eq-eqb _ _ same) refl)), made_as (sym (ap (unhung s) z.is ∙ (rw (eq-eqb _ _ same) refl))) w);
      left_done = λ mid end a b p lt g v w.
          let off = ne_eqb s n.entry.span.start.0 (λ e. omega (arith, e, lt)) in
          (g ∙ sym (ap (gone s) z.is ∙ (rw (off, lt-ltb _ _ lt) refl)), made_as (sym (ap (unhung s) z.is ∙ (rw (off, lt-ltb _ _ lt) refl))) (levelled_after (unhung s l) root n.entry r v w));
      right_done = λ mid end a b p gt g v w.
          let off = ne_eqb s n.entry.span.start.0 (λ e. omega (arith, e, gt)) in
          let behind = le-ltb s n.entry.span.start.0 (omega (arith, gt)) in
          (g ∙ sym (ap (gone s) z.is ∙ (rw (off, behind) refl)), made_as (sym (ap (unhung s) z.is ∙ (rw (off, behind) refl))) (levelled_behind l root n.entry (unhung s r) v w));
    }

-- the lowest place of a tree is in the table
lowest_inside : (table : List Node) (a : Tree) (k : ℕ) (e : Entry) (b : Tree) → Stands table (Fork a k e b) → ((lowest a k e b).0 < length table) × ((lowest a k e b).0 < no_node)
lowest_inside table Leaf k e b s = (slice_get_within table k _ s.0, s.1)
lowest_inside table (Fork c j f d) k e b s = lowest_inside table c j f d s.2

-- a node whose left side has the lowest
pub record Lowers (table : List Node) (l : Tree) (i : ℕ) (e : Entry) (r : Tree) (n : Node) : Type 0 where
  pub left : Tree
  pub entry : Entry
  pub right : Tree
  pub held : Held table (Fork left n.left entry right) n.left
  pub falls : height_at table n.left < height_at table i
  pub level : IsLevel (Fork left n.left entry right)
  pub over : (mid : List Node) (a before : ℕ) → before ≡ height_of (Fork left n.left entry right) → Made table mid (lowest left n.left entry right).2 a → OverLeft mid before a i (Fork left n.left entry right) (lowest left n.left entry right).2 e r
  pub done : (mid end : List Node) (a b p : ℕ) (x : Entry) → p ≡ (lowest left n.left entry right).0 → x ≡ (lowest left n.left entry right).1 → Made table mid (lowest left n.left entry right).2 a
      → Made mid end (levelled (lowest left n.left entry right).2 i e r) b → (p ≡ (lowest l i e r).0) × (x ≡ (lowest l i e r).1) × Made table end (lowest l i e r).2 b

pub lowers : {table : List Node} {l : Tree} {i : ℕ} {e : Entry} {r : Tree} (d : Node) → IsLevel (Fork l i e r) → Held table (Fork l i e r) i → ((slice_index_or table i d).left ≡ no_node → ⊥) → Lowers table l i e r (slice_index_or table i d)
lowers {table} {l} {i} {e} {r} d flat h not =
    let n = slice_index_or table i d in
    let z : Topped table i (Fork l i e r) n = topped table i (Fork l i e r) d h.stands h.is (λ w. omega (arith, w, h.stands.1)) in
    let left : z.left ≡ l = cc in
    let right : z.right ≡ r = cc in
    let s : Sides table l n.left i n.right r = subst (λ x. Sides table x n.left i n.right r) left (subst (λ x. Sides table z.left n.left i n.right x) right (split h z)) in
    let f : Forked l n.left = forked_at l n.left s.left_is not in
    let low = lowest f.left n.left f.entry f.right in
    let g : Sides table (Fork f.left n.left f.entry f.right) n.left i n.right r = subst (λ x. Sides table x n.left i n.right r) f.is s in
    let stands : Stands table (Fork (Fork f.left n.left f.entry f.right) i e r) = subst (λ x. Stands table (Fork x i e r)) f.is h.stands in
    let level : IsLevel (Fork (Fork f.left n.left f.entry f.right) i e r) = subst (λ x. IsLevel (Fork x i e r)) f.is flat in
    record {
      left = f.left;
      entry = f.entry;
      right = f.right;
      held = held_left g;
      falls = (lower z h.stands h.is).0;
      level = level.2;
      over = λ mid a before same w. over_left stands g level w (λ j. omega (arith, g.once j, weigh-lowest (λ k _. one j k) f.left n.left f.entry f.right)) (omega (arith, g.small, weigh-lowest (λ _ _. 1) f.left n.left f.entry f.right)) same;
      done = λ mid end a b p x q y v w.
          subst (λ t. (p ≡ (lowest t i e r).0) × (x ≡ (lowest t i e r).1) × Made table end (lowest t i e r).2 b) (sym f.is) (q, y, levelled_after low.2 i e r v w);
    }

-- two trees, the second of which has a lowest node
pub record Joins (table : List Node) (t : Tree) (l r : ℕ) (u : Tree) : Type 0 where
  pub left : Tree
  pub entry : Entry
  pub right : Tree
  pub held : Held table (Fork left r entry right) r
  pub level : IsLevel (Fork left r entry right)
  pub sides : (mid : List Node) (a p : ℕ) → p ≡ (lowest left r entry right).0 → Made table mid (lowest left r entry right).2 a → Sides mid t l p a (lowest left r entry right).2
  pub done : (mid end : List Node) (a b p : ℕ) (x : Entry) → p ≡ (lowest left r entry right).0 → x ≡ (lowest left r entry right).1 → Made table mid (lowest left r entry right).2 a
      → Made mid end (levelled t p x (lowest left r entry right).2) b → Made table end (joined t u) b

pub joins : {table : List Node} {t : Tree} {l r : ℕ} {u : Tree} → IsLevel u → Pair table t l r u → (r ≡ no_node → ⊥) → Joins table t l r u
joins {table} {t} {l} {r} {u} flat h not =
    let f : Forked u r = forked_at u r h.right_is not in
    let g : Pair table t l r (Fork f.left r f.entry f.right) = subst (λ x. Pair table t l r x) f.is h in
    let low = lowest f.left r f.entry f.right in
    let weight : (q : ℕ → Entry → ℕ) → q low.0 low.1 + weigh q low.2 ≡ weigh q f.left + q r f.entry + weigh q f.right = λ q. weigh-lowest q f.left r f.entry f.right in
    let inside = lowest_inside table f.left r f.entry f.right g.right in
    record {
      left = f.left;
      entry = f.entry;
      right = f.right;
      level = subst IsLevel f.is flat;
      held = record { is = refl; stands = g.right; once = λ i. omega (arith, g.once i); small = omega (arith, g.small) };
      sides = λ mid a p q w. subst (λ k. Sides mid t l k a low.2) (sym q) (record {
        left_is = g.left_is;
        right_is = w.is;
        left = stays table mid t g.left (λ i m. w.rest i (omega (arith, m, g.once i, weight (λ k _. one i k))));
        right = w.stands;
        once = λ i. omega (arith, g.once i, weight (λ k _. one i k));
        small = omega (arith, g.small, weight (λ _ _. 1));
        inside = omega (arith, inside.0, w.same_length);
        place = inside.1;
      });
      done = λ mid end a b p x q y v w.
          let made : Made table end (levelled t low.0 low.1 low.2) b = subst (λ k. Made table end (levelled t k low.1 low.2) b) q (subst (λ o. Made table end (levelled t p o low.2) b) y (levelled_behind t p x low.2 v w)) in
          subst (λ s. Made table end (joined t s) b) (sym f.is) made;
    }
