use Rattle.std.proofs.Common.{◌≡◌, ℕ, zero, suc, ◌+◌, ◌^◌, ◌<◌, ◌≤◌, true, false, ltb, eqb, cond, List, [], ◌∷◌, ◌++◌, length, take, Option, Some, refl, sym, ap, subst, ◌∙◌, arith, length-append}
use Rattle.std.specs.Prelude.{slice_get, slice_index_or, find}
use Rattle.std.proofs.Math.Seq.{take-append_seam}
use Rattle.std.proofs.lemmas.Bool.{ltb-true, ltb-false, ne_eqb, eqb-true}
use Rattle.std.proofs.lemmas.List.{get_or_push}
use Rattle.std.proofs.lemmas.Option.{slice_get_within, slice_get-get_or}
use Rattle.km_map.specs.declared.entries.Entry.{Entry}
use Rattle.km_map.specs.Entries.{ends_behind, IsRising}
use Rattle.km_tree.specs.declared.node.Node.{Node}
use Rattle.km_tree.specs.Tables.{Stands, height_at}
use Rattle.km_tree.specs.Trees.{Tree, Leaf, Fork, root_of, entries_of, height_of, uses, no_node}
use Rattle.km_tree.specs.Maps.{read, tree_at, next_in, Chained, times, Kept, AnyKept, Ready}
use Rattle.km_tree.proofs.Tables.{height_is}
use Rattle.km_tree.proofs.Shapes.{one_at, one_off, stays}

-- what is read is what stands there

read_is : (n : ℕ) (table : List Node) (t : Tree) → Stands table t → height_of t ≤ n → read n table (root_of t) ≡ t
read_is zero table Leaf s h = refl
read_is zero table (Fork l k e r) s h = absurd (omega (arith, h))
read_is (suc n) table Leaf s h = refl
read_is (suc n) table (Fork l k e r) s h =
    rw (ne_eqb k no_node (λ w. omega (arith, w, s.1)), s.0, read_is n table l s.2 (omega (arith, h)), read_is n table r s.3 (omega (arith, h))) refl

pub tree_is : (table : List Node) (t : Tree) (root : ℕ) → Stands table t → root_of t ≡ root → tree_at table root ≡ t
tree_is table t root s h = subst (λ i. tree_at table i ≡ t) h (read_is (height_at table (root_of t)) table t s (omega (arith, height_is table t s)))

-- the places of a tree

beyond : (table : List Node) (t : Tree) (i : ℕ) → Stands table t → length table ≤ i → uses i t ≡ 0
beyond table Leaf i s h = refl
beyond table (Fork l k e r) i s h = omega (arith, one_off i k (λ w. omega (arith, w, h, slice_get_within table k _ s.0)), beyond table l i s.2 h, beyond table r i s.3 h)

beyond_none : (table : List Node) (t : Tree) (i : ℕ) → Stands table t → no_node ≤ i → uses i t ≡ 0
beyond_none table Leaf i s h = refl
beyond_none table (Fork l k e r) i s h = omega (arith, one_off i k (λ w. omega (arith, w, h, s.1)), beyond_none table l i s.2 h, beyond_none table r i s.3 h)

not_from : (a b : ℕ) → (b ≤ a → ⊥) → a < b
not_from a b h = elim (ltb a b) as (λ t. ltb a b ≡ t → a < b) [ true ↦ λ w. ltb-true _ _ w | false ↦ λ w. absurd (h (ltb-false _ _ w)) ] refl

pub inside_of : (table : List Node) (t : Tree) (i : ℕ) → Stands table t → 0 < uses i t → (i < length table) × (i < no_node)
inside_of table t i s h = (not_from i (length table) (λ w. omega (arith, h, beyond table t i s w)), not_from i no_node (λ w. omega (arith, h, beyond_none table t i s w)))

-- free places stay chained where they have not changed
pub chained_on : (old new : List Node) (i : ℕ) (ks : List ℕ) → Chained old i ks → ((j : ℕ) → 0 < times j ks → slice_get new j ≡ slice_get old j) → length old ≤ length new → Chained new i ks
chained_on old new i [] c h l = c
chained_on old new i (k ∷ ks) c h l =
    (c.0, omega (arith, c.1, l), c.2, subst (λ o. Chained new (next_in o) ks) (sym (h k (omega (arith, one_at k k refl)))) (chained_on old new _ ks c.3 (λ j p. h j (omega (arith, p))) l))

slice_get-push : (xs : List Node) (x : Node) (i : ℕ) → i < length xs → slice_get (xs ++ x ∷ []) i ≡ slice_get xs i
slice_get-push [] x i h = absurd (omega (arith, h))
slice_get-push (y ∷ xs) x zero h = refl
slice_get-push (y ∷ xs) x (suc i) h = slice_get-push xs x i (omega (arith, h))

-- a place that is free
pub ready_free : (table : List Node) (tree : Tree) (spare : List ℕ) (root free room capacity : ℕ) → Kept table tree spare root free room capacity → (free ≡ no_node → ⊥) → Ready table tree root free room capacity
ready_free table tree [] root free room capacity k not = absurd (not k.chained)
ready_free table tree (i ∷ ks) root free room capacity k not = record { rest = ks; kept = subst (λ p. Kept table tree (p ∷ ks) root free room capacity) (sym k.chained.0) k }

-- where no place is free, there is room behind the table
pub none_free : (table : List Node) (tree : Tree) (spare : List ℕ) (root free room capacity : ℕ) → Kept table tree spare root free room capacity → free ≡ no_node → spare ≡ []
none_free table tree [] root free room capacity k h = refl
none_free table tree (i ∷ ks) root free room capacity k h = absurd (omega (arith, h, k.chained.0, k.chained.2))

pub ready_new : (table new : List Node) (tree : Tree) (spare : List ℕ) (root free room capacity reserved place : ℕ) (x : Node) → Kept table tree spare root free room capacity → 0 < room → free ≡ no_node → new ≡ table ++ x ∷ [] → x.left ≡ no_node → place ≡ length table → capacity ≤ reserved → Ready new tree root place room reserved
ready_new table new tree spare root free room capacity reserved place x k more h made last at grown =
    let empty : length spare ≡ 0 = ap length (none_free table tree spare root free room capacity k h) in
    let long : length new ≡ length table + 1 = ap length made ∙ length-append table (x ∷ []) in
    let node : slice_get new place ≡ Some x = slice_get-get_or new place x (omega (arith, long, at)) ∙ ap Some (ap (λ t. slice_index_or t place x) made ∙ get_or_push table x x place (sym at)) in
    record {
      rest = [];
      kept = record {
        is = k.is;
        stands = stays table new tree k.stands (λ i p. ap (λ t. slice_get t i) made ∙ slice_get-push table x i (inside_of table tree i k.stands p).0);
        level = k.level;
        rising = k.rising;
        chained = (refl, omega (arith, long, at), omega (arith, k.fits, empty, at, more), ap next_in node ∙ last);
        once = λ j. elim (eqb j place) as (λ b. eqb j place ≡ b → uses j tree + (cond b 1 0 + 0) ≤ 1) [
          | true ↦ λ w. omega (arith, beyond table tree j k.stands (omega (arith, eqb-true _ _ w, at)))
          | false ↦ λ w. omega (arith, k.once j)
        ] refl;
        small = k.small;
        reach = omega (arith, k.reach, empty, long, grown);
        fits = omega (arith, k.fits, empty, long);
      };
    }

-- what a vector holds once its slice was changed
pub whole : (n : ℕ) (xs ys : List Node) → n ≡ length xs → take n (xs ++ ys) ≡ xs
whole n xs ys h = rw h (take-append_seam xs ys)

-- an empty map
pub empty : {table : List Node} {room capacity : ℕ} → table ≡ [] → room < 2 ^ 32 → room ≤ capacity → AnyKept table no_node no_node room capacity
empty {table} {room} {capacity} h small reach =
    let none : length table ≡ 0 = ap length h in
    record {
      tree = Leaf;
      spare = [];
      kept = record { is = refl; stands = tt; level = tt; rising = tt; chained = refl; once = λ i. omega arith; small = omega (arith, small); reach = omega (arith, reach, none); fits = omega (arith, small, none) };
    }

-- what a query reads: the entries rise, and a search gives the first that ends behind an address
pub record Seen (es : List Entry) (a : ℕ) (found : Option Entry) : Type 0 where
  pub rising : IsRising es
  pub first : find (ends_behind a) es ≡ found

pub rises : {table : List Node} {root free room capacity : ℕ} {es : List Entry} → AnyKept table root free room capacity → entries_of (tree_at table root) ≡ es → IsRising es
rises {table} {root} any seen = let k = any.kept in subst IsRising (ap entries_of (sym (tree_is table any.tree root k.stands k.is)) ∙ seen) k.rising

pub sees : {table lent : List Node} {root free room capacity a : ℕ} {found : Option Entry} {es : List Entry} → AnyKept table root free room capacity → lent ≡ table → entries_of (tree_at table root) ≡ es
    → ((t : Tree) → root_of t ≡ root → Stands lent t → IsRising (entries_of t) → found ≡ find (ends_behind a) (entries_of t)) → Seen es a found
sees {table} {lent} {root} {a = a} {found} {es} any lends seen search_ =
    let k = any.kept in
    let tree = any.tree in
    let is : entries_of tree ≡ es = ap entries_of (sym (tree_is table tree root k.stands k.is)) ∙ seen in
    record { rising = rises any seen; first = sym (search_ tree k.is (subst (λ t. Stands t tree) (sym lends) k.stands) k.rising ∙ ap (find (ends_behind a)) is) }
