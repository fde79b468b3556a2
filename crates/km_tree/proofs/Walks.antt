use Rattle.std.proofs.Common.{◌≡◌, ℕ, ◌≤◌, ◌<◌, List, length, Option, Some, None, refl, sym, ap, ◌∙◌, subst, ◌++◌, ◌∷◌}
use Rattle.std.specs.Prelude.{slice_index_or, find}
use Rattle.km_map.specs.declared.entries.Entry.{Entry}
use Rattle.km_map.specs.Entries.{IsRising, ends_behind, end_of}
use Rattle.km_tree.specs.declared.node.Node.{Node}
use Rattle.km_tree.specs.Tables.{TreeAt, Stands, height_at}
use Rattle.km_tree.specs.Trees.{Tree, root_of, entries_of, no_node, or_else}
use Rattle.km_tree.proofs.Finds.{or_else_none, ended_left, behind_left, first_here, rising-left, rising-right}
use Rattle.km_tree.proofs.Tables.{one_tree, leaf_at, lower, topped, Topped}

-- a search below a place: what it finds there, or else what it has found, is the answer
pub record Walk (table : List Node) (root a at : ℕ) (found : Option Entry) : Type 0 where
  pub here : TreeAt table at
  pub answer : (t : Tree) → root_of t ≡ root → Stands table t → IsRising (entries_of t) → or_else (find (ends_behind a) (entries_of here.tree)) found ≡ find (ends_behind a) (entries_of t)

or_else_twice : (o p q : Option Entry) → or_else (or_else o p) q ≡ or_else o (or_else p q)
or_else_twice None p q = refl
or_else_twice (Some e) p q = refl

pub starts : (table : List Node) (root a : ℕ) → TreeAt table root → Walk table root a root None
starts table root a h =
    record { here = h; answer = λ t is stands rising. or_else_none (find (ends_behind a) (entries_of h.tree)) ∙ ap (λ t. find (ends_behind a) (entries_of t)) (one_tree table h.tree t h.stands stands (h.is ∙ sym is)) }

pub ends : (table : List Node) (root a at : ℕ) (found : Option Entry) → Walk table root a at found → at ≡ no_node → (t : Tree) → root_of t ≡ root → Stands table t → IsRising (entries_of t) → found ≡ find (ends_behind a) (entries_of t)
ends table root a at found w done t is stands rising = ap (λ u. or_else (find (ends_behind a) (entries_of u)) found) (sym (leaf_at table w.here.tree w.here.stands (w.here.is ∙ done))) ∙ w.answer t is stands rising

-- the node where the walk stands, and the two ways on
pub record Step (table : List Node) (root a at : ℕ) (found : Option Entry) (n : Node) : Type 0 where
  pub inside : at < length table
  pub left : a < end_of n.entry → Walk table root a n.left (Some n.entry)
  pub right : end_of n.entry ≤ a → Walk table root a n.right found
  pub here : n.entry.span.start.0 ≤ a → a < end_of n.entry → (t : Tree) → root_of t ≡ root → Stands table t → IsRising (entries_of t) → Some n.entry ≡ find (ends_behind a) (entries_of t)
  pub lower_left : height_at table n.left < height_at table at
  pub lower_right : height_at table n.right < height_at table at

pub step : {table : List Node} {root a at : ℕ} {found : Option Entry} (d : Node) → Walk table root a at found → (at ≡ no_node → ⊥) → Step table root a at found (slice_index_or table at d)
step {table} {root} {a} {at} {found} d w not =
    let n = slice_index_or table at d in
    let z : Topped table at w.here.tree n = topped table at w.here.tree d w.here.stands w.here.is not in
    let l = entries_of z.left in
    let r = entries_of z.right in
    let e : Entry = n.entry in
    let rising : IsRising (l ++ e ∷ r) = subst (λ t. IsRising (entries_of t)) z.is w.here.rising in
    let answer : (t : Tree) → root_of t ≡ root → Stands table t → IsRising (entries_of t) → or_else (find (ends_behind a) (l ++ e ∷ r)) found ≡ find (ends_behind a) (entries_of t)
    = λ t x y v. ap (λ u. or_else (find (ends_behind a) (entries_of u)) found) (sym z.is) ∙ w.answer t x y v in
    record {
      inside = z.inside;
      left = λ lt. record { here = record { tree = z.left; is = z.left_is; stands = z.stands_left; rising = rising-left l (e ∷ r) rising }; answer = λ t x y v. sym (or_else_twice (find (ends_behind a) l) (Some e) found) ∙ ap (λ o. or_else o found) (sym (behind_left a l e r lt)) ∙ answer t x y v };
      right = λ le. record { here = record { tree = z.right; is = z.right_is; stands = z.stands_right; rising = (rising-right l (e ∷ r) rising).2 }; answer = λ t x y v. ap (λ o. or_else o found) (sym (ended_left a l e r rising le)) ∙ answer t x y v };
      here = λ le lt t x y v. ap (λ o. or_else o found) (sym (first_here a l e r rising le lt)) ∙ answer t x y v;
      lower_left = (lower z w.here.stands w.here.is).0;
      lower_right = (lower z w.here.stands w.here.is).1;
    }
