use Rattle.std.proofs.Common.{◌≡◌, ℕ, ◌-◌, ◌<◌, List, [], ◌∷◌, ◌++◌, length, take, Some, None, Result, Ok, Err, refl, sym, ap, subst, ◌∙◌, arith}
use Rattle.std.specs.Prelude.{find, slice_get, slice_index_or}
use Rattle.std.proofs.lemmas.Option.{slice_get-get_or}
use Rattle.km_map.specs.declared.entries.Entry.{Entry}
use Rattle.km_map.specs.Entries.{meets, slot_where, with_entry, IsRising}
use Rattle.km_map.proofs.Places.{none_below}
use Rattle.km_map.proofs.Rising.{none_parts, apart_cases, rising-with}
use Rattle.km_tree.specs.declared.node.Node.{Node}
use Rattle.km_tree.specs.Tables.{Sides, Made, AnyBeside, Tried}
use Rattle.km_tree.specs.Trees.{IsLevel, Tree, Leaf, entries_of, one, no_node, hung}
use Rattle.km_tree.specs.Maps.{tree_at, next_in, Chained, Kept, AnyKept, AnyRoom, Ready}
use Rattle.km_tree.proofs.Finds.{or_else_none}
use Rattle.km_tree.proofs.Levels.{hung_level}
use Rattle.km_tree.proofs.Orders.{StartsApart, entries-hung}
use Rattle.km_tree.proofs.Weights.{weigh-hung}
use Rattle.km_tree.proofs.Maps.{tree_is, chained_on, whole}

-- no entry starts where one does that meets none
starts_apart : (e : Entry) (es : List Entry) → 0 < e.span.size → IsRising es → find (meets e.span) es ≡ None → StartsApart e.span.start.0 es
starts_apart e [] z r n = tt
starts_apart e (x ∷ xs) z r n =
    let p = none_parts (meets e.span) x xs n in
    ((λ w. absurd (omega (arith, w, r.0, apart_cases e.span x p.0 (λ h. omega (arith, h, w, z))))), starts_apart e xs z r.2 p.1)

-- a map once an entry came that met none
pub record Inserted (table : List Node) (root free room capacity : ℕ) (e : Entry) (es : List Entry) : Type 0 where
  pub apart : slot_where (meets e.span) es ≡ None
  pub kept : AnyKept table root free room capacity
  pub entries : entries_of (tree_at table root) ≡ with_entry e es
  pub rising : IsRising (entries_of (tree_at table root))

inserted : {table end : List Node} {tree : Tree} {rest : List ℕ} {root free room capacity top : ℕ} (e : Entry) (es : List Entry) (node : Node) → node ≡ slice_index_or table free node → Kept table tree (free ∷ rest) root free room capacity → 0 < room
    → Made table end (hung free e tree) top → entries_of tree ≡ es → 0 < e.span.size → slot_where (meets e.span) es ≡ None → Inserted end top node.left (room - 1) capacity e es
inserted {table} {end} {tree} {rest} {free = free} {top = top} e es node read_is k more m is z apart =
    let off : find (meets e.span) (entries_of tree) ≡ None = ap (find (meets e.span)) is ∙ none_below (find (meets e.span) es) (sym apart) in
    let came : entries_of (hung free e tree) ≡ with_entry e (entries_of tree) = entries-hung free e tree k.rising (starts_apart e (entries_of tree) z k.rising off) in
    let rising : IsRising (entries_of (hung free e tree)) = subst IsRising (sym came) (rising-with e (entries_of tree) z off k.rising) in
    let read = ap entries_of (tree_is end (hung free e tree) top m.stands m.is) in
    let named : slice_get table free ≡ Some node = slice_get-get_or table free node k.chained.1 ∙ ap Some (sym read_is) in
    record {
      apart = apart;
      kept = record {
        tree = hung free e tree;
        spare = rest;
        kept = record {
          is = m.is;
          stands = m.stands;
          level = (hung_level free e tree k.level).0;
          rising = rising;
          chained = chained_on table end _ rest (subst (λ o. Chained table (next_in o) rest) named k.chained.3) (λ i p. m.rest i (omega (arith, p, k.once i, weigh-hung (λ k _. one i k) free e tree))) (omega (arith, m.same_length));
          once = λ i. omega (arith, k.once i, weigh-hung (λ k _. one i k) free e tree);
          small = omega (arith, k.small, more, weigh-hung (λ _ _. 1) free e tree);
          reach = omega (arith, k.reach, more, m.same_length);
          fits = omega (arith, k.fits, more, m.same_length);
        };
      };
      entries = read ∙ came ∙ ap (with_entry e) is;
      rising = subst IsRising (sym read) rising;
    }

pub any_room : {table : List Node} {root free room capacity : ℕ} → AnyKept table root free room capacity → 0 < room → AnyRoom table free capacity
any_room k more = record { root = _; room = _; more = more; any = k }

-- a map with a free place for an entry to come
pub record Readied (table : List Node) (root free room capacity : ℕ) (es : List Entry) : Type 0 where
  pub tree : Tree
  pub rest : List ℕ
  pub kept : Kept table tree (free ∷ rest) root free room capacity
  pub is : entries_of tree ≡ es
  pub beside : Sides table tree root free no_node Leaf

pub readied : {table mid : List Node} {root free room capacity new reserved : ℕ} {es : List Entry} → AnyKept table root free room capacity → 0 < room
    → ((tree : Tree) (spare : List ℕ) (root room : ℕ) → 0 < room → Kept table tree spare root free room capacity → Ready mid tree root new room reserved) → entries_of (tree_at table root) ≡ es → Readied mid root new room reserved es
readied {table} {root = root} {room = room} a more ready seen =
    let r = ready a.tree a.spare root room more a.kept in
    let k = r.kept in
    record {
      tree = a.tree;
      rest = r.rest;
      kept = k;
      is = ap entries_of (sym (tree_is table a.tree root a.kept.stands a.kept.is)) ∙ seen;
      beside = record { left_is = k.is; right_is = refl; left = k.stands; right = tt; once = λ i. omega (arith, k.once i); small = omega (arith, k.small, more); inside = k.chained.1; place = k.chained.2 };
    }

pub any_beside : {table lent : List Node} {root free room capacity : ℕ} {es : List Entry} → Readied table root free room capacity es → lent ≡ table → AnyBeside lent root free
any_beside {root = root} {free = free} r lends = record { tree = r.tree; beside = subst (λ t. Sides t r.tree root free no_node Leaf) (sym lends) r.beside; level = r.kept.level; rising = r.kept.rising }

-- what a try at the tree ensures
abbrev pub Tries : List Node → List Node → ℕ → ℕ → Entry → Result ℕ ℕ → Type 0
Tries old new root free e result = (t : Tree) → IsLevel t → IsRising (entries_of t) → Sides old t root free no_node Leaf → Tried old new free e t None result

tried : {table lent : List Node} {root free room capacity : ℕ} {es : List Entry} (done : List Node) (e : Entry) (result : Result ℕ ℕ) (r : Readied table root free room capacity es) → lent ≡ table → Tries lent done root free e result → Tried table done free e r.tree None result
tried {root = root} {free = free} done e result r lends tries = (subst (λ t. Tries t done root free e result) lends tries) r.tree r.kept.level r.kept.rising r.beside

-- a map as it was, since an entry meets one
pub record Refused (table : List Node) (root free room capacity : ℕ) (e : Entry) (es : List Entry) (slot : ℕ) : Type 0 where
  pub kept : AnyKept table root free room capacity
  pub entries : entries_of (tree_at table root) ≡ es
  pub rising : IsRising (entries_of (tree_at table root))
  pub met : slot_where (meets e.span) es ≡ Some slot

pub refused : {table lent done : List Node} (rest : List Node) {root free room capacity n slot : ℕ} (e : Entry) {es : List Entry} → Readied table root free room capacity es → lent ≡ table → Tries lent done root free e (Err slot) → n ≡ length table
    → Refused (take n (done ++ rest)) root free room capacity e es slot
refused {table} {done = done} rest {root} {free} {room} {capacity} {n} {slot} e {es} r lends tries long =
    let t = tried done e (Err slot) r lends tries in
    let same : take n (done ++ rest) ≡ table = whole n done rest (long ∙ ap length (sym t.1)) ∙ t.1 in
    let read : entries_of (tree_at table root) ≡ entries_of r.tree = ap entries_of (tree_is table r.tree root r.kept.stands r.kept.is) in
    subst (λ t. Refused t root free room capacity e es slot) (sym same) (record {
      kept = record { tree = r.tree; spare = free ∷ r.rest; kept = r.kept };
      entries = read ∙ r.is;
      rising = subst IsRising (sym read) r.kept.rising;
      met = ap (slot_where (meets e.span)) (sym r.is) ∙ (sym (or_else_none _) ∙ t.0);
    })

pub came : {table lent done : List Node} (rest : List Node) {root free room capacity n top : ℕ} (e : Entry) {es : List Entry} (node : Node) → node ≡ slice_index_or table free node → Readied table root free room capacity es → lent ≡ table → Tries lent done root free e (Ok top) → 0 < e.span.size → 0 < room → n ≡ length table
    → Inserted (take n (done ++ rest)) top node.left (room - 1) capacity e es
came {table} {done = done} rest {root} {free} {room} {capacity} {n} {top} e {es} node read_is r lends tries z more long =
    let t = tried done e (Ok top) r lends tries in
    let apart : slot_where (meets e.span) es ≡ None = ap (slot_where (meets e.span)) (sym r.is) ∙ (sym (or_else_none _) ∙ t.0) in
    subst (λ x. Inserted x top node.left (room - 1) capacity e es) (sym (whole n done rest (omega (arith, long, (t.1).same_length)))) (inserted e es node read_is r.kept more t.1 r.is z apart)
