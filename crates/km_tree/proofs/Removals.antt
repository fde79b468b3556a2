use Rattle.std.proofs.Common.{◌≡◌, ℕ, ◌+◌, ◌^◌, ◌<◌, ◌≤◌, true, false, ltb, eqb, cond, List, [], ◌∷◌, ◌++◌, length, take, Option, Some, None, option_map, refl, sym, ap, subst, ◌∙◌, arith}
use Rattle.std.specs.Prelude.{slice_get, slice_set, find}
use Rattle.std.proofs.Math.ListN.{length-set}
use Rattle.std.proofs.lemmas.Bool.{ltb-true, ltb-false, ne_eqb, eq-eqb, eqb-true, eqb-false}
use Rattle.km_map.specs.declared.entries.Entry.{Entry}
use Rattle.km_map.specs.Entries.{end_of, starts_at, slot_where, without_start, StartFrom, IsRising}
use Rattle.km_map.proofs.Rising.{none_from, rising-filter}
use Rattle.km_tree.specs.declared.node.Node.{Node}
use Rattle.km_tree.specs.declared.node.Placed.{Placed}
use Rattle.km_tree.specs.Tables.{Stands, Held, Made}
use Rattle.km_tree.specs.Trees.{IsLevel, Tree, Leaf, Fork, root_of, entries_of, size_of, weigh, uses, one, no_node, unhung, gone}
use Rattle.km_tree.specs.Maps.{tree_at, next_in, Chained, times, Kept, AnyKept}
use Rattle.km_tree.proofs.Finds.{or_else_none, find-append, start-right, rising-left, rising-right}
use Rattle.km_tree.proofs.Levels.{unhung_level}
use Rattle.km_tree.proofs.Orders.{entries-unhung}
use Rattle.km_tree.proofs.Weights.{weigh-unhung, part}
use Rattle.km_tree.proofs.Shapes.{one_at, stays, slice_get-set_same, slice_get-set_other}
use Rattle.km_tree.proofs.Maps.{tree_is, inside_of, chained_on, whole}

-- the slot of what goes

found_earlier : (a : ℕ) (l : List Entry) (x : Entry) (r : List Entry) → IsRising (l ++ x ∷ r) → x.span.start.0 ≤ a → find (starts_at a) l ≡ None
found_earlier a [] x r s h = refl
found_earlier a (e ∷ l) x r s h =
    let k = start-right (end_of e) l (x ∷ r) s.1 in
    rw (ne_eqb e.span.start.0 a (λ w. omega (arith, w, h, k.0, s.0))) (found_earlier a l x r s.2 h)

found_later : (a b : ℕ) (es : List Entry) → a < b → StartFrom b es → find (starts_at a) es ≡ None
found_later a b es h s = none_from (starts_at a) b es s (λ e le. ne_eqb e.span.start.0 a (λ w. omega (arith, w, h, le)))

gone_entry : (s : ℕ) (t : Tree) → IsRising (entries_of t) → option_map (λ (p : Placed). p.entry) (gone s t) ≡ find (starts_at s) (entries_of t)
gone_entry s Leaf r = refl
gone_entry s (Fork l k e r) p =
    let q = rising-right (entries_of l) (e ∷ entries_of r) p in
    let split = find-append (starts_at s) (entries_of l) (e ∷ entries_of r) in
    elim (eqb s e.span.start.0) as (λ b. eqb s e.span.start.0 ≡ b → option_map (λ (p : Placed). p.entry) (cond b (Some (record { place = k; entry = e })) (cond (ltb s e.span.start.0) (gone s l) (gone s r))) ≡ find (starts_at s) (entries_of l ++ e ∷ entries_of r)) [
      | true ↦ λ w. let same = eqb-true _ _ w in sym (split ∙ (rw (found_earlier s (entries_of l) e (entries_of r) p (omega (arith, same)), eq-eqb e.span.start.0 s (sym same)) refl))
      | false ↦ λ w. let off = ne_eqb e.span.start.0 s (λ h. eqb-false _ _ w (sym h)) in
          elim (ltb s e.span.start.0) as (λ b. ltb s e.span.start.0 ≡ b → option_map (λ (p : Placed). p.entry) (cond b (gone s l) (gone s r)) ≡ find (starts_at s) (entries_of l ++ e ∷ entries_of r)) [
            | true ↦ λ v. let lt = ltb-true _ _ v in gone_entry s l (rising-left _ _ p) ∙ sym (split ∙ (rw (off, found_later s (end_of e) (entries_of r) (omega (arith, lt)) q.1) (or_else_none (find (starts_at s) (entries_of l)))))
            | false ↦ λ v. gone_entry s r q.2 ∙ sym (split ∙ (rw (found_earlier s (entries_of l) e (entries_of r) p (ltb-false _ _ v), off) refl))
          ] refl
    ] refl

pub held_of : {table : List Node} {tree : Tree} {spare : List ℕ} {root free room capacity : ℕ} → Kept table tree spare root free room capacity → Held table tree root
held_of k = record { is = k.is; stands = k.stands; once = λ i. omega (arith, k.once i); small = omega (arith, k.small) }

pub went_slot : {table lent done : List Node} {root free room capacity top : ℕ} {taken : Option Placed} (s : ℕ) (es : List Entry) → AnyKept table root free room capacity → lent ≡ table
    → ((t : Tree) → IsLevel t → Held lent t root → (taken ≡ gone s t) × Made lent done (unhung s t) top) → entries_of (tree_at table root) ≡ es → option_map (λ (p : Placed). p.entry.slot) taken ≡ slot_where (starts_at s) es
went_slot {table} {lent} {root = root} {taken = taken} s es any lends unhangs seen =
    let k = any.kept in
    let tree = any.tree in
    let is : taken ≡ gone s tree = (unhangs tree k.level (subst (λ t. Held t tree root) (sym lends) (held_of k))).0 in
    slots taken ∙ ap (option_map (λ (e : Entry). e.slot)) (ap (option_map (λ (p : Placed). p.entry)) is ∙ gone_entry s tree k.rising ∙ ap (find (starts_at s)) (ap entries_of (sym (tree_is table tree root k.stands k.is)) ∙ seen))
  where
    slots : (o : Option Placed) → option_map (λ (p : Placed). p.entry.slot) o ≡ option_map (λ (e : Entry). e.slot) (option_map (λ (p : Placed). p.entry) o)
    slots None = refl
    slots (Some p) = refl

-- a map once what starts at an address went
pub record Removed (table : List Node) (root free room capacity s : ℕ) (es : List Entry) : Type 0 where
  pub kept : AnyKept table root free room capacity
  pub entries : entries_of (tree_at table root) ≡ without_start s es
  pub rising : IsRising (entries_of (tree_at table root))

removed : {table end : List Node} {tree : Tree} {spare : List ℕ} (rest : List ℕ) {root free room capacity top next more : ℕ} (s : ℕ) (es : List Entry) → Kept table tree spare root free room capacity → entries_of (tree_at table root) ≡ es
    → root_of (unhung s tree) ≡ top → Stands end (unhung s tree) → Chained end next rest → ((i : ℕ) → uses i (unhung s tree) + times i rest ≤ 1) → size_of (unhung s tree) + more < 2 ^ 32 → length end ≡ length table → length rest + room ≡ length spare + more
    → Removed end top next more capacity s es
removed {table} {end} {tree} {spare} rest {root} {free} {room} {capacity} {top} {next} {more} s es k seen is stands chained once small long even =
    let gone : entries_of (unhung s tree) ≡ without_start s (entries_of tree) = entries-unhung s tree k.rising in
    let rising : IsRising (entries_of (unhung s tree)) = subst IsRising (sym gone) (rising-filter _ (entries_of tree) k.rising) in
    let read = ap entries_of (tree_is end (unhung s tree) top stands is) in
    record {
      kept = record {
        tree = unhung s tree;
        spare = rest;
        kept = record { is = is; stands = stands; level = (unhung_level s tree k.level).0; rising = rising; chained = chained; once = once; small = small; reach = omega (arith, k.reach, long, even); fits = omega (arith, k.fits, long, even) };
      };
      entries = read ∙ gone ∙ ap (without_start s) (ap entries_of (sym (tree_is table tree root k.stands k.is)) ∙ seen);
      rising = subst IsRising (sym read) rising;
    }

-- what a removal finds, and the map after it
pub record Went (done rest : List Node) (root free room capacity n s : ℕ) (es : List Entry) (taken : Option Placed) : Type 0 where
  pub none : taken ≡ None → Removed (take n (done ++ rest)) root free room capacity s es
  pub inside : (p : Placed) → taken ≡ Some p → p.place < n
  pub some : (p : Placed) (x : Node) → taken ≡ Some p → x.left ≡ free → Removed (slice_set (take n (done ++ rest)) p.place x) root p.place (room + 1) capacity s es

pub went : {table lent done : List Node} (rest : List Node) {root free room capacity top n : ℕ} {taken : Option Placed} (s : ℕ) (es : List Entry) → AnyKept table root free room capacity → lent ≡ table
    → ((t : Tree) → IsLevel t → Held lent t root → (taken ≡ gone s t) × Made lent done (unhung s t) top) → n ≡ length table → entries_of (tree_at table root) ≡ es → Went done rest top free room capacity n s es taken
went {table} {lent} {done} rest {root} {free} {room} {capacity} {top} {n} {taken} s es any lends unhangs long seen =
    let k = any.kept in
    let tree = any.tree in
    let spare = any.spare in
    let both : (taken ≡ gone s tree) × Made table done (unhung s tree) top = subst (λ t. (taken ≡ gone s tree) × Made t done (unhung s tree) top) lends (unhangs tree k.level (subst (λ t. Held t tree root) (sym lends) (held_of k))) in
    let m = both.1 in
    let all : take n (done ++ rest) ≡ done = whole n done rest (omega (arith, long, m.same_length)) in
    let weight : (f : ℕ → Entry → ℕ) (o : Option Placed) → taken ≡ o → weigh f (unhung s tree) + part f o ≡ weigh f tree = λ f o e. subst (λ o. weigh f (unhung s tree) + part f o ≡ weigh f tree) (sym both.0 ∙ e) (weigh-unhung f s tree) in
    let inside : (p : Placed) → taken ≡ Some p → (p.place < length table) × (p.place < no_node) = λ p e. inside_of table tree p.place k.stands (omega (arith, weight (λ k _. one p.place k) (Some p) e, one_at p.place p.place refl)) in
    record {
      none = λ e. subst (λ t. Removed t top free room capacity s es) (sym all) (removed spare s es k seen m.is m.stands (chained_on table done free spare k.chained (λ i q. m.rest i (omega (arith, q, k.once i, weight (λ k _. one i k) None e))) (omega (arith, m.same_length))) (λ i. omega (arith, k.once i, weight (λ k _. one i k) None e)) (omega (arith, k.small, weight (λ _ _. 1) None e)) m.same_length refl);
      inside = λ p e. omega (arith, long, (inside p e).0);
      some = λ p x e left.
          let end = slice_set done p.place x in
          let w : (i : ℕ) → uses i (unhung s tree) + one i p.place ≡ uses i tree = λ i. weight (λ k _. one i k) (Some p) e in
          let here : p.place < length done = omega (arith, (inside p e).0, m.same_length) in
          let same : length end ≡ length done = length-set done p.place x in
          let next : next_in (slice_get end p.place) ≡ free = ap next_in (slice_get-set_same done p.place x here) ∙ left in
          subst (λ t. Removed (slice_set t p.place x) top p.place (room + 1) capacity s es) (sym all) (removed (p.place ∷ spare) s es k seen m.is (stays done end (unhung s tree) m.stands (λ i q. slice_get-set_other done p.place i x (λ v. omega (arith, q, k.once i, w i, one_at i p.place v)))) (refl, omega (arith, same, here), (inside p e).1, subst (λ j. Chained end j spare) (sym next) (chained_on table end free spare k.chained (λ i q. slice_get-set_other done p.place i x (λ v. omega (arith, q, k.once i, w i, one_at i p.place v)) ∙ m.rest i (omega (arith, q, k.once i, w i))) (omega (arith, same, m.same_length)))) (λ i. omega (arith, k.once i, w i)) (omega (arith, k.small, weight (λ _ _. 1) (Some p) e)) (omega (arith, same, m.same_length)) (omega arith));
    }
