use Rattle.std.proofs.Common.{◌≡◌, ◌≢◌, ℕ, ◌<◌, ◌≤◌, true, false, not, ◌||◌, ◌==◌, eqb, ltb, List, [], ◌∷◌, ◌++◌, length, set, get_or, if◌then◌else◌, Some, None, refl, sym, ap, ◌∙◌, subst, arith, length-set, get_or-set_same, get_or-set_other}
use Rattle.std.proofs.lemmas.Bool.{ltb-true, ltb-false, eqb-true, eqb-false, eq-eqb, ne_eqb, or_parts, or_from, or_left, both_ways}
use Rattle.std.proofs.lemmas.List.{get_or_read}
use Rattle.km_links.specs.declared.links.Which.{Which}
use Rattle.km_links.specs.declared.links.Which.TheVariants.{Order, Grey, Free}
use Rattle.km_links.specs.declared.chain.Node.{Node}
use Rattle.km_links.specs.Chains.{Chained, Lists, list_of, with_list, is_in, without, first_of, slot_behind, IsDistinct}
use Rattle.km_links.specs.Linked.{no_slot, node_at, walk, IsSegment, IsLinked, with_next, with_previous, end_at_slot, pushed_nodes, taken_nodes}
use Rattle.km_links.proofs.Distinct.{other, out_parts, out_both, cut, distinct_append, count_below}
use Rattle.km_links.proofs.Segments.{frame, frame_set, last_in, all_within, append, split, start_of, next_set, previous_set, walked}

-- the list is what walking gives
pub linked_walk : (L : List Node) (first last : ℕ) (ns : List ℕ) → length L ≤ no_slot → IsLinked L first last ns → walk (length L) L first ≡ ns
linked_walk L first last ns l h =
    walked L no_slot first ns last (length L) l (count_below ns (length L) h.distinct (all_within L no_slot first ns last no_slot h.linked)) h.linked

pub empty_linked : IsLinked [] no_slot no_slot []
empty_linked = record { linked = (refl, refl); distinct = tt; out = λ n l. absurd (omega arith) }

-- nodes that were reached keep the list
pub reached_linked : (L M : List Node) (first last : ℕ) (ns : List ℕ) → IsLinked L first last ns
    → ((n : ℕ) → n < length L → (n < length M) × (node_at M n ≡ node_at L n)) → ((n : ℕ) → length L ≤ n → n < length M → (node_at M n).next ≡ n) → IsLinked M first last ns
reached_linked L M first last ns h old new = record {
  linked = frame L M no_slot first ns last no_slot (λ m _ l. old m l) h.linked;
  distinct = h.distinct;
  out = λ n l o. elim (ltb n (length L)) as (λ b. ltb n (length L) ≡ b → (node_at M n).next ≡ n) [
    | true ↦ λ f. let k = ltb-true n (length L) f in ap (λ (v : Node). v.next) (old n k).1 ∙ h.out n k o
    | false ↦ λ f. new n (ltb-false n (length L) f) l
  ] refl;
}

-- the last slot is one of the list, or none where it is empty
last_cases : (L : List Node) (first last : ℕ) (ns : List ℕ) → length L ≤ no_slot → IsSegment L no_slot first ns last no_slot → (m : ℕ) → m < length L → is_in m ns ≡ false → m ≢ last
last_cases L first last [] l s m k o = λ e. omega (arith, s.1)
last_cases L first last (x ∷ ns) l s m k o = λ e. other last m (x ∷ ns) (last_in L no_slot first x ns last no_slot s) o (sym e)

end_of_start : (L : List Node) (first last : ℕ) (ns : List ℕ) (n e : ℕ) → length L ≤ no_slot → IsSegment L no_slot first ns last e → end_at_slot last n first ≡ start_of ns n first
end_of_start L first last [] n e l s = rw s.1 refl
end_of_start L first last (x ∷ ns) n e l s =
    let k = all_within L no_slot first (x ∷ ns) last e s last (last_in L no_slot first x ns last e s) in rw (ne_eqb last no_slot (λ f. omega arith)) refl

-- a slot at the end
pub pushed : (L : List Node) (first last : ℕ) (ns : List ℕ) (n : ℕ) → length L ≤ no_slot → IsLinked L first last ns → n < length L → is_in n ns ≡ false
    → IsLinked (pushed_nodes L last n) (end_at_slot last n first) n (ns ++ n ∷ [])
pushed L first last ns n l h k o =
    let v : Node = record { previous = last; next = no_slot } in
    let M = set L n v in
    let d : Node = record { previous = 0; next = 0 } in
    let w : Node = record (node_at M last) { next = n } in
    let long = length-set L n v in
    let longer = length-set M last w in
    let apart = last_cases L first last ns l h.linked n k o in
    let node : node_at (with_next M last n) n ≡ v = get_or-set_other M last n w d apart ∙ get_or-set_same L n v d k in
    let front = next_set M no_slot first ns last no_slot n h.distinct (frame_set L n v no_slot first ns last no_slot o h.linked) in
    record {
      linked = append (with_next M last n) no_slot (end_at_slot last n first) ns last n (n ∷ []) n no_slot (rw (end_of_start L first last ns n no_slot l h.linked) front) (refl, omega (arith, long, longer), ap (λ (x : Node). x.previous) node, (ap (λ (x : Node). x.next) node, refl));
      distinct = distinct_append ns (n ∷ []) h.distinct (refl, tt) (λ m i. or_from _ _ (ne_eqb n m (λ e. other m n ns i o (sym e))) refl);
      out = λ m b i.
          let p = out_parts m ns (n ∷ []) i in
          let q = (or_parts (n == m) false p.1).0 in
          let old : m < length L = omega (arith, long, longer) in
          let ne : m ≢ n = λ e. eqb-false n m q (sym e) in
          ap (λ (x : Node). x.next) (get_or-set_other M last m w d (last_cases L first last ns l h.linked m old p.0) ∙ get_or-set_other L n m v d ne) ∙ h.out m old p.0;
    }

end_of_back : (L : List Node) (s a : ℕ) (ns : List ℕ) (b n : ℕ) → length L ≤ no_slot → IsSegment L s a ns b no_slot → end_at_slot a n b ≡ start_of ns n b
end_of_back L s a [] b n l g = rw g.0 refl
end_of_back L s a (x ∷ ns) b n l g = rw (ne_eqb a no_slot (λ e. omega (arith, g.0, g.1))) refl

-- neither end of a segment is a slot of another list, where the segment's slots are none of it
last_out : (L : List Node) (p a : ℕ) (ns : List ℕ) (b n : ℕ) (ks : List ℕ) → IsSegment L p a ns b n → is_in p ks ≡ false → ((m : ℕ) → is_in m ns ≡ true → is_in m ks ≡ false) → is_in b ks ≡ false
last_out L p a [] b n ks s o h = rw s.1 o
last_out L p a (x ∷ ns) b n ks s o h = h b (last_in L p a x ns b n s)

first_out : (L : List Node) (p a : ℕ) (ns : List ℕ) (b n : ℕ) (ks : List ℕ) → IsSegment L p a ns b n → is_in n ks ≡ false → ((m : ℕ) → is_in m ns ≡ true → is_in m ks ≡ false) → is_in a ks ≡ false
first_out L p a [] b n ks s o h = rw s.0 o
first_out L p a (x ∷ ns) b n ks s o h = rw s.0 (h x (or_left _ _ (eq-eqb x x refl)))

no_slot_out : (L : List Node) (ns : List ℕ) → length L ≤ no_slot → ((m : ℕ) → is_in m ns ≡ true → m < length L) → is_in no_slot ns ≡ false
no_slot_out L ns l h =
    elim (is_in no_slot ns) as (λ b. is_in no_slot ns ≡ b → b ≡ false) [ true ↦ λ e. absurd (omega (arith, h no_slot e)) | false ↦ λ _. refl ] refl

in_one : (k m : ℕ) → k ≢ m → is_in m (k ∷ []) ≡ false
in_one k m h = or_from _ _ (ne_eqb k m h) refl

apart_back : (front back : List ℕ) → ((m : ℕ) → is_in m front ≡ true → is_in m back ≡ false) → (m : ℕ) → is_in m back ≡ true → is_in m front ≡ false
apart_back front back h m i =
    elim (is_in m front) as (λ b. is_in m front ≡ b → b ≡ false) [ true ↦ λ e. absurd (both_ways (is_in m back) (h m e) i) | false ↦ λ _. refl ] refl

-- a slot is taken out
pub taken : (L : List Node) (first last : ℕ) (ns : List ℕ) (n : ℕ) → length L ≤ no_slot → IsLinked L first last ns → is_in n ns ≡ true
    → IsLinked (taken_nodes L n (node_at L n).previous (node_at L n).next) (end_at_slot (node_at L n).previous (node_at L n).next first) (end_at_slot (node_at L n).next (node_at L n).previous last) (without n ns)
taken L first last ns n l h i =
    let c = cut n ns h.distinct i in
    let s = split L no_slot first c.front (n ∷ c.back) last no_slot (subst (λ k. IsSegment L no_slot first k last no_slot) c.is h.linked) in
    let q = (node_at L n).previous in
    let m = (node_at L n).next in
    let right : IsSegment L n m c.back last no_slot = s.right.3 in
    let left : IsSegment L no_slot first c.front q s.middle = subst (λ k. IsSegment L no_slot first c.front k s.middle) (sym s.right.2) s.left in
    let within : (k : ℕ) → is_in k ns ≡ true → k < length L = all_within L no_slot first ns last no_slot h.linked in
    let front_within : (k : ℕ) → is_in k c.front ≡ true → k < length L = all_within L no_slot first c.front q s.middle left in
    let back_within : (k : ℕ) → is_in k c.back ≡ true → k < length L = all_within L n m c.back last no_slot right in
    let w : Node = record (node_at L q) { next = m } in
    let K = set L q w in
    let x : Node = record (node_at K m) { previous = q } in
    let J = set K m x in
    let v : Node = record { previous = n; next = n } in
    let q_out = last_out L no_slot first c.front q s.middle c.back left (no_slot_out L c.back l back_within) c.apart in
    let m_out = first_out L n m c.back last no_slot c.front right (no_slot_out L c.front l front_within) (apart_back c.front c.back c.apart) in
    let front = frame_set J n v no_slot (start_of c.front m first) c.front q m c.front_out (frame_set K m x no_slot (start_of c.front m first) c.front q m m_out (next_set L no_slot first c.front q s.middle m c.fronts left)) in
    let back = frame_set J n v q m c.back (start_of c.back q last) no_slot c.back_out (previous_set K n m c.back last no_slot q c.backs (frame_set L q w n m c.back last no_slot q_out right)) in
    let both = append (set J n v) no_slot (start_of c.front m first) c.front q m c.back (start_of c.back q last) no_slot front back in
    let d : Node = record { previous = 0; next = 0 } in
    let long : length (set J n v) ≡ length L = length-set J n v ∙ (length-set K m x ∙ length-set L q w) in
    record {
      linked = rw (end_of_start L first q c.front m s.middle l left, end_of_back L n m c.back last q l right, c.rest) both;
      distinct = rw c.rest (distinct_append c.front c.back c.fronts c.backs c.apart);
      out = λ k j o. elim (eqb k n) as (λ b. eqb k n ≡ b → (node_at (set J n v) k).next ≡ k) [
        | true ↦ λ e. let same = eqb-true k n e in rw same (ap (λ (y : Node). y.next) (get_or-set_same J n v d (omega (arith, length-set K m x, length-set L q w, s.right.1))))
        | false ↦ λ e.
            let ne : k ≢ n = eqb-false k n e in
            let outs = out_parts k c.front c.back (subst (λ z. is_in k z ≡ false) c.rest o) in
            let inside : k < length L = omega (arith, long) in
            let kq : k ≢ q = λ f. eqb-false k q (or_parts (k == q) false (last_out L no_slot first c.front q s.middle (k ∷ []) left (in_one k no_slot (omega arith)) (λ y g. in_one k y (λ u. other y k c.front g outs.0 (sym u))))).0 f in
            let km : k ≢ m = λ f. eqb-false k m (or_parts (k == m) false (first_out L n m c.back last no_slot (k ∷ []) right (in_one k no_slot (omega arith)) (λ y g. in_one k y (λ u. other y k c.back g outs.1 (sym u))))).0 f in
            let was : is_in k ns ≡ false = rw c.is (out_both k c.front (n ∷ c.back) outs.0 (or_from _ _ (ne_eqb n k (λ f. ne (sym f))) outs.1)) in
            ap (λ (y : Node). y.next) (get_or-set_other J n k v d ne ∙ (get_or-set_other K m k x d km ∙ get_or-set_other L q k w d kq)) ∙ h.out k inside was
      ] refl;
    }

-- what stands behind a slot of the list
pub behind_linked : (L : List Node) (p a : ℕ) (ns : List ℕ) (b n : ℕ) → length L ≤ no_slot → IsSegment L p a ns b no_slot → IsDistinct ns → is_in n ns ≡ true
    → (n < length L) × (slot_behind n ns ≡ (if (node_at L n).next == no_slot then None else Some (node_at L n).next)) × ((node_at L n).next ≢ n)
behind_linked L p a [] b n l s d i = absurd (let z : ⊥ = cc in z)
behind_linked L p a (x ∷ ns) b n l s d i =
    elim (x == n) as (λ t. (x == n) ≡ t → (t || is_in n ns) ≡ true → (n < length L) × ((if t then first_of ns else slot_behind n ns) ≡ (if (node_at L n).next == no_slot then None else Some (node_at L n).next)) × ((node_at L n).next ≢ n)) [
      | false ↦ λ _ j. behind_linked L x (node_at L x).next ns b n l s.3 d.1 j
      | true ↦ λ e _. subst (λ k. (k < length L) × (first_of ns ≡ (if (node_at L k).next == no_slot then None else Some (node_at L k).next)) × ((node_at L k).next ≢ k)) (eqb-true x n e) (s.1, here ns s.3 d.0, there ns s.3 d.0)
    ] refl i
  where
    here : (ns : List ℕ) → IsSegment L x (node_at L x).next ns b no_slot → is_in x ns ≡ false → first_of ns ≡ (if (node_at L x).next == no_slot then None else Some (node_at L x).next)
    here [] g o = rw g.0 refl
    here (y ∷ ns) g o = rw (ne_eqb (node_at L x).next no_slot (λ f. omega (arith, f, g.0, g.1)), g.0) refl

    there : (ns : List ℕ) → IsSegment L x (node_at L x).next ns b no_slot → is_in x ns ≡ false → (node_at L x).next ≢ x
    there [] g o = λ f. omega (arith, f, g.0, s.1)
    there (y ∷ ns) g o = λ f. eqb-false y x (or_parts (y == x) (is_in x ns) o).0 (sym g.0 ∙ f)

pub first_linked : (L : List Node) (first last : ℕ) (ns : List ℕ) → length L ≤ no_slot → IsLinked L first last ns → first_of ns ≡ (if first == no_slot then None else Some first)
first_linked L first last ns l h = go ns h.linked
  where
    go : (ns : List ℕ) → IsSegment L no_slot first ns last no_slot → first_of ns ≡ (if first == no_slot then None else Some first)
    go [] g = rw g.0 refl
    go (y ∷ ns) g = rw (ne_eqb first no_slot (λ f. omega (arith, f, g.0, g.1)), g.0) refl

-- whether a slot is in the list, by its node
pub in_linked : (L : List Node) (first last : ℕ) (ns : List ℕ) (n : ℕ) → length L ≤ no_slot → IsLinked L first last ns → n < length L → not (eqb (node_at L n).next n) ≡ is_in n ns
in_linked L first last ns n l h k =
    elim (is_in n ns) as (λ b. is_in n ns ≡ b → not (eqb (node_at L n).next n) ≡ b) [
      | true ↦ λ e. rw (ne_eqb (node_at L n).next n (behind_linked L no_slot first ns last n l h.linked h.distinct e).2) refl
      | false ↦ λ e. rw (eq-eqb (node_at L n).next n (h.out n k e)) refl
    ] refl

pub out_linked : (L : List Node) (first last : ℕ) (ns : List ℕ) (n : ℕ) → IsLinked L first last ns → length L ≤ n → false ≡ is_in n ns
out_linked L first last ns n h k =
    elim (is_in n ns) as (λ b. is_in n ns ≡ b → false ≡ b) [ true ↦ λ e. absurd (omega (arith, all_within L no_slot first ns last no_slot h.linked n e)) | false ↦ λ _. refl ] refl

-- a list that is linked is what walking gives, and is still linked when it is named so
pub settled : (L : List Node) (first last : ℕ) (ns : List ℕ) → length L ≤ no_slot → IsLinked L first last ns → IsLinked L first last (walk (length L) L first)
settled L first last ns l h = subst (λ k. IsLinked L first last k) (sym (linked_walk L first last ns l h)) h

pub none_linked : (L : List Node) → L ≡ [] → IsLinked L no_slot no_slot (walk (length L) L no_slot)
none_linked L e = subst (λ k. IsLinked k no_slot no_slot (walk (length k) k no_slot)) (sym e) empty_linked

-- what a read of a node says
pub read : (L : List Node) (n : ℕ) (v : Node) → n < length L → v ≡ get_or L n v → v ≡ node_at L n
read L n v k e = get_or_read L n v k e (record { previous = 0; next = 0 })

-- nodes after a change, with the list that they hold
pub record IsSettled (L N : List Node) (first last : ℕ) (ns : List ℕ) : Type 0 where
  pub linked : IsLinked N first last (walk (length N) N first)
  pub long : length N ≡ length L
  pub is : walk (length N) N first ≡ ns

pub push_settled : (L N : List Node) (first last n f : ℕ) (ns : List ℕ) → length L ≤ no_slot → IsLinked L first last ns → n < length L → is_in n ns ≡ false
    → N ≡ pushed_nodes L last n → f ≡ end_at_slot last n first → IsSettled L N f n (ns ++ n ∷ [])
push_settled L N first last n f ns l h k o e g =
    let v : Node = record { previous = last; next = no_slot } in
    let long : length N ≡ length L = ap length e ∙ (length-set (set L n v) last (record (node_at (set L n v) last) { next = n }) ∙ length-set L n v) in
    let done : IsLinked N f n (ns ++ n ∷ []) = rw (e, g) (pushed L first last ns n l h k o) in
    let small : length N ≤ no_slot = omega (arith, long) in
    record { linked = settled N f n _ small done; long = long; is = linked_walk N f n _ small done }

pub take_settled : (L N : List Node) (first last n f b : ℕ) (v : Node) (ns : List ℕ) → length L ≤ no_slot → IsLinked L first last ns → is_in n ns ≡ true
    → v ≡ node_at L n → N ≡ taken_nodes L n v.previous v.next → f ≡ end_at_slot v.previous v.next first → b ≡ end_at_slot v.next v.previous last → IsSettled L N f b (without n ns)
take_settled L N first last n f b v ns l h i r e g j =
    let K = with_next L v.previous v.next in
    let J = with_previous K v.next v.previous in
    let long : length N ≡ length L = ap length e ∙ (length-set J n (record { previous = n; next = n }) ∙ (length-set K v.next (record (node_at K v.next) { previous = v.previous }) ∙ length-set L v.previous (record (node_at L v.previous) { next = v.next }))) in
    let done : IsLinked N f b (without n ns) = rw (e, g, j, r) (taken L first last ns n l h i) in
    let small : length N ≤ no_slot = omega (arith, long) in
    record { linked = settled N f b _ small done; long = long; is = linked_walk N f b _ small done }

pub same_chained : (ns ks : List ℕ) (m n : ℕ) → ns ≡ ks → m ≡ n → ◌≡◌ {A = Chained} (record { slots = ns; capacity = m }) (record { slots = ks; capacity = n })
same_chained ns ks m n e f = λ i. record { slots = e i; capacity = f i }

pub list-with_list : (w : Which) (ns : List ℕ) (l : Lists) → list_of w (with_list w ns l) ≡ ns
list-with_list Order ns l = refl
list-with_list Grey ns l = refl
list-with_list Free ns l = refl
