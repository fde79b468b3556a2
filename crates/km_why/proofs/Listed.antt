-- A list that a search makes: one block after another is told, and the references in its words are counted.
use Rattle.std.proofs.Common.{append-nil, ◌≡◌, ℕ, ◌+◌, ◌^◌, ◌<◌, ◌≤◌, ◌==◌, inl, inr, Bool, true, false, ◌&&◌, ◌||◌, not, cond, ltb, leb, List, [], ◌∷◌, ◌++◌, length, map, flat_map, find, sum_by, Some, None, vec_len, vec_capacity, refl, sym, ◌∙◌, ap, subst, arith, eqb-true, eq-eqb, ne_eqb, length-append}
use Rattle.std.specs.List.{list_any}
use Rattle.std.specs.BinaryHeap.{heap_capacity, heap_items, heap_len}
use Rattle.std.proofs.lemmas.Bool.{and_right, or_left}
use Rattle.std.proofs.lemmas.List.{append_assoc}
use Rattle.std.proofs.lemmas.List.Folds.{list_any-append}
use Rattle.km_certificates.specs.Certificates.{counted, counted_after, found, is_member}
use Rattle.km_model.proofs.Cases.{elim_false}
use Rattle.km_model.proofs.Lists.{Each, Pairs, In, each_in, each_push, in_append_left, in_each}
use Rattle.km_model.specs.Blocks.{Block, Minimum, Black, AtLeast, needs, references_of, scanned_words}
use Rattle.km_model.specs.Held.{Standing}
use Rattle.km_model.specs.Memory.{index_of}
use Rattle.km_model.specs.Tasks.{Task, stack_words}
use Rattle.km_track.specs.Tracker.{AreRising, Live, Tracker, id_of, is_id}
use Rattle.km_track.proofs.Lives.{has_its}
use Rattle.km_why.specs.declared.counts.Count.{Count}
use Rattle.km_why.specs.declared.search.Member.{Member}
use Rattle.km_why.specs.declared.search.Search.{Search}
use Rattle.km_why.specs.Counts.{AreCounted, HaveRoom, count_at}
use Rattle.km_why.specs.References.{sources}
use Rattle.km_why.specs.Search.{HasListed, member_in, members_in, slot_in}
use Rattle.km_why.specs.Told.{AreApart, IsInMemory, IsOfWords, blocks_of, standing_of}
use Rattle.km_why.specs.Waiting.{AreWaiting, Key, is_ripe, is_waiting, key_of}
use Rattle.km_why.proofs.Placed.{in_blocks}
use Rattle.km_why.proofs.Raised.{ripe_with}
use Rattle.km_why.proofs.Sources.{IsSource, found_same}
use Rattle.km_why.proofs.Spread.{few_blocks, few_sources}
use Rattle.km_why.proofs.Tested.{IsApart, apart_push, source_of}
use Rattle.km_why.proofs.Waits.{rising_in, rising_same, same}

each_left : {X : Type 0} (P : X → Type 0) (xs ys : List X) → Each P (xs ++ ys) → Each P xs
each_left P xs ys e = in_each P xs (λ x i. each_in P (xs ++ ys) x e (in_append_left xs ys x i))

pairs_left : {X : Type 0} (R : X → X → Type 0) (xs ys : List X) → Pairs R (xs ++ ys) → Pairs R xs
pairs_left R [] ys p = tt
pairs_left R (x ∷ xs) ys p = (each_left (R x) xs ys p.0, pairs_left R xs ys p.1)

-- the members of a list with one more
counted_push : (s : Standing) (before xs : List Block) (b : Block) → counted_after s before (xs ++ b ∷ []) ≡ counted_after s before xs ++ (record { block = b; found = found s (before ++ xs) b }) ∷ []
counted_push s before [] b = ap (λ ys. record { block = b; found = found s ys b } ∷ []) (sym (append-nil before))
counted_push s before (x ∷ xs) b =
    ap (λ cs. record { block = x; found = found s before x } ∷ cs)
    (counted_push s (before ++ x ∷ []) xs b ∙ ap (λ ys. counted_after s (before ++ x ∷ []) xs ++ (record { block = b; found = found s ys b }) ∷ []) (append_assoc before (x ∷ []) xs))

map_push : {X Y : Type 0} (f : X → Y) (xs : List X) (x : X) → map f (xs ++ x ∷ []) ≡ map f xs ++ f x ∷ []
map_push f [] x = refl
map_push f (y ∷ xs) x = ap (λ ys. f y ∷ ys) (map_push f xs x)

members_push : (t : Tracker) (s : Standing) (bs : List Block) (b : Block) → members_in t s (bs ++ b ∷ []) ≡ members_in t s bs ++ member_in t (record { block = b; found = found s bs b }) ∷ []
members_push t s bs b = ap (map (member_in t)) (counted_push s [] bs b) ∙ map_push (member_in t) (counted s bs) (record { block = b; found = found s bs b })

-- a live block is found by its number of registration
found_by : (low high : ℕ) (ls : List Live) (l : Live) → AreRising low ls high → In l ls → find (λ (x : Live). x.tracked.block.id == l.tracked.block.id) ls ≡ Some l
found_by low high [] l r i = absurd i
found_by low high (x ∷ ls) l r (inl e) =
    ap (λ q. cond q (Some x) (find (λ (y : Live). y.tracked.block.id == l.tracked.block.id) ls)) (eq-eqb x.tracked.block.id l.tracked.block.id (ap (λ (y : Live). y.tracked.block.id) (sym e))) ∙ ap Some (sym e)
found_by low high (x ∷ ls) l r (inr i) =
    ap (λ q. cond q (Some x) (find (λ (y : Live). y.tracked.block.id == l.tracked.block.id) ls)) (ne_eqb x.tracked.block.id l.tracked.block.id (λ e. let le = rising_in (x.tracked.block.id + 1) high ls l r.1 i in omega (arith, le, e)))
    ∙ found_by (x.tracked.block.id + 1) high ls l r.1 i

-- and by its id
pub found_at : (low high : ℕ) (ls : List Live) (l : Live) → AreRising low ls high → In l ls → find (is_id (id_of l)) ls ≡ Some l
found_at low high [] l r i = absurd i
found_at low high (x ∷ ls) l r (inl e) = ap (λ q. cond q (Some x) (find (is_id (id_of l)) ls)) (subst (λ (y : Live). is_id (id_of y) x ≡ true) (sym e) (has_its x)) ∙ ap Some (sym e)
found_at low high (x ∷ ls) l r (inr i) =
    ap (λ q. cond q (Some x) (find (is_id (id_of l)) ls))
    (and_right (x.slot == l.slot) (x.tracked.block.id == l.tracked.block.id) (ne_eqb x.tracked.block.id l.tracked.block.id (λ e. let le = rising_in (x.tracked.block.id + 1) high ls l r.1 i in omega (arith, le, e))))
    ∙ found_at (x.tracked.block.id + 1) high ls l r.1 i

sources_push : (stacks : List Task) (bs : List Block) (b : Block) → sources stacks (bs ++ b ∷ []) ≡ sources stacks bs ++ scanned_words b
sources_push stacks bs b = ap (λ ws. flat_map stack_words stacks ++ ws) (flat_push bs) ∙ sym (append_assoc (flat_map stack_words stacks) (flat_map scanned_words bs) (scanned_words b))
  where
    flat_push : (xs : List Block) → flat_map scanned_words (xs ++ b ∷ []) ≡ flat_map scanned_words xs ++ scanned_words b
    flat_push [] = append-nil (scanned_words b)
    flat_push (x ∷ xs) = ap (λ ws. scanned_words x ++ ws) (flat_push xs) ∙ sym (append_assoc (scanned_words x) (flat_map scanned_words xs) (scanned_words b))

-- the members of a search are live blocks of which no two meet
module _ (t : Tracker) (stacks : List Task) (memory : List ℕ) (s : Search) (listed members : List Block) (h : HasListed t stacks memory s listed members) where
  pub inside : Each (λ b. In b (blocks_of t)) members
  inside = in_each (λ b. In b (blocks_of t)) members (λ b i.
      let z = each_in (λ (m : Block). (l : Live) × In l t.live × (l.tracked.block ≡ m)) members b h.waiting.among i in
      subst (λ (x : Block). In x (blocks_of t)) z.2 (in_blocks t.live z.0 z.1))

  pub are_apart : IsApart t members
  are_apart = record { inside = inside; apart = h.apart }

-- one more is told
module _ (t : Tracker) (stacks : List Task) (memory : List ℕ) (s : Search) (listed : List Block) (l : Live) (rising : AreRising 0 t.live t.registered) (some : Each (λ (b : Block). 0 < b.size) (blocks_of t)) (there : In l t.live)
    (h : HasListed t stacks memory s listed (listed ++ l.tracked.block ∷ [])) where
  standing : Standing
  standing = standing_of t stacks true memory

  all_apart : IsApart t (listed ++ l.tracked.block ∷ [])
  all_apart = are_apart t stacks memory s listed (listed ++ l.tracked.block ∷ []) h

  listed_apart : IsApart t listed
  listed_apart = record {
    inside = each_left (λ b. In b (blocks_of t)) listed (l.tracked.block ∷ []) all_apart.inside;
    apart = pairs_left (λ (b c : Block). AreApart b.start b.size c.start c.size) listed (l.tracked.block ∷ []) all_apart.apart;
  }

  source : IsSource (length memory) stacks listed
  source = source_of t (length memory) true stacks listed h.laid listed_apart

  -- what the table has is what is found
  pub found_is : (count_at s.counts.items (index_of l.tracked.block.start)).found ≡ found (standing_of t stacks true memory) listed l.tracked.block
  found_is = h.table.found l.tracked.block (in_blocks t.live l there) ∙ sym (found_same memory (standing_of t stacks true memory) listed l.tracked.block refl source)

  pub told_push : (m : Member) → m ≡ record { id = id_of l; start = record { 0 = l.tracked.block.start }; min = references_of l.tracked.block; found = (count_at s.counts.items (index_of l.tracked.block.start)).found }
      → s.members.items ++ m ∷ [] ≡ members_in t (standing_of t stacks true memory) (listed ++ l.tracked.block ∷ [])
  told_push m e =
      ap (λ ms. ms ++ m ∷ []) h.told
      ∙ ap (λ (x : Member). members_in t (standing_of t stacks true memory) listed ++ x ∷ []) (e ∙ ap of_count found_is ∙ ap of_slot (sym slot_is))
      ∙ sym (members_push t (standing_of t stacks true memory) listed l.tracked.block)
    where
      of_count : ℕ → Member
      of_count n = record { id = id_of l; start = record { 0 = l.tracked.block.start }; min = references_of l.tracked.block; found = n }

      of_slot : ℕ → Member
      of_slot n = record { id = record { slot = n; generation = l.tracked.block.id }; start = record { 0 = l.tracked.block.start }; min = references_of l.tracked.block; found = found (standing_of t stacks true memory) listed l.tracked.block }

      slot_is : slot_in t l.tracked.block.id ≡ l.slot
      slot_is = ap (λ o. elim o as (λ _. ℕ) [ None ↦ 0 | Some x ↦ x.slot ]) (found_by 0 t.registered t.live l rising there)

  -- there is a place for it
  pub has_place : length listed < length memory
  has_place =
      let few = few_blocks (length memory) (listed ++ l.tracked.block ∷ [])
      (in_each (λ (b : Block). IsInMemory (length memory) b.start b.size × IsOfWords b.start b.size) (listed ++ l.tracked.block ∷ []) (λ b i.
      each_in (λ (c : Block). IsInMemory (length memory) c.start c.size × IsOfWords c.start c.size) (blocks_of t) b h.laid.blocks_in (each_in (λ c. In c (blocks_of t)) (listed ++ l.tracked.block ∷ []) b all_apart.inside i)))
      (in_each (λ (b : Block). 0 < b.size) (listed ++ l.tracked.block ∷ []) (λ b i. each_in (λ (c : Block). 0 < c.size) (blocks_of t) b some (each_in (λ c. In c (blocks_of t)) (listed ++ l.tracked.block ∷ []) b all_apart.inside i)))
      all_apart.apart in
      let longer = length-append listed (l.tracked.block ∷ []) in
      below (length listed) (length (listed ++ l.tracked.block ∷ [])) (length memory) longer few
    where
      below : (a b c : ℕ) → b ≡ a + 1 → b ≤ c → a < c
      below a b c e f = omega (arith, e, f)

  -- and room for the words in it
  pub have_room : length memory ≤ 4194304 → HaveRoom memory (blocks_of t) s.counts.items (scanned_words l.tracked.block)
  have_room small = record {
    words = sources stacks listed;
    few =
        let all = few_sources memory (standing_of t stacks true memory) (listed ++ l.tracked.block ∷ []) (source_of t (length memory) true stacks (listed ++ l.tracked.block ∷ []) h.laid all_apart) in
        let split = ap length (sources_push stacks listed l.tracked.block) ∙ length-append (sources stacks listed) (scanned_words l.tracked.block) in
        few_are _ _ _ _ split all small;
    counted = h.table;
  }
    where
      few_are : (a b c d : ℕ) → c ≡ a + b → c ≤ d → d ≤ 4194304 → a + b ≤ 2 ^ 30
      few_are a b c d e f g = omega (arith, e, f, g)

  -- the references in its words are counted
  pub appended : (u : Search) → AreCounted memory (blocks_of t) (sources stacks listed ++ scanned_words l.tracked.block) u.counts.items
      → AreWaiting t.live u.counts.items (listed ++ l.tracked.block ∷ []) (heap_items u.waiting) (heap_len u.waiting) (heap_capacity u.waiting)
      → u.members.items ≡ members_in t (standing_of t stacks true memory) (listed ++ l.tracked.block ∷ []) → vec_len u.members ≡ vec_len s.members + 1 → vec_capacity u.members ≡ vec_capacity s.members
      → length u.counts.items ≡ length s.counts.items → HasListed t stacks memory u (listed ++ l.tracked.block ∷ []) (listed ++ l.tracked.block ∷ [])
  appended u table waiting told len room long = record {
    laid = h.laid;
    table = subst (λ ws. AreCounted memory (blocks_of t) ws u.counts.items) (sym (sources_push stacks listed l.tracked.block)) table;
    waiting = waiting;
    told = told;
    len = len ∙ ap (λ n. n + 1) h.len ∙ sym (length-append listed (l.tracked.block ∷ []));
    apart = h.apart;
    places = subst (λ n. length memory ≤ n) (sym long) h.places;
    room = subst (λ n. length memory ≤ n) (sym room) h.room;
  }

-- a block that needs no reference never waits
root_rests : (m : Minimum) (n : ℕ) → (elim m as (λ _. Bool) [ Black ↦ false | AtLeast k ↦ k == 0 ]) ≡ true → ripe_with m n ≡ false
root_rests Black n e = absurd (elim_false e)
root_rests (AtLeast k) n e = subst (λ j. (ltb 0 j && leb j n) ≡ false) (sym (eqb-true k 0 e)) refl

root_waits : (live : List Live) (high : ℕ) (cs : List Count) (members : List Block) (keys : List Key) (len capacity : ℕ) (l : Live) → AreRising 0 live high → In l live → needs 0 l.tracked.block ≡ true
    → AreWaiting live cs members keys len capacity → AreWaiting live cs (members ++ l.tracked.block ∷ []) keys len capacity
root_waits live high cs members keys len capacity l rising i root w = record {
  keys_are = λ g. w.keys_are g ∙ ap (λ ls. sum_by g (map (λ (x : Live). key_of (id_of x)) ls)) (same (λ (x : Live). key_of (id_of x)) (λ (x : Live). is_waiting cs members x.tracked.block) (λ (x : Live). is_waiting cs (members ++ l.tracked.block ∷ []) x.tracked.block) l live each);
  len_is = w.len_is;
  room = w.room;
  ordered = w.ordered;
  among = each_push (λ (m : Block). (x : Live) × In x live × (x.tracked.block ≡ m)) members l.tracked.block w.among (l, i, refl);
  enough = each_push (λ (m : Block). (needs 0 m || is_ripe cs m) ≡ true) members l.tracked.block w.enough (or_left (needs 0 l.tracked.block) (is_ripe cs l.tracked.block) root);
}
  where
    or_none : (q : Bool) → (q || false) ≡ q
    or_none true = refl
    or_none false = refl

    here : (q : Bool) → (is_ripe cs l.tracked.block && q) ≡ false
    here q = ap (λ r. r && q) (root_rests l.tracked.block.minimum (count_at cs (index_of l.tracked.block.start)).found root)

    each : (z : Live) → In z live → is_waiting cs members z.tracked.block ≡ is_waiting cs (members ++ l.tracked.block ∷ []) z.tracked.block
    each z j = elim (l.tracked.block.id == z.tracked.block.id) as (λ q. (l.tracked.block.id == z.tracked.block.id) ≡ q → is_waiting cs members z.tracked.block ≡ is_waiting cs (members ++ l.tracked.block ∷ []) z.tracked.block) [
      | true ↦ λ e. subst (λ (x : Live). is_waiting cs members x.tracked.block ≡ is_waiting cs (members ++ l.tracked.block ∷ []) x.tracked.block) (rising_same 0 high live l z rising i j (eqb-true l.tracked.block.id z.tracked.block.id e))
          (here (not (list_any (λ (d : Block). d.id == l.tracked.block.id) members)) ∙ sym (here (not (list_any (λ (d : Block). d.id == l.tracked.block.id) (members ++ l.tracked.block ∷ [])))))
      | false ↦ λ e. ap (λ q. is_ripe cs z.tracked.block && not q)
          (sym (list_any-append (λ (d : Block). d.id == z.tracked.block.id) members (l.tracked.block ∷ [])
          ∙ ap (λ q. list_any (λ (d : Block). d.id == z.tracked.block.id) members || (q || false)) e ∙ or_none (list_any (λ (d : Block). d.id == z.tracked.block.id) members)))
    ] refl

-- one that needs none may come next
pub root_comes : (t : Tracker) (stacks : List Task) (memory : List ℕ) (s : Search) (roots : List Block) (l : Live) → AreRising 0 t.live t.registered → In l t.live → needs 0 l.tracked.block ≡ true → is_member roots l.tracked.block ≡ false
    → HasListed t stacks memory s roots roots → HasListed t stacks memory s roots (roots ++ l.tracked.block ∷ [])
root_comes t stacks memory s roots l rising i root new h = record {
  laid = h.laid;
  table = h.table;
  waiting = root_waits t.live t.registered s.counts.items roots (heap_items s.waiting) (heap_len s.waiting) (heap_capacity s.waiting) l rising i root h.waiting;
  told = h.told;
  len = h.len;
  apart = (apart_push t (length memory) stacks roots l.tracked.block h.laid (are_apart t stacks memory s roots roots h) (in_blocks t.live l i) new).apart;
  places = h.places;
  room = h.room;
}
