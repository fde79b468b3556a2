-- Which blocks wait once one more reference is found.
use Rattle.std.proofs.Common.{◌≡◌, ℕ, suc, ◌+◌, ◌<◌, ◌≤◌, ◌==◌, Bool, true, false, ◌&&◌, ◌||◌, not, leb, ltb, List, [], ◌∷◌, length, map, filter, sum_by, refl, sym, ◌∙◌, ap, subst, arith, eqb-true, eq-eqb, ne_eqb, le-leb, leb-true, lt-ltb, if◌then◌else◌}
use Rattle.std.proofs.lemmas.Bool.{lt-leb}
use Rattle.std.specs.List.{list_any}
use Rattle.std.specs.List.Sorted.{IsPermutation}
use Rattle.std.specs.BinaryHeap.{IsHeap}
use Rattle.std.proofs.lemmas.List.Sorted.{length_permutation, sum_by-IsPermutation}
use Rattle.std.proofs.lemmas.List.Sums.{sum_by-cons}
use Rattle.km_model.proofs.Cases.{elim_false}
use Rattle.km_model.proofs.Lists.{In, each_in, each_none, each_weaker}
use Rattle.km_model.specs.Blocks.{Block, Minimum, Black, AtLeast, needs}
use Rattle.km_model.specs.Memory.{index_of}
use Rattle.km_track.specs.Tracker.{AreRising, Live, id_of}
use Rattle.km_why.specs.declared.counts.Count.{Count}
use Rattle.km_why.specs.Counts.{count_at, raised}
use Rattle.km_why.specs.Waiting.{AreWaiting, Key, first_comes_first, is_ripe, is_ripening, is_waiting, key_of, waiting_keys}
use Rattle.km_why.proofs.Counted.{at_place}
use Rattle.km_why.proofs.Waits.{live_once, one_less, one_more, rising_same, same}

-- whether a block with this minimum has enough with so many
abbrev pub ripe_with : Minimum → ℕ → Bool
ripe_with m n = elim m [ Black ↦ false | AtLeast k ↦ ltb 0 k && leb k n ]

and_none : (q : Bool) → (q && false) ≡ false
and_none true = refl
and_none false = refl

before : (m : Minimum) (f : ℕ) → is_ripening m (f + 1) ≡ true → ripe_with m f ≡ false
before Black f e = refl
before (AtLeast n) f e = let is = eqb-true n (f + 1) e in ap (λ q. ltb 0 n && q) (lt-leb n f (omega (arith, is))) ∙ and_none (ltb 0 n)

after : (m : Minimum) (f : ℕ) → is_ripening m (f + 1) ≡ true → ripe_with m (f + 1) ≡ true
after Black f e = absurd (elim_false e)
after (AtLeast n) f e = let is = eqb-true n (f + 1) e in ap (λ q. q && leb n (f + 1)) (lt-ltb 0 n (omega (arith, is))) ∙ le-leb n (f + 1) (omega (arith, is))

needed : (m : Minimum) (f : ℕ) → is_ripening m (f + 1) ≡ true → (elim m as (λ _. Bool) [ Black ↦ false | AtLeast k ↦ k == 0 ]) ≡ false
needed Black f e = refl
needed (AtLeast n) f e = let is = eqb-true n (f + 1) e in ne_eqb n 0 (λ z. omega (arith, is, z))

not_enough : (n f : ℕ) → leb n f ≡ false → f < n
not_enough n f h = grind arith

level : (m : Minimum) (f : ℕ) → is_ripening m (f + 1) ≡ false → ripe_with m f ≡ ripe_with m (f + 1)
level Black f e = refl
level (AtLeast n) f e = ap (λ q. ltb 0 n && q) (go (leb n f) refl)
  where
    go : (q : Bool) → leb n f ≡ q → q ≡ leb n (f + 1)
    go true g = let le = leb-true n f g in sym (le-leb n (f + 1) (omega (arith, le)))
    go false g =
        let lt = not_enough n f g in
        elim (leb n (f + 1)) as (λ r. leb n (f + 1) ≡ r → false ≡ r) [
          | true ↦ λ h. let le = leb-true n (f + 1) h in absurd (elim_false (sym e ∙ eq-eqb n (f + 1) (omega (arith, lt, le))))
          | false ↦ λ _. refl
        ] refl

grows : (m : Minimum) (f g : ℕ) → f ≤ g → ripe_with m f ≡ true → ripe_with m g ≡ true
grows Black f g le e = e
grows (AtLeast n) f g le e = go (ltb 0 n) (leb n f) refl e
  where
    go : (a b : Bool) → leb n f ≡ b → (a && b) ≡ true → (a && leb n g) ≡ true
    go true true h k = let low = leb-true n f h in le-leb n g (omega (arith, low, le))
    go true false h k = absurd (elim_false k)
    go false b h k = absurd (elim_false k)

pub ones : {X : Type 0} (xs : List X) → sum_by (λ (x : X). 1) xs ≡ length xs
ones [] = refl
ones {X = X} (x ∷ xs) = sum_by-cons (λ (y : X). 1) x xs ∙ (let more = ones xs in let e : 1 + sum_by (λ (y : X). 1) xs ≡ suc (length xs) = omega (arith, more) in e)

-- as many keys as wait
pub so_many : (live : List Live) (cs : List Count) (members : List Block) (keys : List Key) (len capacity : ℕ) → AreWaiting live cs members keys len capacity → length keys ≡ length (waiting_keys live cs members)
so_many live cs members keys len capacity w = sym (ones keys) ∙ w.keys_are (λ _. 1) ∙ ones (waiting_keys live cs members)

or_grows : (a b c : Bool) → (b ≡ true → c ≡ true) → (a || b) ≡ true → (a || c) ≡ true
or_grows true b c f e = refl
or_grows false b c f e = f e

module _ (live : List Live) (high : ℕ) (rise : AreRising 0 live high) (cs : List Count) (l : Live) (i : In l live) (lt : index_of l.tracked.block.start < length cs)
    (other : (z : Live) → In z live → (z.tracked.block.id ≡ l.tracked.block.id → ⊥) → index_of z.tracked.block.start ≡ index_of l.tracked.block.start → ⊥) where
  found_here : (count_at (raised cs (index_of l.tracked.block.start)) (index_of l.tracked.block.start)).found ≡ (count_at cs (index_of l.tracked.block.start)).found + 1
  found_here = ap (λ (c : Count). c.found) (at_place cs (index_of l.tracked.block.start) (index_of l.tracked.block.start) (record { found = (count_at cs (index_of l.tracked.block.start)).found + 1; outside = (count_at cs (index_of l.tracked.block.start)).outside }) lt
      ∙ ap (λ (q : Bool). if q then (record { found = (count_at cs (index_of l.tracked.block.start)).found + 1; outside = (count_at cs (index_of l.tracked.block.start)).outside }) else count_at cs (index_of l.tracked.block.start)) (eq-eqb (index_of l.tracked.block.start) (index_of l.tracked.block.start) refl))

  found_there : (p : ℕ) → (p ≡ index_of l.tracked.block.start → ⊥) → count_at (raised cs (index_of l.tracked.block.start)) p ≡ count_at cs p
  found_there p n = at_place cs (index_of l.tracked.block.start) p (record { found = (count_at cs (index_of l.tracked.block.start)).found + 1; outside = (count_at cs (index_of l.tracked.block.start)).outside }) lt
      ∙ ap (λ (q : Bool). if q then (record { found = (count_at cs (index_of l.tracked.block.start)).found + 1; outside = (count_at cs (index_of l.tracked.block.start)).outside }) else count_at cs p) (ne_eqb (index_of l.tracked.block.start) p (λ s. n (sym s)))

  found_grows : (p : ℕ) → (count_at cs p).found ≤ (count_at (raised cs (index_of l.tracked.block.start)) p).found
  found_grows p = elim (p == index_of l.tracked.block.start) as (λ q. (p == index_of l.tracked.block.start) ≡ q → (count_at cs p).found ≤ (count_at (raised cs (index_of l.tracked.block.start)) p).found) [
    | true ↦ λ e. subst (λ n. (count_at cs n).found ≤ (count_at (raised cs (index_of l.tracked.block.start)) n).found) (sym (eqb-true p (index_of l.tracked.block.start) e)) (let h = found_here in omega (arith, h))
    | false ↦ λ e. let s = ap (λ (c : Count). c.found) (found_there p (λ x. elim_false (sym e ∙ eq-eqb p (index_of l.tracked.block.start) x))) in omega (arith, s)
  ] refl

  module _ (members : List Block) (keys : List Key) (len capacity : ℕ) (w : AreWaiting live cs members keys len capacity) where
    alike : (z : Live) → In z live → (z.tracked.block.id ≡ l.tracked.block.id → ⊥) → is_waiting cs members z.tracked.block ≡ is_waiting (raised cs (index_of l.tracked.block.start)) members z.tracked.block
    alike z j n = ap (λ (c : Count). ripe_with z.tracked.block.minimum c.found && not (list_any (λ (d : Block). d.id == z.tracked.block.id) members)) (sym (found_there (index_of z.tracked.block.start) (other z j n)))

    -- one that gets enough is no member
    outsider : is_ripening l.tracked.block.minimum ((count_at cs (index_of l.tracked.block.start)).found + 1) ≡ true → list_any (λ (d : Block). d.id == l.tracked.block.id) members ≡ false
    outsider e = each_none (λ (d : Block). d.id == l.tracked.block.id) members (λ m j. elim (m.id == l.tracked.block.id) as (λ q. (m.id == l.tracked.block.id) ≡ q → q ≡ false) [
      | true ↦ λ s.
          let z = each_in (λ (b : Block). (x : Live) × In x live × (x.tracked.block ≡ b)) members m w.among j in
          let one : z.0 ≡ l = rising_same 0 high live z.0 l rise z.1 i (ap (λ (b : Block). b.id) z.2 ∙ eqb-true m.id l.tracked.block.id s) in
          let it : m ≡ l.tracked.block = sym z.2 ∙ ap (λ (x : Live). x.tracked.block) one in
          let has = subst (λ (b : Block). (needs 0 b || is_ripe cs b) ≡ true) it (each_in (λ (b : Block). (needs 0 b || is_ripe cs b) ≡ true) members m w.enough j) in
          absurd (elim_false (sym (ap (λ q. q || is_ripe cs l.tracked.block) (needed l.tracked.block.minimum (count_at cs (index_of l.tracked.block.start)).found e) ∙ before l.tracked.block.minimum (count_at cs (index_of l.tracked.block.start)).found e) ∙ has))
      | false ↦ λ _. refl
    ] refl)

    waits_not : is_ripening l.tracked.block.minimum ((count_at cs (index_of l.tracked.block.start)).found + 1) ≡ true → is_waiting cs members l.tracked.block ≡ false
    waits_not e = ap (λ q. q && not (list_any (λ (d : Block). d.id == l.tracked.block.id) members)) (before l.tracked.block.minimum (count_at cs (index_of l.tracked.block.start)).found e)

    waits_now : is_ripening l.tracked.block.minimum ((count_at cs (index_of l.tracked.block.start)).found + 1) ≡ true → is_waiting (raised cs (index_of l.tracked.block.start)) members l.tracked.block ≡ true
    waits_now e =
        ap (λ n. ripe_with l.tracked.block.minimum n && not (list_any (λ (d : Block). d.id == l.tracked.block.id) members)) found_here
        ∙ ap (λ q. q && not (list_any (λ (d : Block). d.id == l.tracked.block.id) members)) (after l.tracked.block.minimum (count_at cs (index_of l.tracked.block.start)).found e)
        ∙ ap not (outsider e)

    -- there is room for it
    pub has_place : is_ripening l.tracked.block.minimum ((count_at cs (index_of l.tracked.block.start)).found + 1) ≡ true → len < capacity
    has_place e =
        let less = one_less (λ (x : Live). key_of (id_of x)) (λ (x : Live). is_waiting cs members x.tracked.block) (λ (x : Live). is_waiting cs members x.tracked.block) l live i (waits_not e) in
        let many = so_many live cs members keys len capacity w in
        let mapped = map_long (filter (λ (x : Live). is_waiting cs members x.tracked.block) live) in
        let is = w.len_is in let room = w.room in
        omega (arith, less, many, mapped, is, room)
      where
        map_long : (xs : List Live) → length (map (λ (x : Live). key_of (id_of x)) xs) ≡ length xs
        map_long [] = refl
        map_long (x ∷ xs) = ap suc (map_long xs)

    turned : (q : Bool) → is_ripening l.tracked.block.minimum ((count_at cs (index_of l.tracked.block.start)).found + 1) ≡ q → (keys' : List Key) → IsPermutation (if q then key_of (id_of l) ∷ keys else keys) keys'
        → (g : Key → ℕ) → sum_by g keys' ≡ sum_by g (waiting_keys live (raised cs (index_of l.tracked.block.start)) members)
    turned true e keys' p g =
        let f : Live → Key = λ x. key_of (id_of x) in
        let test : Live → Bool = λ x. is_waiting cs members x.tracked.block in
        let test' : Live → Bool = λ x. is_waiting (raised cs (index_of l.tracked.block.start)) members x.tracked.block in
        sum_by-IsPermutation g (f l ∷ keys) keys' p
        ∙ sum_by-cons g (f l) keys
        ∙ ap (λ n. g (f l) + n) (w.keys_are g)
        ∙ sym (sum_by-cons g (f l) (map f (filter test live)))
        ∙ sym (sum_by-IsPermutation g (f l ∷ map f (filter test live)) (map f (filter test' live)) (one_more f test test' l live (live_once f test test' l 0 high live rise i alike) (waits_not e) (waits_now e)))
    turned false e keys' p g =
        let f : Live → Key = λ x. key_of (id_of x) in
        let test : Live → Bool = λ x. is_waiting cs members x.tracked.block in
        let test' : Live → Bool = λ x. is_waiting (raised cs (index_of l.tracked.block.start)) members x.tracked.block in
        sum_by-IsPermutation g keys keys' p ∙ subst (λ xs. sum_by g keys ≡ sum_by g (map f xs)) (same f test test' l live each) (w.keys_are g)
      where
        here : is_waiting cs members l.tracked.block ≡ is_waiting (raised cs (index_of l.tracked.block.start)) members l.tracked.block
        here = ap (λ q. q && not (list_any (λ (d : Block). d.id == l.tracked.block.id) members))
            (level l.tracked.block.minimum (count_at cs (index_of l.tracked.block.start)).found e ∙ ap (ripe_with l.tracked.block.minimum) (sym found_here))

        each : (z : Live) → In z live → is_waiting cs members z.tracked.block ≡ is_waiting (raised cs (index_of l.tracked.block.start)) members z.tracked.block
        each z j = elim (z.tracked.block.id == l.tracked.block.id) as (λ q. (z.tracked.block.id == l.tracked.block.id) ≡ q → is_waiting cs members z.tracked.block ≡ is_waiting (raised cs (index_of l.tracked.block.start)) members z.tracked.block) [
          | true ↦ λ s. subst (λ (x : Live). is_waiting cs members x.tracked.block ≡ is_waiting (raised cs (index_of l.tracked.block.start)) members x.tracked.block) (sym (rising_same 0 high live z l rise j i (eqb-true z.tracked.block.id l.tracked.block.id s))) here
          | false ↦ λ s. alike z j (λ x. elim_false (sym s ∙ eq-eqb z.tracked.block.id l.tracked.block.id x))
        ] refl

    long_is : (q : Bool) (keys' : List Key) (len' : ℕ) → IsPermutation (if q then key_of (id_of l) ∷ keys else keys) keys' → len' ≡ (if q then len + 1 else len) → len' ≡ length keys'
    long_is true keys' len' p e = let is = w.len_is in let many = length_permutation (key_of (id_of l) ∷ keys) keys' p in omega (arith, is, many, e)
    long_is false keys' len' p e = let is = w.len_is in let many = length_permutation keys keys' p in omega (arith, is, many, e)

    -- the heap after the count
    pub raised_waits : (keys' : List Key) (len' capacity' : ℕ)
        → IsPermutation (if is_ripening l.tracked.block.minimum ((count_at cs (index_of l.tracked.block.start)).found + 1) then key_of (id_of l) ∷ keys else keys) keys'
        → len' ≡ (if is_ripening l.tracked.block.minimum ((count_at cs (index_of l.tracked.block.start)).found + 1) then len + 1 else len)
        → capacity ≤ capacity' → (IsHeap first_comes_first keys → IsHeap first_comes_first keys')
        → AreWaiting live (raised cs (index_of l.tracked.block.start)) members keys' len' capacity'
    raised_waits keys' len' capacity' p e le ordered = record {
      keys_are = turned (is_ripening l.tracked.block.minimum ((count_at cs (index_of l.tracked.block.start)).found + 1)) refl keys' p;
      len_is = long_is (is_ripening l.tracked.block.minimum ((count_at cs (index_of l.tracked.block.start)).found + 1)) keys' len' p e;
      room = let r = w.room in omega (arith, r, le);
      ordered = ordered w.ordered;
      among = w.among;
      enough = each_weaker (λ (m : Block). (needs 0 m || is_ripe cs m) ≡ true) (λ (m : Block). (needs 0 m || is_ripe (raised cs (index_of l.tracked.block.start)) m) ≡ true)
          (λ m. or_grows (needs 0 m) (is_ripe cs m) (is_ripe (raised cs (index_of l.tracked.block.start)) m) (grows m.minimum (count_at cs (index_of m.start)).found (count_at (raised cs (index_of l.tracked.block.start)) (index_of m.start)).found (found_grows (index_of m.start)))) members w.enough;
    }
