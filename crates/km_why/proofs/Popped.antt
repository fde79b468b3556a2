-- The first of those that wait is taken from the heap.
use Rattle.std.proofs.Common.{◌≡◌, ℕ, suc, ◌+◌, ◌<◌, ◌≤◌, ◌==◌, inl, inr, Bool, true, false, ◌&&◌, ◌||◌, not, cond, ltb, List, [], ◌∷◌, ◌++◌, length, map, filter, sum_by, refl, sym, ◌∙◌, ap, subst, arith, eqb-true, eq-eqb, ne_eqb, ltb-true}
use Rattle.std.specs.BinaryHeap.{IsUpperBound, PopsGreatest}
use Rattle.std.specs.List.{list_any}
use Rattle.std.specs.List.Sorted.{IsPermutation}
use Rattle.std.specs.Ordering.{is_lt, ordering_then}
use Rattle.std.specs.declared.cmp.Ordering.{Ordering}
use Rattle.std.specs.declared.cmp.Ordering.TheVariants.{Less, Equal, Greater}
use Rattle.std.proofs.lemmas.Bool.{and_parts, or_right}
use Rattle.std.proofs.lemmas.List.Folds.{list_any-append}
use Rattle.std.proofs.lemmas.List.Sorted.{length_permutation, sum_by-IsPermutation}
use Rattle.std.proofs.lemmas.List.Sums.{sum_by-cons}
use Rattle.std.proofs.lemmas.Map.Keys.{ge_from_not_lt}
use Rattle.km_model.proofs.Lists.{In, each_push, filter_in, in_filter, in_map, map_in}
use Rattle.km_model.specs.Blocks.{Block, needs}
use Rattle.km_track.specs.Tracker.{AreRising, Live, id_of}
use Rattle.km_why.specs.declared.counts.Count.{Count}
use Rattle.km_why.specs.Waiting.{AreWaiting, IsFirst, IsTaken, Key, first_comes_first, is_ripe, is_waiting, key_of}
use Rattle.km_why.proofs.Waits.{live_once, one_more}

-- whether two keys are one
abbrev same_key : Key → Key → Bool
same_key x y = (x.0.0 == y.0.0) && (x.1 == y.1)

abbrev key_at : ℕ → ℕ → Key
key_at n m = (record { 0 = n }, m)

key_same : (x y : Key) → same_key x y ≡ true → x ≡ y
key_same x y e =
    let parts = and_parts (x.0.0 == y.0.0) (x.1 == y.1) e in
    ap (λ n. key_at n x.1) (eqb-true x.0.0 y.0.0 parts.0) ∙ ap (key_at y.0.0) (eqb-true x.1 y.1 parts.1)

-- how often a key is at one place
abbrev one_at : Key → Key → ℕ
one_at k x = cond (same_key x k) 1 0

one_here : (k : Key) → one_at k k ≡ 1
one_here k = ap (λ q. cond (q && (k.1 == k.1)) 1 0) (eq-eqb k.0.0 k.0.0 refl) ∙ ap (λ q. cond q 1 0) (eq-eqb k.1 k.1 refl)

is_one : (k x : Key) → 0 < one_at k x → x ≡ k
is_one k x lt = key_same x k (go (same_key x k) lt)
  where
    go : (q : Bool) → 0 < cond q 1 0 → q ≡ true
    go true h = refl
    go false h = absurd (let none : 0 < 0 = h in omega (arith, none))

-- a sum that isn't 0 has a term that isn't
some_in : (g : Key → ℕ) (ks : List Key) → 0 < sum_by g ks → (x : Key) × In x ks × (0 < g x)
some_in g [] lt = absurd (let none : 0 < 0 = lt in omega (arith, none))
some_in g (x ∷ ks) lt = go (some_in g ks)
  where
    none : (n : ℕ) → ltb 0 n ≡ false → n ≤ 0
    none n f = grind arith

    others : (a b t : ℕ) → a ≤ 0 → t ≡ a + b → 0 < t → 0 < b
    others a b t f e h = omega (arith, f, e, h)

    go : (0 < sum_by g ks → (y : Key) × In y ks × (0 < g y)) → (y : Key) × In y (x ∷ ks) × (0 < g y)
    go more = elim (ltb 0 (g x)) as (λ q. ltb 0 (g x) ≡ q → (y : Key) × In y (x ∷ ks) × (0 < g y)) [
      | true ↦ λ e. (x, inl refl, ltb-true 0 (g x) e)
      | false ↦ λ e. let r = more (others (g x) (sum_by g ks) (sum_by g (x ∷ ks)) (none (g x) e) (sum_by-cons g x ks) lt) in (r.0, inr r.1, r.2)
    ] refl

sum_at : (g : Key → ℕ) (ks : List Key) (x : Key) → In x ks → g x ≤ sum_by g ks
sum_at g [] x i = absurd i
sum_at g (y ∷ ks) x (inl same) = here (g x) (g y) (sum_by g ks) (sum_by g (y ∷ ks)) (ap g same) (sum_by-cons g y ks)
  where
    here : (a b c t : ℕ) → a ≡ b → t ≡ b + c → a ≤ t
    here a b c t e f = omega (arith, e, f)
sum_at g (y ∷ ks) x (inr i) = there (g x) (g y) (sum_by g ks) (sum_by g (y ∷ ks)) (sum_at g ks x i) (sum_by-cons g y ks)
  where
    there : (a b c t : ℕ) → a ≤ c → t ≡ b + c → a ≤ t
    there a b c t e f = omega (arith, e, f)

first_not_lt : (a b : Ordering) → is_lt (ordering_then a b) ≡ false → is_lt a ≡ false
first_not_lt Less b e = e
first_not_lt Equal b e = refl
first_not_lt Greater b e = e

-- none of these comes before the greatest
bound : (k : Key) (ks : List Key) → IsUpperBound first_comes_first k ks → (x : Key) → In x ks → k.0.0 ≤ x.0.0
bound k [] h x i = absurd i
bound k (y ∷ ks) h x (inl same) = subst (λ (z : Key). k.0.0 ≤ z.0.0) (sym same) (ge_from_not_lt y.0.0 k.0.0 (first_not_lt _ _ h.0))
bound k (y ∷ ks) h x (inr i) = bound k ks h.1 x i

module _ (live : List Live) (cs : List Count) (members : List Block) (keys : List Key) (len capacity : ℕ) (w : AreWaiting live cs members keys len capacity) where
  abbrev key : Live → Key
  key l = key_of (id_of l)

  abbrev test : Live → Bool
  test l = is_waiting cs members l.tracked.block

  -- the key of a block that waits is in the heap
  in_heap : (l : Live) → In l live → test l ≡ true → In (key l) keys
  in_heap l i e =
      let x = some_in (one_at (key l)) keys (some (one_at (key l) (key l)) (sum_by (one_at (key l)) (map key (filter test live))) (sum_by (one_at (key l)) keys) (one_here (key l))
      (sum_at (one_at (key l)) (map key (filter test live)) (key l) (map_in key (filter test live) l (in_filter test live l i e))) (w.keys_are (one_at (key l)))) in
      subst (λ y. In y keys) (is_one (key l) x.0 x.2) x.1
    where
      some : (a b c : ℕ) → a ≡ 1 → a ≤ b → c ≡ b → 0 < c
      some a b c e le f = omega (arith, e, le, f)

  -- where the heap is empty, none waits
  pub none_waits : len ≡ 0 → (l : Live) → In l live → test l ≡ false
  none_waits e l i = go (test l) refl
    where
      empty : (ks : List Key) → length ks ≡ 0 → (x : Key) → In x ks → ⊥
      empty [] f x j = j
      empty (y ∷ ks) f x j = let g : suc (length ks) ≡ 0 = f in omega (arith, g)

      go : (q : Bool) → test l ≡ q → q ≡ false
      go true f = absurd (empty keys (sym w.len_is ∙ e) (key l) (in_heap l i f))
      go false f = refl

  module _ (high : ℕ) (rise : AreRising 0 live high) (keys' : List Key) (len' capacity' : ℕ) (k : Key) (p : IsPermutation keys (k ∷ keys')) (pops : PopsGreatest first_comes_first keys k keys')
      (shorter : len' + 1 ≡ len) (room : capacity ≤ capacity') where
    there : 0 < sum_by (one_at k) (map key (filter test live))
    there = some (one_at k k) (sum_by (one_at k) keys') (sum_by (one_at k) (k ∷ keys')) (sum_by (one_at k) keys) (sum_by (one_at k) (map key (filter test live))) (one_here k) (sum_by-cons (one_at k) k keys')
        (sum_by-IsPermutation (one_at k) keys (k ∷ keys') p) (w.keys_are (one_at k))
      where
        some : (a b t old all : ℕ) → a ≡ 1 → t ≡ a + b → t ≡ old → old ≡ all → 0 < all
        some a b t old all e f g h = omega (arith, e, f, g, h)

    pub first : IsFirst live cs members k
    first =
        let x = some_in (one_at k) (map key (filter test live)) there in
        let l = in_map key (filter test live) x.0 x.1 in
        let at = filter_in test live l.0 l.1 in
        let its : key l.0 ≡ k = sym l.2 ∙ is_one k x.0 x.2 in
        record {
          it = l.0;
          there = at.1;
          its = its;
          waits = at.0;
          least = λ z i e. subst (λ (y : Key). y.0.0 ≤ (key z).0.0) (sym its) (bound k keys (pops w.ordered).1 (key z) (in_heap z i e));
        }

    module _ (f : IsFirst live cs members k) where
      abbrev later : Live → Bool
      later x = is_waiting cs (members ++ (f.it).tracked.block ∷ []) x.tracked.block

      or_none : (q : Bool) → (q || false) ≡ q
      or_none true = refl
      or_none false = refl

      or_all : (q : Bool) → (q || true) ≡ true
      or_all true = refl
      or_all false = refl

      and_none : (q : Bool) → (q && false) ≡ false
      and_none true = refl
      and_none false = refl

      alike : (z : Live) → In z live → (z.tracked.block.id ≡ (f.it).tracked.block.id → ⊥) → later z ≡ test z
      alike z i other =
          ap (λ q. is_ripe cs z.tracked.block && not q)
          (list_any-append (λ (c : Block). c.id == z.tracked.block.id) members ((f.it).tracked.block ∷ [])
          ∙ ap (λ r. list_any (λ (c : Block). c.id == z.tracked.block.id) members || (r || false)) (ne_eqb (f.it).tracked.block.id z.tracked.block.id (λ e. other (sym e)))
          ∙ or_none (list_any (λ (c : Block). c.id == z.tracked.block.id) members))

      gone : later f.it ≡ false
      gone =
          ap (λ q. is_ripe cs (f.it).tracked.block && not q)
          (list_any-append (λ (c : Block). c.id == (f.it).tracked.block.id) members ((f.it).tracked.block ∷ [])
          ∙ ap (λ r. list_any (λ (c : Block). c.id == (f.it).tracked.block.id) members || (r || false)) (eq-eqb (f.it).tracked.block.id (f.it).tracked.block.id refl)
          ∙ or_all (list_any (λ (c : Block). c.id == (f.it).tracked.block.id) members))
          ∙ and_none (is_ripe cs (f.it).tracked.block)

      less : IsPermutation (key f.it ∷ map key (filter later live)) (map key (filter test live))
      less = one_more key later test f.it live (live_once key later test f.it 0 high live rise f.there alike) gone f.waits

      cancel : (gk s ks old all gl t ls : ℕ) → ks ≡ gk + s → ks ≡ old → old ≡ all → all ≡ ls → ls ≡ gl + t → gl ≡ gk → s ≡ t
      cancel gk s ks old all gl t ls a b c d e g = omega (arith, a, b, c, d, e, g)

      shorter_by : (n m o q : ℕ) → suc n ≡ m → o ≡ m → q + 1 ≡ o → q ≡ n
      shorter_by n m o q a b c = omega (arith, a, b, c)

      -- what is left in the heap waits still
      pub left : AreWaiting live cs (members ++ (f.it).tracked.block ∷ []) keys' len' capacity'
      left = record {
        keys_are = λ g. cancel (g k) (sum_by g keys') (sum_by g (k ∷ keys')) (sum_by g keys) (sum_by g (map key (filter test live))) (g (key f.it)) (sum_by g (map key (filter later live))) (sum_by g (key f.it ∷ map key (filter later live)))
            (sum_by-cons g k keys') (sum_by-IsPermutation g keys (k ∷ keys') p) (w.keys_are g) (sum_by-IsPermutation g (key f.it ∷ map key (filter later live)) (map key (filter test live)) less)
            (sum_by-cons g (key f.it) (map key (filter later live))) (ap g f.its);
        len_is = shorter_by (length keys') (length keys) len len' (length_permutation keys (k ∷ keys') p) w.len_is shorter;
        room = let r = w.room in omega (arith, r, room);
        ordered = (pops w.ordered).0;
        among = each_push (λ (m : Block). (l : Live) × In l live × (l.tracked.block ≡ m)) members (f.it).tracked.block w.among (f.it, f.there, refl);
        enough = each_push (λ (m : Block). (needs 0 m || is_ripe cs m) ≡ true) members (f.it).tracked.block w.enough
            (or_right (needs 0 (f.it).tracked.block) (is_ripe cs (f.it).tracked.block) (and_parts (is_ripe cs (f.it).tracked.block) (not (list_any (λ (c : Block). c.id == (f.it).tracked.block.id) members)) f.waits).0);
      }

    pub taken : IsTaken live cs members keys' len' capacity' k
    taken = record { first = first; waiting = left first }
