-- At first nothing is found, and none waits.
use Rattle.std.proofs.Common.{◌≡◌, ℕ, ◌≤◌, inl, inr, true, false, ◌&&◌, cond, leb, ltb, List, [], ◌∷◌, length, map, filter, sum_by, refl, sym, ◌∙◌, ap, subst, arith}
use Rattle.std.specs.BinaryHeap.{IsHeap}
use Rattle.km_model.proofs.Lists.{In}
use Rattle.km_model.specs.Blocks.{Minimum, Black, AtLeast}
use Rattle.km_track.specs.Tracker.{Live, Tracker, id_of}
use Rattle.km_why.specs.declared.counts.Count.{Count}
use Rattle.km_why.specs.Counts.{AreCounted}
use Rattle.km_why.specs.Told.{blocks_of}
use Rattle.km_why.specs.Waiting.{AreWaiting, Key, first_comes_first, is_waiting, key_of}
use Rattle.km_why.proofs.Cleared.{nothing_found, on_is}
use Rattle.km_why.proofs.Heads.{blocks_on}
use Rattle.km_why.proofs.Raised.{ripe_with}

-- where nothing is found, none waits
pub none_wait : (memory : List ℕ) (t : Tracker) (cs : List Count) (keys : List Key) (capacity : ℕ) → AreCounted memory (blocks_of t) [] cs → keys ≡ [] → length t.live ≤ capacity → IsHeap first_comes_first keys
    → AreWaiting t.live cs [] keys 0 capacity
none_wait memory t cs keys capacity counted none room ordered = record {
  keys_are = λ g. ap (sum_by g) none ∙ ap (λ ls. sum_by g (map (λ (x : Live). key_of (id_of x)) ls)) (sym (all t.live (λ l i. i)));
  len_is = ap length (sym none);
  room = room;
  ordered = ordered;
  among = tt;
  enough = tt;
}
  where
    unripe : (m : Minimum) → ripe_with m 0 ≡ false
    unripe Black = refl
    unripe (AtLeast n) = elim (ltb 0 n) as (λ q. ltb 0 n ≡ q → (q && leb n 0) ≡ false) [
      | true ↦ λ e. above n e
      | false ↦ λ _. refl
    ] refl
      where
        above : (k : ℕ) → ltb 0 k ≡ true → leb k 0 ≡ false
        above k e = grind arith

    rests : (l : Live) → In l t.live → is_waiting cs [] l.tracked.block ≡ false
    rests l i =
        ap (λ n. ripe_with l.tracked.block.minimum n && true)
        (counted.found l.tracked.block (subst (λ bs. In l.tracked.block bs) (sym (on_is t.live)) (in_on t.live l i)) ∙ nothing_found memory (blocks_of t) l.tracked.block)
        ∙ ap (λ q. q && true) (unripe l.tracked.block.minimum)
      where
        in_on : (ls : List Live) (x : Live) → In x ls → In x.tracked.block (blocks_on ls)
        in_on [] x j = absurd j
        in_on (y ∷ ls) x (inl same) = inl (ap (λ (z : Live). z.tracked.block) same)
        in_on (y ∷ ls) x (inr j) = inr (in_on ls x j)

    all : (ls : List Live) → ((l : Live) → In l ls → In l t.live) → filter (λ (x : Live). is_waiting cs [] x.tracked.block) ls ≡ []
    all ls within = go ls within
      where
        go : (xs : List Live) → ((l : Live) → In l xs → In l t.live) → filter (λ (x : Live). is_waiting cs [] x.tracked.block) xs ≡ []
        go [] h = refl
        go (x ∷ xs) h = ap (λ q. cond q (x ∷ filter (λ (y : Live). is_waiting cs [] y.tracked.block) xs) (filter (λ (y : Live). is_waiting cs [] y.tracked.block) xs)) (rests x (h x (inl refl))) ∙ go xs (λ l j. h l (inr j))
