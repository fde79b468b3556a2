-- Places of live blocks, and which wait once a head may pass on one more.
use Rattle.std.proofs.Common.{◌≡◌, ℕ, ◌+◌, ◌<◌, ◌==◌, inl, inr, true, false, ◌&&◌, ◌||◌, not, List, [], ◌∷◌, ◌++◌, length, map, filter, sum_by, refl, sym, ◌∙◌, ap, subst, eqb-true, if◌then◌else◌}
use Rattle.std.specs.List.{list_any}
use Rattle.km_model.proofs.Lists.{In, each_weaker}
use Rattle.km_model.specs.Blocks.{Block, needs}
use Rattle.km_model.specs.Memory.{index_of}
use Rattle.km_record.specs.declared.kinds.RecId.{RecId}
use Rattle.km_record.specs.declared.record.Record.{Record}
use Rattle.km_state.specs.State.{blocks_in}
use Rattle.km_track.specs.Tracker.{AreRising, Live, Tracker, id_of}
use Rattle.km_words.specs.Told.{Told}
use Rattle.km_why.specs.Told.{blocks_of}
use Rattle.km_why.specs.declared.counts.Count.{Count}
use Rattle.km_why.specs.Counts.{AreSpread, added, count_at}
use Rattle.km_why.specs.Waiting.{ArePlaced, AreWaiting, CanCount, CanWait, Key, is_ripe, is_waiting, key_of}
use Rattle.km_why.proofs.Counted.{at_place, same_place}
use Rattle.km_why.proofs.Passed.{IsCounting, all_aligned, has_room, long_same, spread_same}
use Rattle.km_why.proofs.Stacks.{tells_after}
use Rattle.km_why.proofs.Raised.{ripe_with}

pub in_blocks : (ls : List Live) (y : Live) → In y ls → In y.tracked.block (blocks_in (map (λ (l : Live). l.tracked) ls))
in_blocks [] y i = absurd i
in_blocks (x ∷ ls) y (inl e) = inl (ap (λ (l : Live). l.tracked.block) e)
in_blocks (x ∷ ls) y (inr i) = inr (in_blocks ls y i)

-- blocks that never meet have places of their own
pub placed_spread : (words : ℕ) (t : Tracker) → AreSpread words t → AreRising 0 t.live t.registered → ArePlaced t.live t.registered
placed_spread words t s rising = record {
  rise = rising;
  own = λ y z i j e. ap (λ (b : Block). b.id) (same_place [] (blocks_of t) s.rise s.apart (all_aligned words t s) s.some y.tracked.block z.tracked.block (in_blocks t.live y i) (in_blocks t.live z j) e);
}

pub found_same : (cs : List Count) (p q : ℕ) → p < length cs → (count_at (added cs p) q).found ≡ (count_at cs q).found
found_same cs p q lt =
    ap (λ (c : Count). c.found) (at_place cs p q (record { found = (count_at cs p).found; outside = (count_at cs p).outside + 1 }) lt)
    ∙ (elim (p == q) as (λ r. (p == q) ≡ r → (if r then record { found = (count_at cs p).found; outside = (count_at cs p).outside + 1 } else count_at cs q).found ≡ (count_at cs q).found) [
      | true ↦ λ e. ap (λ n. (count_at cs n).found) (eqb-true p q e)
      | false ↦ λ _. refl
    ] refl)

-- none begins to wait
pub added_waits : (live : List Live) (cs : List Count) (p : ℕ) (members : List Block) (keys : List Key) (len capacity : ℕ) → p < length cs
    → AreWaiting live cs members keys len capacity → AreWaiting live (added cs p) members keys len capacity
added_waits live cs p members keys len capacity lt w = record {
  keys_are = λ g. subst (λ ls. sum_by g keys ≡ sum_by g (map (λ (l : Live). key_of (id_of l)) ls)) (filtered live) (w.keys_are g);
  len_is = w.len_is;
  room = w.room;
  ordered = w.ordered;
  among = w.among;
  enough = each_weaker (λ (m : Block). (needs 0 m || is_ripe cs m) ≡ true) (λ (m : Block). (needs 0 m || is_ripe (added cs p) m) ≡ true)
      (λ m e. subst (λ n. (needs 0 m || ripe_with m.minimum n) ≡ true) (sym (found_same cs p (index_of m.start) lt)) e) members w.enough;
}
  where
    filtered : (ls : List Live) → filter (λ (l : Live). is_waiting cs members l.tracked.block) ls ≡ filter (λ (l : Live). is_waiting (added cs p) members l.tracked.block) ls
    filtered ls = go ls
      where
        go : (xs : List Live) → filter (λ (l : Live). is_waiting cs members l.tracked.block) xs ≡ filter (λ (l : Live). is_waiting (added cs p) members l.tracked.block) xs
        go [] = refl
        go (x ∷ xs) =
            ap (λ n. if ripe_with x.tracked.block.minimum n && not (list_any (λ (d : Block). d.id == x.tracked.block.id) members) then x ∷ filter (λ (l : Live). is_waiting cs members l.tracked.block) xs else filter (λ (l : Live). is_waiting cs members l.tracked.block) xs) (sym (found_same cs p (index_of x.tracked.block.start) lt))
            ∙ ap (λ ys. if is_waiting (added cs p) members x.tracked.block then x ∷ ys else ys) (go xs)

pub can_wait_added : (cs : List Count) (p : ℕ) (keys : List Key) (len capacity : ℕ) (id : RecId) (r : Record) → p < length cs → CanWait cs keys len capacity id r → CanWait (added cs p) keys len capacity id r
can_wait_added cs p keys len capacity id r lt w = record {
  live = w.live;
  high = w.high;
  placed = w.placed;
  there = w.there;
  members = record { members = w.members.members; waiting = added_waits w.live cs p w.members.members keys len capacity lt w.members.waiting };
}

-- the next words can be counted
pub can_go_on : (t u : Told) (tracker : Tracker) (all : List ℕ) (old now : List Count) (left xs more : List ℕ) (keys keys' : List Key) (len len' capacity capacity' : ℕ)
    → CanCount t tracker old keys len capacity all → IsCounting t u (blocks_of tracker) all old now left → left ≡ xs ++ more
    → ((members : List Block) → AreWaiting tracker.live old members keys len capacity → AreWaiting tracker.live now members keys' len' capacity') → CanCount u tracker now keys' len' capacity' xs
can_go_on t u tracker all old now left xs more keys keys' len len' capacity capacity' can w e waits = record {
  told = tells_after t u can.told w.told;
  spread = spread_same t u tracker w.told can.spread;
  long = long_same t u old now w.told w.long can.long;
  room = has_room t u (blocks_of tracker) all old now left xs more can.room w e;
  waits = record { members = can.waits.members; waiting = waits can.waits.members can.waits.waiting };
}
