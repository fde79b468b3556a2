-- Live blocks by their ids.
use Rattle.std.proofs.Common.{◌≡◌, ℕ, ◌+◌, List, [], ◌∷◌, map, Some, arith}
use Rattle.km_record.specs.declared.kinds.RecId.{RecId}
use Rattle.km_state.specs.State.{Tracked}
use Rattle.km_track.specs.Tracker.{AreRising, Live, Tracker, is_id, live_with, tracked_in}
use Rattle.km_track.proofs.Lives.{is_its}
use Rattle.km_laws.proofs.Lists.{In, find_in, map_in, Rising, rising_lower, rising_unique}

rising : (low high : ℕ) (ls : List Live) → AreRising low ls high → Rising (λ (u : Tracked). u.block.id) low (map (λ (l : Live). l.tracked) ls) high
rising low high [] r = r
rising low high (l ∷ ls) r =
    (r.0, rising_lower (λ (u : Tracked). u.block.id) (map (λ (x : Live). x.tracked) ls) (l.tracked.block.id + 1) _ high (omega arith) (rising (l.tracked.block.id + 1) high ls r.1))

-- no two have one id
abbrev pub Once : List Tracked → Type 0
Once ts = (u v : Tracked) → In u ts → In v ts → u.block.id ≡ v.block.id → u ≡ v

pub once : (t : Tracker) → AreRising 0 t.live t.registered → Once (tracked_in t)
once t r u v i j e = rising_unique (λ (x : Tracked). x.block.id) (tracked_in t) 0 t.registered u v (rising 0 t.registered t.live r) i j e

-- the one with an id is live
pub there : (id : RecId) (t : Tracker) (l : Live) → live_with id t ≡ Some l → In l.tracked (tracked_in t) × (l.tracked.block.id ≡ id.generation)
there id t l e = let f = find_in (is_id id) t.live l e in (map_in (λ (x : Live). x.tracked) t.live l f.1, (is_its id l f.0).1)
