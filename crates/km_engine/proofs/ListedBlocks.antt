-- The walk that counts the listed blocks.
use Rattle.std.proofs.Common.{◌≡◌, ℕ, suc, ◌+◌, ◌<◌, ◌≤◌, ◌^◌, true, false, List, [], ◌∷◌, ◌++◌, length, map, filter, cond, Option, Some, None, option_map, refl, sym, ap, ◌∙◌, subst, arith, append_assoc}
use Rattle.std.specs.Prelude.{find}
use Rattle.std.proofs.lemmas.List.{length-map}
use Rattle.std.proofs.lemmas.List.Sums.{length-filter, count_by-le-length}
use Rattle.km_model.specs.Output.{Script, Fresh, Begun}
use Rattle.km_record.specs.declared.kinds.RecId.{RecId}
use Rattle.km_scan.proofs.Held.{found_any}
use Rattle.km_state.specs.State.{Tracked, blocks_in, is_listed_now, listing_in}
use Rattle.km_state.proofs.StandsLaws.{listing_stands}
use Rattle.km_track.specs.Tracker.{AreRising, Live, Tracker, id_of, is_id, is_live, tracked_in}
use Rattle.km_track.proofs.Lives.{finds_it}
use Rattle.km_verdict.specs.Listing.{behind, listed_in}
use Rattle.km_verdict.proofs.Listings.{behind_its}
use Rattle.km_machine.specs.Machines.{Simulation}
use Rattle.km_engine.specs.Bench.{listed_at}
use Rattle.km_engine.specs.Session.{HasLed}

-- how many of these are listed
abbrev pub listed_among : List Live → ℕ
listed_among ls = length (listing_in (map (λ (l : Live). l.tracked) ls))

-- the first listed one of some live blocks
record First (ls : List Live) (id : RecId) : Type 0 where
  passed : List Live
  it : Live
  more : List Live
  there : ls ≡ passed ++ it ∷ more
  its : id ≡ id_of it
  number : listed_among ls ≡ suc (listed_among more)

first : (ls : List Live) (id : RecId) → Some id ≡ listed_in ls → First ls id
first [] id e = absurd (let z : ⊥ = cc in z)
first (l ∷ ls) id e =
    let rest = filter is_listed_now (map (λ (x : Live). x.tracked) ls) in
    elim (is_listed_now l.tracked) as (λ b. Some id ≡ option_map id_of (cond b (Some l) (find (λ (x : Live). is_listed_now x.tracked) ls))
    → listed_among (l ∷ ls) ≡ length (blocks_in (cond b (l.tracked ∷ rest) rest)) → First (l ∷ ls) id) [
      | true ↦ λ f n. record { passed = []; it = l; more = ls; there = refl; its = cc; number = n }
      | false ↦ λ f n.
          let r = first ls id f in
          record { passed = l ∷ r.passed; it = r.it; more = r.more; there = ap (λ xs. l ∷ xs) r.there; its = r.its; number = n ∙ r.number }
    ] e refl

none_listed : (ls : List Live) → None ≡ listed_in ls → listed_among ls ≡ 0
none_listed [] e = refl
none_listed (l ∷ ls) e =
    let rest = filter is_listed_now (map (λ (x : Live). x.tracked) ls) in
    elim (is_listed_now l.tracked) as (λ b. None ≡ option_map id_of (cond b (Some l) (find (λ (x : Live). is_listed_now x.tracked) ls)) → length (blocks_in (cond b (l.tracked ∷ rest) rest)) ≡ 0) [
      | true ↦ λ f. absurd (let z : ⊥ = cc in z)
      | false ↦ λ f. none_listed ls f
    ] e

-- a walk over the listed blocks: what it has passed by and the rest, and how many it has counted
pub record Counting (t : Tracker) (next : Option RecId) (count : ℕ) : Type 0 where
  pub front : List Live
  pub rest : List Live
  pub was : t.live ≡ front ++ rest
  pub at : next ≡ listed_in rest
  pub counted : count + listed_among rest ≡ listed_among t.live
  pub rising : AreRising 0 t.live t.registered
  pub few : length t.live < 2 ^ 32

pub counting_begins : (t : Tracker) (next : Option RecId) → AreRising 0 t.live t.registered → length t.live < 2 ^ 32 → next ≡ listed_in t.live → Counting t next 0
counting_begins t next rising few e = record { front = []; rest = t.live; was = refl; at = e; counted = omega arith; rising = rising; few = few }

-- the block that it stands on
record At (t : Tracker) (rest : List Live) (id : RecId) : Type 0 where
  passed : List Live
  it : Live
  more : List Live
  there : rest ≡ passed ++ it ∷ more
  found : find (is_id id) t.live ≡ Some it
  behind_it : behind id t.live ≡ more
  number : listed_among rest ≡ suc (listed_among more)

stands : (t : Tracker) (next : Option RecId) (count : ℕ) (id : RecId) (w : Counting t next count) → next ≡ Some id → At t w.rest id
stands t next count id w e =
    let f = first w.rest id (sym e ∙ w.at) in
    let was : t.live ≡ (w.front ++ f.passed) ++ f.it ∷ f.more = w.was ∙ ap (λ ls. w.front ++ ls) f.there ∙ sym (append_assoc w.front f.passed (f.it ∷ f.more)) in
    let rises = subst (λ ls. AreRising 0 ls t.registered) was w.rising in
    record {
      passed = f.passed;
      it = f.it;
      more = f.more;
      there = f.there;
      found = subst (λ (i : RecId). find (is_id i) t.live ≡ Some f.it) (sym f.its) (subst (λ ls. find (is_id (id_of f.it)) ls ≡ Some f.it) (sym was) (finds_it 0 t.registered (w.front ++ f.passed) f.more f.it rises));
      behind_it = subst (λ (i : RecId). behind i t.live ≡ f.more) (sym f.its) (subst (λ ls. behind (id_of f.it) ls ≡ f.more) (sym was) (behind_its 0 t.registered (w.front ++ f.passed) f.more f.it rises));
      number = f.number;
    }

pub counting_is_live : (t : Tracker) (next : Option RecId) (count : ℕ) (id : RecId) → Counting t next count → next ≡ Some id → is_live id t ≡ true
counting_is_live t next count id w e = let s = stands t next count id w e in found_any (is_id id) t.live s.it s.found

listed_are_few : (ls : List Live) → listed_among ls ≤ length ls
listed_are_few ls =
    let ts = map (λ (l : Live). l.tracked) ls in
    omega (arith, length-map (filter is_listed_now ts) (λ (u : Tracked). u.block), length-filter is_listed_now ts, count_by-le-length is_listed_now ts, length-map ls (λ (l : Live). l.tracked))

-- the block that it stands on can be counted
pub counting_fits : (t : Tracker) (next : Option RecId) (count : ℕ) (id : RecId) (w : Counting t next count) → next ≡ Some id → (count + 1 < 2 ^ 32) × (count < listed_among t.live)
counting_fits t next count id w e =
    let s = stands t next count id w e in
    let fits = listed_are_few t.live in
    (omega (arith, w.counted, s.number, fits, w.few), omega (arith, w.counted, s.number))

-- it goes on behind the block
pub counting_goes_on : (t : Tracker) (next after : Option RecId) (count : ℕ) (id : RecId) (w : Counting t next count) → next ≡ Some id → after ≡ listed_in (behind id t.live) → Counting t after (count + 1)
counting_goes_on t next after count id w e on =
    let s = stands t next count id w e in
    record {
      front = w.front ++ s.passed ++ s.it ∷ [];
      rest = s.more;
      was = w.was ∙ ap (λ ls. w.front ++ ls) s.there ∙ sym (append_assoc w.front s.passed (s.it ∷ s.more)) ∙ sym (append_assoc (w.front ++ s.passed) (s.it ∷ []) s.more);
      at = on ∙ ap listed_in s.behind_it;
      counted = omega (arith, w.counted, s.number);
      rising = w.rising;
      few = w.few;
    }

pub counting_ends : (t : Tracker) (next : Option RecId) (count : ℕ) → Counting t next count → next ≡ None → count ≡ listed_among t.live
counting_ends t next count w e = omega (arith, w.counted, none_listed w.rest (sym e ∙ w.at))

-- what is listed of a machine is listed where the lines led that it stands for
pub listed_stands : (machine : Option Simulation) (led : Script) (m : Simulation) (count : ℕ) → machine ≡ Some m → HasLed machine led → count ≡ length (listing_in (tracked_in m.core.parts.objects.tracker)) → count ≡ listed_at led
listed_stands None led m count is has e = absurd (let z : ⊥ = cc in z)
listed_stands (Some x) Fresh m count is has e = absurd has
listed_stands (Some x) (Begun run) m count is has e =
    let same : m ≡ x = cc in
    e ∙ ap (λ (y : Simulation). length (listing_in (tracked_in y.core.parts.objects.tracker))) same
    ∙ ap length (sym (ap listing_in has.stands.parts.objects.tracked) ∙ listing_stands x.core.parts.words run.history has.state has.stands.history)
