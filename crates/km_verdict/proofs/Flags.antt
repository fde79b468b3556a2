use Rattle.std.proofs.Common.{◌≡◌, ℕ, ◌+◌, ◌^◌, ◌<◌, Bool, true, false, ◌&&◌, not, List, [], ◌∷◌, map, length, cond, filter, Option, Some, option_map, if◌then◌else◌, refl, sym, ap, ◌∙◌, arith}
use Rattle.std.specs.Prelude.{find}
use Rattle.std.proofs.lemmas.List.{length-map}
use Rattle.std.proofs.lemmas.List.Sums.{length-filter, count_by-le-length}
use Rattle.km_record.specs.declared.kinds.RecId.{RecId}
use Rattle.km_state.specs.State.{Tracked}
use Rattle.km_state.specs.StateAnswers.{is_unreferenced_now, new_in}
use Rattle.km_state.specs.StateAfter.{judged}
use Rattle.km_track.specs.Tracker as tracker
use Rattle.km_track.specs.Tracker.{AreRising, Live, Tracker, changed, first_live, id_of, is_id, live_behind, live_from, tracked_in}
use Rattle.km_track.proofs.Lives.{Walked, Standing, walk_stands, walk_goes_on, walk_left}

-- the verdict on one block
abbrev pub judge : ℕ → Live → Live
judge began l = record l { tracked = judged began l.tracked }

-- a walk that makes verdicts, with the number of new blocks so far
pub record Flagging (began : ℕ) (old now : Tracker) (next : Option RecId) (new : ℕ) : Type 0 where
  pub walk : Walked (judge began) old.live now.live next
  pub others : now ≡ record old { live = now.live }
  pub counted : new + new_in began (map (λ (l : Live). l.tracked) walk.rest) ≡ new_in began (tracked_in old)
  pub rising : AreRising 0 old.live old.registered
  pub few : length old.live < 2 ^ 32

new_cons : (began : ℕ) (t : Tracked) (ts : List Tracked) → new_in began (t ∷ ts) ≡ (if is_unreferenced_now began t && not t.flagged then 1 else 0) + new_in began ts
new_cons began t ts =
    let X = filter (is_unreferenced_now began) ts in
    let new = λ (x : Tracked). not x.flagged in
    elim (is_unreferenced_now began t) as (λ u. length (filter new (cond u (t ∷ X) X)) ≡ (if u && not t.flagged then 1 else 0) + length (filter new X)) [
      | true ↦ elim t.flagged as (λ f. length (cond (not f) (t ∷ filter new X) (filter new X)) ≡ (if not f then 1 else 0) + length (filter new X)) [ true ↦ omega arith | false ↦ omega arith ]
      | false ↦ omega arith
    ]

pub flag_begins : (began : ℕ) (old : Tracker) (next : Option RecId) → AreRising 0 old.live old.registered → length old.live < 2 ^ 32 → next ≡ option_map id_of (first_live old.live) → Flagging began old old next 0
flag_begins began old next r few e = record {
  walk = record { front = []; rest = old.live; was = refl; is = refl; at = e };
  others = refl;
  counted = omega arith;
  rising = r;
  few = few;
}

-- a walk stands on a block
pub flag_stands : (began : ℕ) (old now : Tracker) (next : Option RecId) (new : ℕ) (id : RecId) (w : Flagging began old now next new) → next ≡ Some id → Standing (judge began) old.live now.live id w.walk.front w.walk.rest
flag_stands began old now next new id w e = walk_stands (judge began) 0 old.registered old.live now.live next id w.walk (λ l. refl) w.rising e

-- what is left of it
pub flag_left : (began : ℕ) (old now : Tracker) (next : Option RecId) (new : ℕ) (w : Flagging began old now next new) → live_from next now.live ≡ w.walk.rest
flag_left began old now next new w = walk_left (judge began) 0 old.registered old.live now.live next w.walk (λ l. refl) w.rising

-- and it goes on behind the block
pub flag_goes_on : (began : ℕ) (old now after : Tracker) (next behind : Option RecId) (new : ℕ) (id : RecId) (w : Flagging began old now next new) → next ≡ Some id → (white is_new : Bool)
    → ((l : Live) → find (is_id id) now.live ≡ Some l → white ≡ is_unreferenced_now began l.tracked) → after ≡ changed (is_id id) (tracker.judged white) now → behind ≡ option_map id_of (live_behind id now.live)
    → ((l : Live) → find (is_id id) now.live ≡ Some l → is_new ≡ (white && not l.tracked.flagged))
    → (g : Flagging began old after behind (if is_new then new + 1 else new)) × (length g.walk.rest < length w.walk.rest)
flag_goes_on began old now after next behind new id w e white is_new test a n counts =
    let s = flag_stands began old now next new id w e in
    let unref = test s.it s.found in
    let more = walk_goes_on (judge began) (λ (l : Live). record l { tracked = tracker.judged white l.tracked }) 0 old.registered old.live now.live id w.walk.front w.walk.rest s (λ l. refl) w.rising after.live
    (ap (λ (t : Tracker). t.live) a) (ap (λ (u : Bool). record s.it { tracked = tracker.judged u s.it.tracked }) unref) behind n in
    let counted = w.counted in
    let one = ap (λ ls. new_in began (map (λ (l : Live). l.tracked) ls)) s.there ∙ new_cons began s.it.tracked (map (λ (l : Live). l.tracked) s.more) in
    let new_here = counts s.it s.found ∙ ap (λ u. u && not s.it.tracked.flagged) unref in (
      record {
        walk = more.0;
        others = a ∙ ap (changed (is_id id) (tracker.judged white)) w.others ∙ ap (λ ls. record old { live = ls }) (sym (ap (λ (t : Tracker). t.live) a ∙ ap (λ (t : Tracker). (changed (is_id id) (tracker.judged white) t).live) w.others));
        counted = rw more.1 (added is_new new _ _ _ (ap (λ b. (if b then 1 else 0) + new_in began (map (λ (l : Live). l.tracked) s.more)) new_here ∙ sym one) counted);
        rising = w.rising;
        few = w.few;
      },
      omega (arith, ap length more.1, ap length s.there),
    )
  where
    added : (b : Bool) (new more rest all : ℕ) → (if b then 1 else 0) + more ≡ rest → new + rest ≡ all → (if b then new + 1 else new) + more ≡ all
    added true new more rest all e f = omega (arith, e, f)
    added false new more rest all e f = omega (arith, e, f)

-- the number of new blocks fits
pub flag_fits : (began : ℕ) (old now : Tracker) (next : Option RecId) (new : ℕ) → Flagging began old now next new → new < 2 ^ 32
flag_fits began old now next new w =
    let all = tracked_in old in
    omega (arith, w.counted, w.few, length-map old.live (λ (l : Live). l.tracked), length-filter (is_unreferenced_now began) all, length-filter (λ (t : Tracked). not t.flagged) (filter (is_unreferenced_now began) all), count_by-le-length (is_unreferenced_now began) all, count_by-le-length (λ (t : Tracked). not t.flagged) (filter (is_unreferenced_now began) all))
