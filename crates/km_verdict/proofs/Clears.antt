use Rattle.std.proofs.Common.{◌≡◌, ◌<◌, true, false, List, [], ◌∷◌, length, map, Option, Some, option_map, if◌then◌else◌, refl, sym, ap, ◌∙◌, subst, arith}
use Rattle.std.specs.Prelude.{find}
use Rattle.km_record.specs.declared.kinds.RecId.{RecId}
use Rattle.km_model.specs.Blocks.{painted_grey}
use Rattle.km_state.specs.State.{is_listed_now}
use Rattle.km_track.specs.Tracker.{AreRising, Live, Tracker, first_live, id_of, is_id, live_behind, live_from}
use Rattle.km_track.proofs.Lives.{Walked, Standing, walk_stands, walk_goes_on, walk_left}
use Rattle.km_verdict.specs.Listing.{painted_in}

-- a block, painted grey
abbrev pub grey : Live → Live
grey l = record l { tracked = record l.tracked { block = painted_grey l.tracked.block } }

-- and one that is painted where it is listed
abbrev pub unlisted : Live → Live
unlisted l = if is_listed_now l.tracked then grey l else l

same_id : (l : Live) → (unlisted l).tracked.block.id ≡ l.tracked.block.id
same_id l = elim (is_listed_now l.tracked) as (λ b. (if b then grey l else l).tracked.block.id ≡ l.tracked.block.id) [ true ↦ refl | false ↦ refl ]

-- a walk that paints the listed blocks
pub record Clearing (old now : Tracker) (next : Option RecId) : Type 0 where
  pub walk : Walked unlisted old.live now.live next
  pub others : now ≡ record old { live = now.live }
  pub rising : AreRising 0 old.live old.registered

pub clear_begins : (old : Tracker) (next : Option RecId) → AreRising 0 old.live old.registered → next ≡ option_map id_of (first_live old.live) → Clearing old old next
clear_begins old next r e = record { walk = record { front = []; rest = old.live; was = refl; is = refl; at = e }; others = refl; rising = r }

pub clear_stands : (old now : Tracker) (next : Option RecId) (id : RecId) (w : Clearing old now next) → next ≡ Some id → Standing unlisted old.live now.live id w.walk.front w.walk.rest
clear_stands old now next id w e = walk_stands unlisted 0 old.registered old.live now.live next id w.walk same_id w.rising e

pub clear_left : (old now : Tracker) (next : Option RecId) (w : Clearing old now next) → live_from next now.live ≡ w.walk.rest
clear_left old now next w = walk_left unlisted 0 old.registered old.live now.live next w.walk same_id w.rising

-- it goes on behind a listed block, which it paints, or another
pub clear_paints : (old now after : Tracker) (next behind : Option RecId) (id : RecId) (w : Clearing old now next) → next ≡ Some id → ((l : Live) → find (is_id id) now.live ≡ Some l → true ≡ is_listed_now l.tracked)
    → behind ≡ option_map id_of (live_behind id now.live) → after ≡ painted_in id now → (g : Clearing old after behind) × (length g.walk.rest < length w.walk.rest)
clear_paints old now after next behind id w e listed n a =
    let s = clear_stands old now next id w e in
    let more = walk_goes_on unlisted grey 0 old.registered old.live now.live id w.walk.front w.walk.rest s same_id w.rising (painted_in id now).live refl
    (sym (ap (λ b. if b then grey s.it else s.it) (sym (listed s.it s.found)))) behind n in
    subst (λ (t : Tracker). (g : Clearing old t behind) × (length g.walk.rest < length w.walk.rest)) (sym a) (
      record {
        walk = more.0;
        others = ap (painted_in id) w.others ∙ ap (λ ls. record old { live = ls }) (sym (ap (λ (t : Tracker). (painted_in id t).live) w.others));
        rising = w.rising;
      },
      omega (arith, ap length more.1, ap length s.there),
    )

pub clear_passes : (old now : Tracker) (next behind : Option RecId) (id : RecId) (w : Clearing old now next) → next ≡ Some id → ((l : Live) → find (is_id id) now.live ≡ Some l → false ≡ is_listed_now l.tracked)
    → behind ≡ option_map id_of (live_behind id now.live) → (g : Clearing old now behind) × (length g.walk.rest < length w.walk.rest)
clear_passes old now next behind id w e listed n =
    let s = clear_stands old now next id w e in
    let more = walk_goes_on unlisted (λ l. l) 0 old.registered old.live now.live id w.walk.front w.walk.rest s same_id w.rising now.live (sym (unchanged now.live))
    (sym (ap (λ b. if b then grey s.it else s.it) (sym (listed s.it s.found)))) behind n in
    (record { walk = more.0; others = w.others; rising = w.rising }, omega (arith, ap length more.1, ap length s.there))
  where
    unchanged : (ls : List Live) → map (λ (x : Live). if is_id id x then x else x) ls ≡ ls
    unchanged [] = refl
    unchanged (x ∷ ls) = elim (is_id id x) as (λ b. (if b then x else x) ∷ map (λ (y : Live). if is_id id y then y else y) ls ≡ x ∷ ls) [ true ↦ ap (λ ys. x ∷ ys) (unchanged ls) | false ↦ ap (λ ys. x ∷ ys) (unchanged ls) ]
