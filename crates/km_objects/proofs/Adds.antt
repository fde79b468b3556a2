use Rattle.std.proofs.Common.{◌≡◌, ℕ, ◌+◌, ◌-◌, ◌<◌, ◌≤◌, Bool, true, false, ◌&&◌, cond, List, [], ◌∷◌, ◌++◌, map, Option, Some, None, option_map, if◌then◌else◌, refl, sym, ap, ◌∙◌, subst, arith}
use Rattle.std.specs.Prelude.{find, nat_lt}
use Rattle.std.proofs.lemmas.Bool.{and_from, and_right, eq-eqb, ne_eqb}
use Rattle.std.proofs.lemmas.List.{length-append, map-append}
use Rattle.km_base.specs.declared.spans.Span.{Span}
use Rattle.km_model.specs.Blocks.{Block}
use Rattle.km_model.specs.World.{next_block}
use Rattle.km_record.specs.declared.kinds.RecId.{RecId}
use Rattle.km_state.specs.State.{State, Tracked, fresh, world_of}
use Rattle.km_state.specs.StateAfter as after
use Rattle.km_state.specs.StateAfter.{registered_at}
use Rattle.km_tasks.specs.Roll.{Roll}
use Rattle.km_track.specs.Tracker.{AreRising, Live, Tracker, changed, is_id, new_block, registered_in}
use Rattle.km_free_part.specs.Parts.{rest_block, rest_registered}
use Rattle.km_scan.specs.declared.sweep.Sweep.{Sweep}
use Rattle.km_scan.specs.Places.{cursor_of}
use Rattle.km_scan.specs.Stand.{Fits, Stand}
use Rattle.km_scan.proofs.FitLaws.{registered_kept}
use Rattle.km_scan.proofs.Held.{due_none}
use Rattle.km_scan.proofs.Kept.{cursor_kept}
use Rattle.km_objects.specs.Objects.{Agree, AreOf, Objects, places}

-- a block is registered, or a rest of one

pub with_more : (t u : Tracker) (k : Stand) (s : State) (x : Live) (v : Tracked) → AreOf (record { tracker = t; stand = k }) s → u.live ≡ t.live ++ x ∷ [] → x.tracked ≡ v → u.queue ≡ t.queue → u.registered ≡ t.registered + 1
    → AreOf (record { tracker = u; stand = k }) (record s { registered = s.registered + 1; tracked = s.tracked ++ v ∷ [] })
with_more t u k s x v are live is queue registered = record {
  registered = ap (λ n. n + 1) are.registered ∙ sym registered;
  tracked = (λ i. are.tracked i ++ sym is i ∷ []) ∙ sym (map-append (λ (l : Live). l.tracked) t.live (x ∷ [])) ∙ ap (map (λ (l : Live). l.tracked)) (sym live);
  scans = are.scans;
  begun = are.begun;
  scan = are.scan ∙ ap (λ q. option_map (λ (w : Sweep). record { queue = q; cursor = cursor_of w.cursor; sum = w.sum }) k.sweep) (sym queue);
  stacks = are.stacks;
}

-- the last one alone is changed where its id is given
rising_bound : (low high : ℕ) (ls : List Live) → AreRising low ls high → low ≤ high
rising_bound low high [] r = r
rising_bound low high (x ∷ ls) r = let above = rising_bound (x.tracked.block.id + 1) high ls r.1 in omega (arith, above, r.0)

changes_last : (id : RecId) (f : Tracked → Tracked) (y : Live) (low high : ℕ) (ls : List Live) → AreRising low ls high → high ≤ id.generation → is_id id y ≡ true
    → map (λ (l : Live). if is_id id l then record l { tracked = f l.tracked } else l) (ls ++ y ∷ []) ≡ ls ++ record y { tracked = f y.tracked } ∷ []
changes_last id f y low high [] r h e = ap (λ b. (if b then record y { tracked = f y.tracked } else y) ∷ []) e
changes_last id f y low high (x ∷ ls) r h e =
    let above = rising_bound (x.tracked.block.id + 1) high ls r.1 in
    let other : is_id id x ≡ false = and_right _ _ (ne_eqb x.tracked.block.id id.generation (λ z. omega (arith, above, h, z))) in
    (λ i. (if other i then record x { tracked = f x.tracked } else x) ∷ changes_last id f y (x.tracked.block.id + 1) high ls r.1 h e i)

pub excess_are : (o : Objects) (t m u : Tracker) (k : Stand) (s : State) (id : RecId) (span : Span) (references born to : ℕ) → record { tracker = t; stand = k } ≡ o → AreRising 0 t.live t.registered → id.generation ≡ t.registered
    → m ≡ registered_in id.slot span references born t → u ≡ changed (is_id id) (λ (v : Tracked). record v { block = record v.block { excess = Some to } }) m → s.enabled ≡ true → s.now ≡ born
    → AreOf o s → AreOf (record { tracker = u; stand = k }) (registered_at s span.start.0 span.size references (Some to))
excess_are o t m u k s id span references born to view rising its first excess enabled now are =
    let old : AreOf (record { tracker = t; stand = k }) s = subst (λ (x : Objects). AreOf x s) (sym view) are in
    let f : Tracked → Tracked = λ v. record v { block = record v.block { excess = Some to } } in
    let y : Live = record { slot = id.slot; tracked = fresh (new_block t.registered span references born) } in
    let all : u ≡ changed (is_id id) f (registered_in id.slot span references born t) = excess ∙ ap (changed (is_id id) f) first in
    let is_last : is_id id y ≡ true = and_from _ _ (eq-eqb id.slot id.slot refl) (eq-eqb t.registered id.generation (sym its)) in
    subst (λ b. AreOf (record { tracker = u; stand = k }) (if b then record s { registered = s.registered + 1; tracked = s.tracked ++ fresh (next_block (world_of s) span.start.0 span.size references (Some to)) ∷ [] } else s)) (sym enabled)
    (with_more t u k s (record y { tracked = f y.tracked }) (fresh (next_block (world_of s) span.start.0 span.size references (Some to))) old
    (ap (λ (x : Tracker). x.live) all ∙ changes_last id f y 0 t.registered t.live rising (omega (arith, its)) is_last)
    (λ i. f (fresh (new_block (sym old.registered i) span references (sym now i))))
    (ap (λ (x : Tracker). x.queue) all) (ap (λ (x : Tracker). x.registered) all))

pub registered_agree : (o : Objects) (t u : Tracker) (k : Stand) (roll : Roll) (slot : ℕ) (span : Span) (references born : ℕ) → record { tracker = t; stand = k } ≡ o → u ≡ registered_in slot span references born t → Agree o roll → Agree (record { tracker = u; stand = k }) roll
registered_agree o t u k roll slot span references born view more agree =
    let old : Agree (record { tracker = t; stand = k }) roll = subst (λ (x : Objects). Agree x roll) (sym view) agree in
    record { settled = old.settled; fits = subst (λ (x : Tracker). Fits k x roll) (sym more) (registered_kept k t roll slot span references born old.settled old.fits) }

-- a rest
pub rest_are : (t : Tracker) (k : Stand) (s : State) (r : Option RecId) (rest : Span) (b : Block) (keep : Bool) (n : ℕ) → s.enabled ≡ keep → option_map (λ (i : RecId). i.generation) r ≡ (if keep && nat_lt 0 rest.size then Some n else None)
    → AreOf (record { tracker = t; stand = k }) s → AreOf (record { tracker = rest_registered r rest b t; stand = k }) (after.rest_registered s b rest.start.0 rest.size)
rest_are t k s r rest b keep n enabled is are =
    subst (λ e. AreOf (record { tracker = rest_registered r rest b t; stand = k }) (if e && nat_lt 0 rest.size then record s { registered = s.registered + 1; tracked = s.tracked ++ fresh (record b { id = s.registered; start = rest.start.0; size = rest.size; areas = []; excess = None }) ∷ [] } else s)) (sym enabled)
    (on r (keep && nat_lt 0 rest.size) is)
  where
    on : (r : Option RecId) (c : Bool) → option_map (λ (i : RecId). i.generation) r ≡ (if c then Some n else None)
        → AreOf (record { tracker = rest_registered r rest b t; stand = k }) (if c then record s { registered = s.registered + 1; tracked = s.tracked ++ fresh (record b { id = s.registered; start = rest.start.0; size = rest.size; areas = []; excess = None }) ∷ [] } else s)
    on None true e = absurd (let z : ⊥ = cc in z)
    on None false e = are
    on (Some i) true e =
        with_more t (rest_registered (Some i) rest b t) k s (record { slot = i.slot; tracked = fresh (rest_block t.registered rest b) }) _ are refl
        (λ j. fresh (record b { id = sym are.registered j; start = rest.start.0; size = rest.size; areas = []; excess = None })) refl refl
    on (Some i) false e = absurd (let z : ⊥ = cc in z)

pub enabled_kept : (s : State) (b : Block) (start size : ℕ) → (after.rest_registered s b start size).enabled ≡ s.enabled
enabled_kept s b start size =
    elim (s.enabled && nat_lt 0 size) as (λ c. (if c then record s { registered = s.registered + 1; tracked = s.tracked ++ fresh (record b { id = s.registered; start = start; size = size; areas = []; excess = None }) ∷ [] } else s).enabled ≡ s.enabled) [ true ↦ refl | false ↦ refl ]

-- it leaves a scanner that fits
find_more : (test : Live → Bool) (ls : List Live) (x l : Live) → find test ls ≡ Some l → find test (ls ++ x ∷ []) ≡ Some l
find_more test [] x l e = absurd (let z : ⊥ = cc in z)
find_more test (y ∷ ls) x l e =
    elim (test y) as (λ b. cond b (Some y) (find test ls) ≡ Some l → cond b (Some y) (find test (ls ++ x ∷ [])) ≡ Some l) [ true ↦ λ f. f | false ↦ λ f. find_more test ls x l f ] e

pub rest_agree : (t : Tracker) (k : Stand) (roll : Roll) (r : Option RecId) (rest : Span) (b : Block) → Agree (record { tracker = t; stand = k }) roll → Agree (record { tracker = rest_registered r rest b t; stand = k }) roll
rest_agree t k roll None rest b agree = agree
rest_agree t k roll (Some i) rest b agree = record {
  settled = agree.settled;
  fits = λ w e. record {
    cursor = cursor_kept k.stacks w.cursor t (rest_registered (Some i) rest b t) roll (λ id l f. record { it = l; found = find_more (is_id id) t.live _ l f; start = refl; size = refl; dark = λ h. h; out = λ o. o }) (agree.fits w e).cursor;
    ready = due_none k.stacks w.ready (rest_registered (Some i) rest b t) roll (agree.settled w e);
    stacks_end = (agree.fits w e).stacks_end;
  };
}

-- it takes a place
pub rest_places : (t : Tracker) (k : Stand) (r : Option RecId) (rest : Span) (b : Block) → ((i : RecId) → r ≡ Some i → 0 < t.spare) → places (record { tracker = rest_registered r rest b t; stand = k }) ≡ places (record { tracker = t; stand = k })
rest_places t k None rest b spare = refl
rest_places t k (Some i) rest b spare = omega (arith, spare i refl, length-append t.live (record { slot = i.slot; tracked = fresh (rest_block t.registered rest b) } ∷ []))

pub rest_spare : (t : Tracker) (r : Option RecId) (rest : Span) (b : Block) → ((i : RecId) → r ≡ Some i → 0 < t.spare - 1) → 0 < t.spare → 0 < (rest_registered r rest b t).spare
rest_spare t None rest b more spare = spare
rest_spare t (Some i) rest b more spare = more i refl
