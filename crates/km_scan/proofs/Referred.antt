use Rattle.std.proofs.Common.{◌≡◌, ℕ, ◌+◌, Bool, true, false, ◌&&◌, not, cond, eqb, ltb, List, [], ◌∷◌, map, Option, Some, None, option_map, if◌then◌else◌, refl, sym, ap, ◌∙◌, subst}
use Rattle.std.specs.Prelude.{find, ◌==◌}
use Rattle.std.specs.Option.{option_eq}
use Rattle.std.proofs.lemmas.Bool.{eq-eqb, ne_eqb}
use Rattle.km_base.specs.Spans.{untagged}
use Rattle.km_record.specs.declared.kinds.RecId.{RecId}
use Rattle.km_record.specs.declared.kinds.Minimum.{Minimum}
use Rattle.km_record.specs.declared.kinds.Minimum.TheVariants.{Black, AtLeast}
use Rattle.km_record.specs.declared.kinds.Colour.TheVariants as colour
use Rattle.km_record.specs.declared.record.Record.{Record}
use Rattle.km_record.specs.Records.{colour_in, minimum_of}
use Rattle.km_model.specs.Blocks.{Block, contains, is_black, needs, points_into}
use Rattle.km_model.specs.Blocks as model
use Rattle.km_model.specs.Past.{Place}
use Rattle.km_model.specs.Scan.{is_holder}
use Rattle.km_state.specs.State.{Tracked, is_white_now, tracked_where}
use Rattle.km_state.specs.StateNext.{hit_block_in, hit_in, hit_white_in, ripe_by, with_last}
use Rattle.km_track.specs.Tracker.{AreRising, Live, Tracker, begins, changed, counted, id_of, is_id, live_where, live_with, queued, tracked_in, tracked_of}
use Rattle.km_track.proofs.Lives.{found_again, found_its, found_tracked, is_its, tracked_found}
use Rattle.km_scan.specs.Stand.{hit_at, hit_found, hit_told, holder_of}
use Rattle.km_scan.proofs.Ones.{map_one}

-- what a value refers to

abbrev pointed : Place → List Tracked → Option Tracked → Option ℕ
pointed place ts None = None
pointed place ts (Some u) = hit_block_in ts place u

-- a block that a search found
pub record Looked (test : Block → Bool) (t : Tracker) (id : RecId) : Type 0 where
  pub it : Live
  pub found : live_where test t ≡ Some it
  pub its : id ≡ id_of it

pub looked : (test : Block → Bool) (t : Tracker) (id : RecId) → Some id ≡ option_map id_of (live_where test t) → Looked test t id
looked test t id e = on (live_where test t) refl e
  where
    on : (o : Option Live) → live_where test t ≡ o → Some id ≡ option_map id_of o → Looked test t id
    on None f e = absurd (let z : ⊥ = cc in z)
    on (Some l) f e = record { it = l; found = f; its = cc }

-- it is found by its id
pub looked_live : (test : Block → Bool) (t : Tracker) (id : RecId) (k : Looked test t id) → AreRising 0 t.live t.registered → live_with id t ≡ Some k.it
looked_live test t id k r = subst (λ (i : RecId). live_with i t ≡ Some k.it) (sym k.its) (found_again (λ (l : Live). test l.tracked.block) 0 t.registered t.live k.it r k.found)

pub looked_tracked : (test : Block → Bool) (t : Tracker) (id : RecId) (k : Looked test t id) → tracked_where test (tracked_in t) ≡ Some k.it.tracked
looked_tracked test t id k = tracked_found test t.live ∙ ap (option_map (λ (l : Live). l.tracked)) k.found

passes : (test : Live → Bool) (ls : List Live) (l : Live) → find test ls ≡ Some l → test l ≡ true
passes test [] l e = absurd (let z : ⊥ = cc in z)
passes test (x ∷ ls) l e =
    elim (test x) as (λ b. test x ≡ b → cond b (Some x) (find test ls) ≡ Some l → test l ≡ true) [
      | true ↦ λ f g. let same : x ≡ l = cc in subst (λ (y : Live). test y ≡ true) same f
      | false ↦ λ f g. passes test ls l g
    ] refl e

-- the start of a block that was looked up and read
pub looked_start : (test : Block → Bool) (t : Tracker) (id : RecId) (k : Looked test t id) (r : Record) → AreRising 0 t.live t.registered → Some (record { slot = id.slot; tracked = tracked_of id.generation r }) ≡ live_with id t
    → k.it.tracked ≡ tracked_of id.generation r
looked_start test t id k r rising e =
    let there = looked_live test t id k rising in
    let both : Some k.it ≡ Some (record { slot = id.slot; tracked = tracked_of id.generation r }) = sym there ∙ sym e in
    its k.it (record { slot = id.slot; tracked = tracked_of id.generation r }) both
  where
    its : (l m : Live) → Some l ≡ Some m → l.tracked ≡ m.tracked
    its l m h = let same : l ≡ m = cc in ap (λ (x : Live). x.tracked) same

pub looked_there : (test : Block → Bool) (t : Tracker) (id : RecId) (k : Looked test t id) → AreRising 0 t.live t.registered → None ≡ live_with id t → ⊥
looked_there test t id k r e = let there = looked_live test t id k r in let z : ⊥ = cc in z

-- the holder's own block
pub own_is : (place : Place) (holder : Option ℕ) (id : ℕ) (b : Block) → holder ≡ holder_of place → b.id ≡ id → option_eq eqb holder (Some id) ≡ is_holder place b
own_is place holder id b h e =
    ap (λ (o : Option ℕ). option_eq eqb o (Some id)) h
    ∙ elim (ltb 1 place.phase) as (λ c. option_eq eqb (if c then Some place.holder else None) (Some id) ≡ (c && eqb place.holder b.id)) [ true ↦ ap (eqb place.holder) (sym e) | false ↦ refl ]

-- colours in the words of the state
pub colour_white : (id : ℕ) (r : Record) → colour_in r.minimum r.count ≡ colour.White → is_white_now (tracked_of id r) ≡ true
colour_white id r e = on r.minimum e
  where
    at : (b : Bool) → (if b then colour.White else colour.Grey) ≡ colour.White → b ≡ true
    at true g = refl
    at false g = absurd (let z : ⊥ = cc in z)

    on : (m : Minimum) → colour_in m r.count ≡ colour.White → (elim (minimum_of m) [ model.Black ↦ false | model.AtLeast k ↦ ltb r.count k ]) ≡ true
    on Black f = absurd (let z : ⊥ = cc in z)
    on (AtLeast m) f = at (ltb r.count m) f

pub colour_black : (id : ℕ) (r : Record) → colour_in r.minimum r.count ≡ colour.Black → (is_white_now (tracked_of id r) ≡ false) × (is_black (tracked_of id r).block ≡ true)
colour_black id r e = on r.minimum e
  where
    at : (b : Bool) → (if b then colour.White else colour.Grey) ≡ colour.Black → ⊥
    at true g = let z : ⊥ = cc in z
    at false g = let z : ⊥ = cc in z

    on : (m : Minimum) → colour_in m r.count ≡ colour.Black → ((elim (minimum_of m) [ model.Black ↦ false | model.AtLeast k ↦ ltb r.count k ]) ≡ false) × ((elim (minimum_of m) [ model.Black ↦ true | model.AtLeast _ ↦ false ]) ≡ true)
    on Black f = (refl, refl)
    on (AtLeast m) f = absurd (at (ltb r.count m) f)

pub colour_grey : (id : ℕ) (r : Record) → colour_in r.minimum r.count ≡ colour.Grey → (is_white_now (tracked_of id r) ≡ false) × (is_black (tracked_of id r).block ≡ false)
colour_grey id r e = on r.minimum e
  where
    at : (b : Bool) → (if b then colour.White else colour.Grey) ≡ colour.Grey → b ≡ false
    at true g = absurd (let z : ⊥ = cc in z)
    at false g = refl

    on : (m : Minimum) → colour_in m r.count ≡ colour.Grey → ((elim (minimum_of m) [ model.Black ↦ false | model.AtLeast k ↦ ltb r.count k ]) ≡ false) × ((elim (minimum_of m) [ model.Black ↦ true | model.AtLeast _ ↦ false ]) ≡ false)
    on Black f = absurd (let z : ⊥ = cc in z)
    on (AtLeast m) f = (at (ltb r.count m) f, refl)

-- the white block at an excess
pub excess_none : (t : Tracker) (place : Place) (a : ℕ) → None ≡ option_map id_of (live_where (begins a) t) → None ≡ hit_at (tracked_in t) place (Some a)
excess_none t place a e = sym (ap (hit_found place) (tracked_found (begins a) t.live) ∙ none (live_where (begins a) t) e)
  where
    none : (o : Option Live) → None ≡ option_map id_of o → hit_found place (option_map (λ (l : Live). l.tracked) o) ≡ None
    none None f = refl
    none (Some l) f = absurd (let z : ⊥ = cc in z)

pub excess_is : (t : Tracker) (place : Place) (holder : Option ℕ) (a : ℕ) (id : RecId) (k : Looked (begins a) t id) (own white : Bool) → holder ≡ holder_of place → option_eq eqb holder (Some id.generation) ≡ own → is_white_now k.it.tracked ≡ white
    → (if not own && white then Some id.generation else None) ≡ hit_at (tracked_in t) place (Some a)
excess_is t place holder a id k own white h o w =
    let number = sym (ap (λ (i : RecId). i.generation) k.its) in
    let holds = sym (own_is place holder id.generation k.it.tracked.block h number) ∙ o in
    sym (
    ap (hit_found place) (looked_tracked (begins a) t id k)
    ∙ ap (λ b. if not b && is_white_now k.it.tracked then Some k.it.tracked.block.id else None) holds
    ∙ ap (λ b. if not own && b then Some k.it.tracked.block.id else None) w
    ∙ ap (λ n. if not own && white then Some n else None) number
    )

-- what a value hits, by the block into which it points
pub hits_none : (t : Tracker) (place : Place) (value a : ℕ) → a ≡ untagged value → (place.phase ≡ 3 → ⊥) → None ≡ option_map id_of (live_where (contains a) t) → None ≡ hit_in (tracked_in t) place value
hits_none t place value a u ne e = rw (ne_eqb place.phase 3 ne) (sym (ap (pointed place (tracked_in t)) (tracked_found (points_into value) t.live) ∙ none (live_where (points_into value) t) (e ∙ ap (λ x. option_map id_of (live_where (contains x) t)) u)))
  where
    none : (o : Option Live) → None ≡ option_map id_of o → pointed place (tracked_in t) (option_map (λ (l : Live). l.tracked) o) ≡ None
    none None f = refl
    none (Some l) f = absurd (let z : ⊥ = cc in z)

-- the block into which it points
pub hits_block : (t : Tracker) (place : Place) (value a : ℕ) (id : RecId) (k : Looked (contains a) t id) → a ≡ untagged value → (place.phase ≡ 3 → ⊥) → hit_in (tracked_in t) place value ≡ hit_block_in (tracked_in t) place k.it.tracked
hits_block t place value a id k u ne =
    rw (ne_eqb place.phase 3 ne) (ap (pointed place (tracked_in t)) (ap (λ x. tracked_where (contains x) (tracked_in t)) (sym u) ∙ looked_tracked (contains a) t id k))

-- its own block isn't hit
pub hits_own : (ts : List Tracked) (place : Place) (holder : Option ℕ) (u : Tracked) (id : ℕ) → holder ≡ holder_of place → u.block.id ≡ id → option_eq eqb holder (Some id) ≡ true → None ≡ hit_block_in ts place u
hits_own ts place holder u id h n o = rw (sym (own_is place holder id u.block h n) ∙ o) refl

pub hits_white : (ts : List Tracked) (place : Place) (holder : Option ℕ) (u : Tracked) (id : ℕ) → holder ≡ holder_of place → u.block.id ≡ id → option_eq eqb holder (Some id) ≡ false → is_white_now u ≡ true → Some id ≡ hit_block_in ts place u
hits_white ts place holder u id h n o w = rw (sym (own_is place holder id u.block h n) ∙ o, w) (ap (λ x. Some x) (sym n))

pub hits_black : (ts : List Tracked) (place : Place) (holder : Option ℕ) (u : Tracked) (id : ℕ) → holder ≡ holder_of place → u.block.id ≡ id → option_eq eqb holder (Some id) ≡ false → is_white_now u ≡ false → is_black u.block ≡ true → None ≡ hit_block_in ts place u
hits_black ts place holder u id h n o w b = rw (sym (own_is place holder id u.block h n) ∙ o, w, b) refl

pub hits_grey : (ts : List Tracked) (place : Place) (holder : Option ℕ) (u : Tracked) (id : ℕ) → holder ≡ holder_of place → u.block.id ≡ id → option_eq eqb holder (Some id) ≡ false → is_white_now u ≡ false → is_black u.block ≡ false
    → hit_at ts place u.block.excess ≡ hit_block_in ts place u
hits_grey ts place holder u id h n o w b = rw (sym (own_is place holder id u.block h n) ∙ o, w, b) (on u.block.excess)
  where
    found : (p : Option Tracked) → hit_found place p ≡ (elim p as (λ _. Option ℕ) [ None ↦ None | Some e ↦ hit_white_in place e ])
    found None = refl
    found (Some e) = refl

    on : (x : Option ℕ) → hit_at ts place x ≡ (elim (elim x as (λ _. Option Tracked) [ None ↦ None | Some a ↦ tracked_where (λ (c : Block). c.start == a) ts ]) as (λ _. Option ℕ) [ None ↦ None | Some e ↦ hit_white_in place e ])
    on None = refl
    on (Some a) = found (tracked_where (λ (c : Block). c.start == a) ts)

-- a block that is hit
pub hit_is : (t : Tracker) (id : RecId) (l : Live) (ripe : Bool) (hit : Option ℕ) → AreRising 0 t.live t.registered → live_with id t ≡ Some l → ripe ≡ needs (l.tracked.count + 1) l.tracked.block → Some id.generation ≡ hit
    → queued ripe id.generation (changed (is_id id) counted t) ≡ hit_told hit t
hit_is t id l ripe hit r e n h =
    let its = (is_its id l (found_its id t.live l e)).1 in
    sym (
    ap (λ (o : Option ℕ). hit_told o t) (sym h)
    ∙ ap (λ (ls : List Live). record t { live = ls; queue = with_last t.queue (ripe_by (tracked_in t) (Some id.generation)) })
    (map_one id (λ (x : Live). if eqb id.generation x.tracked.block.id then record x { tracked = counted x.tracked } else x) (λ (x : Live). record x { tracked = counted x.tracked }) 0 t.registered t.live l r e
    (rw (eq-eqb id.generation l.tracked.block.id (sym its)) refl)
    (λ x ne. rw (ne_eqb id.generation x.tracked.block.id (λ f. ne (sym f))) refl))
    ∙ ap (λ (o : Option ℕ). record t { live = map (λ (x : Live). if is_id id x then record x { tracked = counted x.tracked } else x) t.live; queue = with_last t.queue o })
    (ap (λ (o : Option Tracked). elim o [ None ↦ None | Some u ↦ if needs (u.count + 1) u.block then Some id.generation else None ]) (found_tracked id 0 t.registered t.live l r e) ∙ ap (λ b. if b then Some id.generation else None) (sym n))
    ∙ at ripe
    )
  where
    at : (b : Bool) → record t { live = map (λ (x : Live). if is_id id x then record x { tracked = counted x.tracked } else x) t.live; queue = with_last t.queue (if b then Some id.generation else None) } ≡ queued b id.generation (changed (is_id id) counted t)
    at true = refl
    at false = refl

pub hit_no : (t : Tracker) (hit : Option ℕ) → None ≡ hit → t ≡ hit_told hit t
hit_no t hit h = sym (ap (λ (o : Option ℕ). hit_told o t) (sym h) ∙ ap (λ (ls : List Live). record t { live = ls }) (none t.live))
  where
    none : (ls : List Live) → map (λ (x : Live). x) ls ≡ ls
    none [] = refl
    none (x ∷ ls) = ap (λ ys. x ∷ ys) (none ls)
