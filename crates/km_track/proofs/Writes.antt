use Rattle.std.proofs.Common.{◌≡◌, ◌≢◌, ℕ, ◌+◌, Bool, true, false, ◌==◌, eqb, List, [], ◌∷◌, map, length, set, cond, Some, None, if◌then◌else◌, refl, sym, ap, ◌∙◌, subst, arith, length-set, get_or-set_same, get_or-set_other}
use Rattle.std.specs.Prelude.{find}
use Rattle.std.specs.List.{list_any}
use Rattle.std.proofs.lemmas.Bool.{and_from, and_parts, ltb-true, or_left, or_right, eqb-true, eqb-false, eq-eqb, both_ways}
use Rattle.km_base.specs.declared.spans.Addr.{Addr}
use Rattle.km_state.specs.State.{Tracked, is_white_now}
use Rattle.km_links.specs.Chains.{is_in}
use Rattle.km_map.specs.declared.entries.Entry.{Entry}
use Rattle.km_map.specs.Entries.{starts_at, slot_where}
use Rattle.km_record.specs.declared.kinds.RecId.{RecId}
use Rattle.km_record.specs.declared.kinds.Note.{Note}
use Rattle.km_record.specs.declared.kinds.Note.TheVariants as notes
use Rattle.km_record.specs.declared.record.Record.{Record}
use Rattle.km_record.specs.declared.kinds.Minimum.TheVariants.{Black}
use Rattle.km_record.specs.Records.{IsLaid, IsSound, record_noted}
use Rattle.km_track.specs.declared.slots.Slot.{Slot}
use Rattle.km_track.specs.Slots.{no_record, slot_at, slot_noted, slot_excess}
use Rattle.km_track.specs.Tracker.{Live, Tracker, begins, changed, is_id, tracked_noted, tracked_of}
use Rattle.km_track.specs.Holds.{live_at, entry_at, IdsRise, Holds}
use Rattle.km_track.proofs.Members.{one_start}
use Rattle.km_track.proofs.Searches.{live_id, where_some, where_none}

-- one record is written

-- the ids of slots
abbrev pub ids_in : List Slot → List ℕ → List ℕ
ids_in S ns = map (λ n. (slot_at S n).generation) ns

pub map_each : (S T : List Slot) (f : Live → Live) (order : List ℕ) → ((m : ℕ) → is_in m order ≡ true → live_at T m ≡ f (live_at S m)) → map (live_at T) order ≡ map f (map (live_at S) order)
map_each S T f [] h = refl
map_each S T f (m ∷ order) h =
    rw (h m (or_left _ _ (eq-eqb m m refl)), map_each S T f order (λ k j. h k (or_right (m == k) _ j))) refl

ids_each : (S T : List Slot) (ns : List ℕ) → ((m : ℕ) → (slot_at T m).generation ≡ (slot_at S m).generation) → ids_in T ns ≡ ids_in S ns
ids_each S T [] h = refl
ids_each S T (m ∷ ns) h = rw (h m, ids_each S T ns h) refl

ids_rise : (S T : List Slot) (low : ℕ) (ns : List ℕ) (high : ℕ) → ((m : ℕ) → (slot_at T m).generation ≡ (slot_at S m).generation) → IdsRise S low ns high → IdsRise T low ns high
ids_rise S T low [] high h r = r
ids_rise S T low (m ∷ ns) high h r = rw (h m) (r.0, ids_rise S T ((slot_at S m).generation + 1) ns high h r.1)

-- what stands after a write
pub record Wrote (S T : List Slot) (order grey free : List ℕ) (es : List Entry) (reg : ℕ) (test : Live → Bool) (change : Tracked → Tracked) : Type 0 where
  pub holds : Holds T order grey free es reg
  pub lives : map (live_at T) order ≡ map (λ (l : Live). if test l then record l { tracked = change l.tracked } else l) (map (live_at S) order)
  pub ids : ids_in T grey ≡ ids_in S grey
  pub long : length T ≡ length S

by_slot : (S T : List Slot) (n : ℕ) (x : Slot) → slot_at T n ≡ x → ((m : ℕ) → m ≢ n → slot_at T m ≡ slot_at S m) → (P : ℕ → Slot → Type 0) → P n x → ((m : ℕ) → m ≢ n → P m (slot_at S m)) → (m : ℕ) → P m (slot_at T m)
by_slot S T n x same others P a b m =
    elim (eqb m n) as (λ t. eqb m n ≡ t → P m (slot_at T m)) [
      | true ↦ λ f. let k = eqb-true m n f in subst (λ y. P y (slot_at T y)) (sym k) (subst (P n) (sym same) a)
      | false ↦ λ f. let ne : m ≢ n = eqb-false m n f in subst (P m) (sym (others m ne)) (b m ne)
    ] refl

dark : (x : Slot) (l : Live) → (is_white_now (tracked_of x.generation x.«record») ≡ true → is_white_now l.tracked ≡ true) → is_white_now l.tracked ≡ false → is_white_now (tracked_of x.generation x.«record») ≡ false
dark x l h f =
    elim (is_white_now (tracked_of x.generation x.«record»)) as (λ b. is_white_now (tracked_of x.generation x.«record») ≡ b → b ≡ false) [ true ↦ λ t. absurd (both_ways (is_white_now l.tracked) f (h t)) | false ↦ λ _. refl ] refl

fails : (S : List Slot) (test : Live → Bool) (order : List ℕ) (n : ℕ) → ((m : ℕ) → is_in m order ≡ true → test (live_at S m) ≡ true → m ≡ n) → (m : ℕ) → m ≢ n → is_in m order ≡ true → test (live_at S m) ≡ false
fails S test order n one m ne j =
    elim (test (live_at S m)) as (λ b. test (live_at S m) ≡ b → b ≡ false) [ true ↦ λ t. absurd (ne (one m j t)) | false ↦ λ _. refl ] refl

pub wrote : (S T : List Slot) (order grey free : List ℕ) (es : List Entry) (reg n : ℕ) (x : Slot) (test : Live → Bool) (change : Tracked → Tracked) → Holds S order grey free es reg → is_in n order ≡ true
    → T ≡ set S n x → x.generation ≡ (slot_at S n).generation → x.«record».span ≡ (slot_at S n).«record».span → IsSound x.«record»
    → (is_white_now (tracked_of x.generation x.«record») ≡ true → is_white_now (live_at S n).tracked ≡ true)
    → tracked_of x.generation x.«record» ≡ change (live_at S n).tracked → test (live_at S n) ≡ true → ((m : ℕ) → is_in m order ≡ true → test (live_at S m) ≡ true → m ≡ n) → Wrote S T order grey free es reg test change
wrote S T order grey free es reg n x test change h i e gen span sound white is passes one =
    let long : length T ≡ length S = ap length e ∙ length-set S n x in
    let same : slot_at T n ≡ x = ap (λ l. slot_at l n) e ∙ get_or-set_same S n x no_record (h.within n i) in
    let others : (m : ℕ) → m ≢ n → slot_at T m ≡ slot_at S m = λ m ne. ap (λ l. slot_at l m) e ∙ get_or-set_other S n m x no_record ne in
    let at : (P : ℕ → Slot → Type 0) → P n x → ((m : ℕ) → m ≢ n → P m (slot_at S m)) → (m : ℕ) → P m (slot_at T m) = λ P a b m. by_slot S T n x same others P a b m in
    let gens : (m : ℕ) → (slot_at T m).generation ≡ (slot_at S m).generation = at (λ m y. y.generation ≡ (slot_at S m).generation) gen (λ m ne. refl) in
    let spans : (m : ℕ) → (slot_at T m).«record».span ≡ (slot_at S m).«record».span = at (λ m y. y.«record».span ≡ (slot_at S m).«record».span) span (λ m ne. refl) in
    let entries : (m : ℕ) → entry_at T m ≡ entry_at S m = λ m. ap (λ k. record { span = k; slot = m }) (spans m) in
    record {
      holds = record {
        orders = h.orders;
        greys = h.greys;
        within = λ m j. omega (arith, long, h.within m j);
        freed = λ m j. let f = h.freed m j in (omega (arith, long, f.0), f.1);
        count = h.count ∙ sym long;
        queued = λ m j. let q = h.queued m j in (q.0, at (λ m y. is_white_now (live_at S m).tracked ≡ false → is_white_now (tracked_of y.generation y.«record») ≡ false) (dark x (live_at S n) white) (λ k ne f. f) m q.1);
        kept = λ m j. rw (entries m) (h.kept m j);
        known = λ y a. let k = h.known y a in (k.0, k.1 ∙ sym (entries y.slot));
        rising = h.rising;
        ids = ids_rise S T 0 order reg gens h.ids;
        sound = λ m j. at (λ m y. is_in m order ≡ true → IsSound y.«record») (λ _. sound) (λ k ne u. h.sound k u) m j;
      };
      lives = map_each S T (λ (l : Live). if test l then record l { tracked = change l.tracked } else l) order (at (λ m y. is_in m order ≡ true → ◌≡◌ {A = Live} (record { slot = m; tracked = tracked_of y.generation y.«record» }) (if test (live_at S m) then record { slot = m; tracked = change (live_at S m).tracked } else live_at S m))
          (λ _. rw passes (ap (λ u. record { slot = n; tracked = u }) is))
          (λ m ne j. rw (fails S test order n one m ne j) refl));
      ids = ids_each S T grey gens;
      long = long;
    }

-- the tracker that is seen after a write
pub viewed : (S T : List Slot) (order grey free : List ℕ) (es : List Entry) (reg spare : ℕ) (test : Live → Bool) (change : Tracked → Tracked) → Wrote S T order grey free es reg test change
    → ◌≡◌ {A = Tracker} (record { live = map (live_at T) order; queue = ids_in T grey; registered = reg; spare = spare }) (changed test change (record { live = map (live_at S) order; queue = ids_in S grey; registered = reg; spare = spare }))
viewed S T order grey free es reg spare test change w = λ i. record { live = w.lives i; queue = w.ids i; registered = reg; spare = spare }

-- where none passes, nothing changes
pub none_changed : (test : Live → Bool) (change : Tracked → Tracked) (t : Tracker) → find test t.live ≡ None → t ≡ changed test change t
none_changed test change t h = λ i. record { live = kept t.live h i; queue = t.queue; registered = t.registered; spare = t.spare }
  where
    kept : (ls : List Live) → find test ls ≡ None → ls ≡ map (λ (l : Live). if test l then record l { tracked = change l.tracked } else l) ls
    kept [] h = refl
    kept (l ∷ ls) h =
        elim (test l) as (λ b. cond b (Some l) (find test ls) ≡ None → (l ∷ ls) ≡ ((if b then record l { tracked = change l.tracked } else l) ∷ map (λ (l : Live). if test l then record l { tracked = change l.tracked } else l) ls)) [
          | true ↦ λ g. absurd (let z : ⊥ = cc in z)
          | false ↦ λ g. ap (λ k. l ∷ k) (kept ls g)
        ] h

-- the block at an address, by the map's answer
pub at_start : (S : List Slot) (order grey free : List ℕ) (es : List Entry) (reg a n : ℕ) → Holds S order grey free es reg → Some n ≡ slot_where (starts_at a) es
    → (is_in n order ≡ true) × (find (λ (l : Live). begins a l.tracked.block) (map (live_at S) order) ≡ Some (live_at S n)) × (begins a (live_at S n).tracked.block ≡ true) × ((m : ℕ) → is_in m order ≡ true → begins a (live_at S m).tracked.block ≡ true → m ≡ n)
at_start S order grey free es reg a n h w = where_some S order grey free es reg (starts_at a) (λ (l : Live). begins a l.tracked.block) n h (λ m. refl) (λ e f. one_start a es e f h.rising) w

pub no_start : (S : List Slot) (order grey free : List ℕ) (es : List Entry) (reg a : ℕ) → Holds S order grey free es reg → None ≡ slot_where (starts_at a) es
    → find (λ (l : Live). begins a l.tracked.block) (map (live_at S) order) ≡ None
no_start S order grey free es reg a h w = (where_none S order grey free es reg (starts_at a) (λ (l : Live). begins a l.tracked.block) h (λ m. refl) w).0

pub sound_with : (r q : Record) → IsSound r → q ≡ record r { areas = q.areas } → IsLaid q → IsSound q
sound_with r q s o l =
    record { start = l.start; size = l.size; end = l.end; inside = l.inside; packed = l.packed; places = l.places; quiet = λ m. ap (λ (x : Record). x.no_scan) o ∙ s.quiet (sym (ap (λ (x : Record). x.minimum) o) ∙ m) }

pub same_sound : (r q : Record) → q.span ≡ r.span → q.areas ≡ r.areas → ((r.minimum ≡ Black → r.no_scan ≡ true) → q.minimum ≡ Black → q.no_scan ≡ true) → IsSound r → IsSound q
same_sound r q e f g s = record { start = rw e s.start; size = rw e s.size; end = rw e s.end; inside = rw (e, f) s.inside; packed = rw f s.packed; places = rw f s.places; quiet = g s.quiet }

-- a record of which a note was taken
pub sound_noted : (note : Note) (r : Record) → IsSound r → IsSound (record_noted note r)
sound_noted notes.NotLeak r s = record { start = s.start; size = s.size; end = s.end; inside = s.inside; packed = s.packed; places = s.places; quiet = λ e. absurd (let z : ⊥ = cc in z) }
sound_noted notes.Ignore r s = record { start = s.start; size = s.size; end = s.end; inside = s.inside; packed = s.packed; places = s.places; quiet = λ _. refl }
sound_noted notes.NoScan r s = record { start = s.start; size = s.size; end = s.end; inside = s.inside; packed = s.packed; places = s.places; quiet = λ _. refl }
sound_noted notes.TransientLeak r s = record { start = s.start; size = s.size; end = s.end; inside = s.inside; packed = s.packed; places = s.places; quiet = s.quiet }

pub wrote_noted : (note : Note) (S T : List Slot) (order grey free : List ℕ) (es : List Entry) (reg a n : ℕ) → Holds S order grey free es reg → Some n ≡ slot_where (starts_at a) es → T ≡ set S n (slot_noted note (slot_at S n))
    → Wrote S T order grey free es reg (λ (l : Live). begins a l.tracked.block) (tracked_noted note)
wrote_noted notes.NotLeak S T order grey free es reg a n h w e =
    let p = at_start S order grey free es reg a n h w in
    wrote S T order grey free es reg n (slot_noted notes.NotLeak (slot_at S n)) (λ (l : Live). begins a l.tracked.block) (tracked_noted notes.NotLeak) h p.0 e refl refl (sound_noted notes.NotLeak _ (h.sound n p.0)) (λ f. absurd (omega (arith, ltb-true (slot_at S n).«record».count 0 f))) refl p.2 p.3
wrote_noted notes.Ignore S T order grey free es reg a n h w e =
    let p = at_start S order grey free es reg a n h w in
    wrote S T order grey free es reg n (slot_noted notes.Ignore (slot_at S n)) (λ (l : Live). begins a l.tracked.block) (tracked_noted notes.Ignore) h p.0 e refl refl (sound_noted notes.Ignore _ (h.sound n p.0)) (λ f. absurd (let z : ⊥ = cc in z)) refl p.2 p.3
wrote_noted notes.NoScan S T order grey free es reg a n h w e =
    let p = at_start S order grey free es reg a n h w in
    wrote S T order grey free es reg n (slot_noted notes.NoScan (slot_at S n)) (λ (l : Live). begins a l.tracked.block) (tracked_noted notes.NoScan) h p.0 e refl refl (sound_noted notes.NoScan _ (h.sound n p.0)) (λ f. f) refl p.2 p.3
wrote_noted notes.TransientLeak S T order grey free es reg a n h w e =
    let p = at_start S order grey free es reg a n h w in
    wrote S T order grey free es reg n (slot_noted notes.TransientLeak (slot_at S n)) (λ (l : Live). begins a l.tracked.block) (tracked_noted notes.TransientLeak) h p.0 e refl refl (sound_noted notes.TransientLeak _ (h.sound n p.0)) (λ f. f) refl p.2 p.3

-- the one block with an id
pub at_id : (S : List Slot) (order : List ℕ) (id : RecId) → list_any (is_id id) (map (live_at S) order) ≡ true → (is_in id.slot order ≡ true) × (is_id id (live_at S id.slot) ≡ true) × ((m : ℕ) → is_in m order ≡ true → is_id id (live_at S m) ≡ true → m ≡ id.slot)
at_id S order id l =
    let p = live_id S order id l in
    (p.0, and_from _ _ (eq-eqb id.slot id.slot refl) (eq-eqb (slot_at S id.slot).generation id.generation p.1), λ m j u. eqb-true m id.slot (and_parts (m == id.slot) ((slot_at S m).generation == id.generation) u).0)

pub wrote_excess : (to : Addr) (S T : List Slot) (order grey free : List ℕ) (es : List Entry) (reg : ℕ) (id : RecId) → Holds S order grey free es reg → list_any (is_id id) (map (live_at S) order) ≡ true → T ≡ set S id.slot (slot_excess to (slot_at S id.slot))
    → Wrote S T order grey free es reg (is_id id) (λ (u : Tracked). record u { block = record u.block { excess = Some to.0 } })
wrote_excess to S T order grey free es reg id h w e =
    let p = at_id S order id w in
    wrote S T order grey free es reg id.slot (slot_excess to (slot_at S id.slot)) (is_id id) (λ (u : Tracked). record u { block = record u.block { excess = Some to.0 } }) h p.0 e refl refl (same_sound (slot_at S id.slot).«record» _ refl refl (λ q. q) (h.sound id.slot p.0)) (λ f. f) refl p.1 p.2
