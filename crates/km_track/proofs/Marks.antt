use Rattle.std.proofs.Common.{◌≡◌, ℕ, ◌+◌, Bool, true, false, ◌&&◌, ◌||◌, ◌==◌, List, [], ◌∷◌, ◌++◌, map, set, drop, Some, if◌then◌else◌, refl, sym, ap, ◌∙◌, subst, arith, get_or-set_same}
use Rattle.std.specs.Prelude.{find}
use Rattle.std.specs.List.{list_any}
use Rattle.std.proofs.lemmas.Bool.{le-ltb, or_left, or_right, or_parts, or_from, eqb-true, eq-eqb, ne_eqb, both_ways}
use Rattle.std.proofs.lemmas.List.{map-append}
use Rattle.std.proofs.lemmas.List.Folds.{list_any-append}
use Rattle.km_model.specs.Blocks.{needs, references_of}
use Rattle.km_model.specs.Scan.{differs}
use Rattle.km_state.specs.State.{Tracked, is_white_now}
use Rattle.km_links.specs.Chains.{is_in, first_of}
use Rattle.km_links.proofs.Distinct.{distinct_append}
use Rattle.km_map.specs.declared.entries.Entry.{Entry}
use Rattle.km_record.specs.declared.kinds.RecId.{RecId}
use Rattle.km_record.specs.declared.kinds.Minimum.{Minimum}
use Rattle.km_record.specs.declared.kinds.Minimum.TheVariants.{Black, AtLeast}
use Rattle.km_record.specs.declared.record.Record.{Record}
use Rattle.km_record.specs.Records.{block_of}
use Rattle.km_track.specs.declared.slots.Slot.{Slot}
use Rattle.km_track.specs.Slots.{no_record, slot_at, slot_judged, slot_counted, slot_summed}
use Rattle.km_track.specs.Tracker.{Live, Tracker, changed, counted, judged, queued, summed, is_id, tracked_of}
use Rattle.km_track.specs.Holds.{live_at, Holds}
use Rattle.km_track.proofs.Searches.{with_id, live_id}
use Rattle.km_track.proofs.Writes.{Wrote, wrote, same_sound, ids_in, at_id}
use Rattle.km_track.proofs.Leaves.{one_id}

-- the marks that a scan leaves

-- the block with an id is that in its slot
pub found_id : (S : List Slot) (order : List ℕ) (id : RecId) (l : Live) → list_any (is_id id) (map (live_at S) order) ≡ true → find (is_id id) (map (live_at S) order) ≡ Some l → live_at S id.slot ≡ l
found_id S order id l w e =
    let p = live_id S order id w in
    let f = with_id S order id p.0 p.1 in
    cc

pub any_id : (S : List Slot) (order : List ℕ) (id : RecId) → is_in id.slot order ≡ true → (slot_at S id.slot).generation ≡ id.generation → list_any (is_id id) (map (live_at S) order) ≡ true
any_id S [] id i e = absurd (let z : ⊥ = cc in z)
any_id S (m ∷ order) id i e =
    elim (m == id.slot) as (λ b. (m == id.slot) ≡ b → (b || is_in id.slot order) ≡ true → ((b && (slot_at S m).generation == id.generation) || list_any (is_id id) (map (live_at S) order)) ≡ true) [
      | true ↦ λ f _. or_left _ _ (eq-eqb (slot_at S m).generation id.generation (subst (λ k. (slot_at S k).generation ≡ id.generation) (sym (eqb-true m id.slot f)) e))
      | false ↦ λ _ j. any_id S order id j e
    ] refl i

pub head_in : (n : ℕ) (ns : List ℕ) → Some n ≡ first_of ns → is_in n ns ≡ true
head_in n [] h = absurd (let z : ⊥ = cc in z)
head_in n (m ∷ ns) h = let same : n ≡ m = cc in or_left _ _ (eq-eqb m n (sym same))

pub wrote_judged : (white : Bool) (S T : List Slot) (order grey free : List ℕ) (es : List Entry) (reg : ℕ) (id : RecId) → Holds S order grey free es reg → list_any (is_id id) (map (live_at S) order) ≡ true → T ≡ set S id.slot (slot_judged white (slot_at S id.slot))
    → Wrote S T order grey free es reg (is_id id) (judged white)
wrote_judged white S T order grey free es reg id h w e =
    let p = at_id S order id w in
    wrote S T order grey free es reg id.slot (slot_judged white (slot_at S id.slot)) (is_id id) (judged white) h p.0 e refl refl (same_sound (slot_at S id.slot).«record» _ refl refl (λ q. q) (h.sound id.slot p.0)) (λ f. f) refl p.1 p.2

-- a white block is not queued
pub not_queued : (S : List Slot) (order grey free : List ℕ) (es : List Entry) (reg n : ℕ) → Holds S order grey free es reg → is_white_now (live_at S n).tracked ≡ true → is_in n grey ≡ false
not_queued S order grey free es reg n h w =
    elim (is_in n grey) as (λ b. is_in n grey ≡ b → b ≡ false) [ true ↦ λ f. absurd (both_ways (is_white_now (live_at S n).tracked) (h.queued n f).1 w) | false ↦ λ _. refl ] refl

-- a block that isn't white goes to the queue's end
queue_holds : (T : List Slot) (order grey free : List ℕ) (es : List Entry) (reg n : ℕ) → Holds T order grey free es reg → is_in n order ≡ true → is_in n grey ≡ false → is_white_now (live_at T n).tracked ≡ false → Holds T order (grey ++ n ∷ []) free es reg
queue_holds T order grey free es reg n h i o w = record {
  orders = h.orders;
  greys = distinct_append grey (n ∷ []) h.greys (refl, tt) (λ m j. or_from _ _ (ne_eqb n m (λ e. both_ways (is_in n grey) o (subst (λ k. is_in k grey ≡ true) (sym e) j))) refl);
  within = h.within;
  freed = h.freed;
  count = h.count;
  queued = λ m j.
      elim (is_in m grey) as (λ b. is_in m grey ≡ b → (is_in m order ≡ true) × (is_white_now (live_at T m).tracked ≡ false)) [
        | true ↦ λ f. h.queued m f
        | false ↦ λ f.
            let s = sym (list_any-append (λ k. k == m) grey (n ∷ [])) ∙ j in
            let same : n ≡ m = last n m (rw f at s) in
            subst (λ k. (is_in k order ≡ true) × (is_white_now (live_at T k).tracked ≡ false)) same (i, w)
      ] refl;
  kept = h.kept;
  known = h.known;
  rising = h.rising;
  ids = h.ids;
  sound = h.sound;
}
  where
    last : (n m : ℕ) → is_in m (n ∷ []) ≡ true → n ≡ m
    last n m j = elim (n == m) as (λ b. (n == m) ≡ b → (b || false) ≡ true → n ≡ m) [ true ↦ λ f _. eqb-true n m f | false ↦ λ _ g. absurd (let z : ⊥ = cc in z) ] refl j

-- the queue, where a block goes there now
abbrev pub queue_now : Bool → ℕ → List ℕ → List ℕ
queue_now now n grey = if now then grey ++ n ∷ [] else grey

-- what stands after a mark that may queue
pub record Marked (S T : List Slot) (order grey free : List ℕ) (es : List Entry) (reg : ℕ) (id : RecId) (now : Bool) (change : Tracked → Tracked) : Type 0 where
  pub holds : Holds T order (queue_now now id.slot grey) free es reg
  pub wrote : Wrote S T order grey free es reg (is_id id) change
  pub name : (slot_at T id.slot).generation ≡ id.generation

pub marked : (S T : List Slot) (order grey free : List ℕ) (es : List Entry) (reg : ℕ) (id : RecId) (now : Bool) (change : Tracked → Tracked) (x : Slot) → Holds S order grey free es reg
    → list_any (is_id id) (map (live_at S) order) ≡ true → is_white_now (live_at S id.slot).tracked ≡ true → T ≡ set S id.slot x → x.generation ≡ (slot_at S id.slot).generation
    → x.«record».span ≡ (slot_at S id.slot).«record».span → x.«record».areas ≡ (slot_at S id.slot).«record».areas
    → (((slot_at S id.slot).«record».minimum ≡ Black → (slot_at S id.slot).«record».no_scan ≡ true) → x.«record».minimum ≡ Black → x.«record».no_scan ≡ true)
    → tracked_of x.generation x.«record» ≡ change (live_at S id.slot).tracked → (now ≡ true → is_white_now (tracked_of x.generation x.«record») ≡ false) → Marked S T order grey free es reg id now change
marked S T order grey free es reg id now change x h w white e gen span areas quiet is dark =
    let p = at_id S order id w in
    let q = live_id S order id w in
    let done = wrote S T order grey free es reg id.slot x (is_id id) change h p.0 e gen span (same_sound (slot_at S id.slot).«record» x.«record» span areas quiet (h.sound id.slot p.0)) (λ _. white) is p.1 p.2 in
    let here : slot_at T id.slot ≡ x = ap (λ l. slot_at l id.slot) e ∙ get_or-set_same S id.slot x no_record (h.within id.slot p.0) in
    let out = not_queued S order grey free es reg id.slot h white in
    record {
      holds = elim now as (λ b. (b ≡ true → is_white_now (tracked_of x.generation x.«record») ≡ false) → Holds T order (queue_now b id.slot grey) free es reg) [
        | true ↦ λ d. queue_holds T order grey free es reg id.slot done.holds p.0 out (ap (λ y. is_white_now (tracked_of y.generation y.«record»)) here ∙ d refl)
        | false ↦ λ _. done.holds
      ] dark;
      wrote = done;
      name = ap (λ y. y.generation) here ∙ (gen ∙ q.1);
    }

-- the tracker that is seen then
pub viewed_marked : (S T : List Slot) (order grey free : List ℕ) (es : List Entry) (reg spare : ℕ) (id : RecId) (now : Bool) (change : Tracked → Tracked) → Marked S T order grey free es reg id now change
    → ◌≡◌ {A = Tracker} (record { live = map (live_at T) order; queue = ids_in T (queue_now now id.slot grey); registered = reg; spare = spare })
    (queued now id.generation (changed (is_id id) change (record { live = map (live_at S) order; queue = ids_in S grey; registered = reg; spare = spare })))
viewed_marked S T order grey free es reg spare id false change m = λ i. record { live = m.wrote.lives i; queue = m.wrote.ids i; registered = reg; spare = spare }
viewed_marked S T order grey free es reg spare id true change m =
    let ids : ids_in T (grey ++ id.slot ∷ []) ≡ ids_in S grey ++ id.generation ∷ [] = map-append (λ n. (slot_at T n).generation) grey (id.slot ∷ []) ∙ (ap (λ k. ids_in T grey ++ k ∷ []) m.name ∙ ap (λ k. k ++ id.generation ∷ []) m.wrote.ids) in
    λ i. record { live = m.wrote.lives i; queue = ids i; registered = reg; spare = spare }

-- a reference is counted
needs_dark : (m : Minimum) (count : ℕ) (r : Record) → r.minimum ≡ m → needs (r.count + 1) (block_of 0 r) ≡ true → is_white_now (tracked_of 0 (record r { count = r.count + 1 })) ≡ false
needs_dark Black count r e h = rw e refl
needs_dark (AtLeast n) count r e h = rw e (le-ltb (r.count + 1) n (omega (arith, eqb-true n (r.count + 1) (rw e at h))))

pub counted_marked : (S T : List Slot) (order grey free : List ℕ) (es : List Entry) (reg : ℕ) (id : RecId) (now : Bool) → Holds S order grey free es reg
    → list_any (is_id id) (map (live_at S) order) ≡ true → is_white_now (live_at S id.slot).tracked ≡ true → T ≡ set S id.slot (slot_counted (slot_at S id.slot))
    → now ≡ needs ((slot_at S id.slot).«record».count + 1) (block_of 0 (slot_at S id.slot).«record») → Marked S T order grey free es reg id now counted
counted_marked S T order grey free es reg id now h w white e n =
    marked S T order grey free es reg id now counted (slot_counted (slot_at S id.slot)) h w white e refl refl refl (λ q. q) refl (λ t. needs_dark (slot_at S id.slot).«record».minimum 0 (slot_at S id.slot).«record» refl (sym n ∙ t))

-- a sum is kept
full_dark : (m : Minimum) (r : Record) (sum : ℕ) → r.minimum ≡ m → differs r.sum sum ≡ true → is_white_now (tracked_of 0 (record r { count = if differs r.sum sum then references_of (block_of 0 r) else r.count; sum = Some sum })) ≡ false
full_dark Black r sum e h = rw e refl
full_dark (AtLeast n) r sum e h = rw (e, h) (le-ltb n n (omega arith))

pub summed_marked : (S T : List Slot) (order grey free : List ℕ) (es : List Entry) (reg : ℕ) (id : RecId) (now : Bool) (sum : ℕ) → Holds S order grey free es reg
    → list_any (is_id id) (map (live_at S) order) ≡ true → is_white_now (live_at S id.slot).tracked ≡ true → T ≡ set S id.slot (slot_summed sum (slot_at S id.slot))
    → now ≡ differs (slot_at S id.slot).«record».sum sum → Marked S T order grey free es reg id now (summed sum)
summed_marked S T order grey free es reg id now sum h w white e n =
    marked S T order grey free es reg id now (summed sum) (slot_summed sum (slot_at S id.slot)) h w white e refl refl refl (λ q. q) refl (λ t. full_dark (slot_at S id.slot).«record».minimum (slot_at S id.slot).«record» sum refl (sym n ∙ t))

-- the number of the head of the queue is no other's in it
pub head_once : (S : List Slot) (order grey free : List ℕ) (es : List Entry) (reg n : ℕ) → Holds S order grey free es reg → Some n ≡ first_of grey → is_in (slot_at S n).generation (drop 1 (ids_in S grey)) ≡ false
head_once S order [] free es reg n h e = refl
head_once S order (m ∷ grey) free es reg n h e =
    let same : n ≡ m = cc in subst (λ k. is_in (slot_at S k).generation (ids_in S grey) ≡ false) (sym same) (none grey (λ k i. (h.queued k (or_right (m == k) _ i)).0) h.greys.0)
  where
    m_in : is_in m order ≡ true
    m_in = (h.queued m (or_left _ _ (eq-eqb m m refl))).0

    none : (rest : List ℕ) → ((k : ℕ) → is_in k rest ≡ true → is_in k order ≡ true) → is_in m rest ≡ false → is_in (slot_at S m).generation (ids_in S rest) ≡ false
    none [] within out = refl
    none (k ∷ rest) within out =
        let p = or_parts (k == m) (is_in m rest) out in
        rw (ne_eqb (slot_at S k).generation (slot_at S m).generation (λ g. both_ways (k == m) p.0 (eq-eqb k m (one_id S 0 order reg k m h.ids (within k (or_left _ _ (eq-eqb k k refl))) m_in g))))
        (none rest (λ j i. within j (or_right (k == j) _ i)) p.1)
