use Rattle.std.proofs.Common.{◌≡◌, ℕ, ◌+◌, ◌<◌, Bool, true, false, ◌&&◌, ◌||◌, ◌==◌, List, [], ◌∷◌, map, length, get_or, cond, Some, None, option_map, if◌then◌else◌, refl, sym, ap, ◌∙◌, subst}
use Rattle.std.specs.Prelude.{find}
use Rattle.std.specs.List.{list_any}
use Rattle.std.proofs.lemmas.Bool.{and_parts, and_left, and_from, or_left, or_right, eqb-true, eq-eqb, ne_eqb, both_ways}
use Rattle.std.proofs.lemmas.List.{get_or_read}
use Rattle.km_links.specs.Chains.{is_in, first_of, slot_behind}
use Rattle.km_map.specs.declared.entries.Entry.{Entry}
use Rattle.km_map.specs.Entries.{slot_where}
use Rattle.km_record.specs.declared.kinds.RecId.{RecId}
use Rattle.km_track.specs.declared.slots.Slot.{Slot}
use Rattle.km_track.specs.Slots.{no_record, slot_at}
use Rattle.km_track.specs.Tracker.{AreRising, Live, is_id, first_live, live_behind}
use Rattle.km_track.specs.Holds.{live_at, entry_at, IdsRise, IsAmong, Holds}
use Rattle.km_track.proofs.Members.{there, nowhere}

-- searches among live blocks

pub find_one : (S : List Slot) (t : Live → Bool) (order : List ℕ) (n : ℕ) → is_in n order ≡ true → t (live_at S n) ≡ true → ((m : ℕ) → is_in m order ≡ true → t (live_at S m) ≡ true → m ≡ n) → find t (map (live_at S) order) ≡ Some (live_at S n)
find_one S t [] n i h one = absurd (let z : ⊥ = cc in z)
find_one S t (m ∷ order) n i h one =
    elim (t (live_at S m)) as (λ b. t (live_at S m) ≡ b → cond b (Some (live_at S m)) (find t (map (live_at S) order)) ≡ Some (live_at S n)) [
      | true ↦ λ e. ap (λ k. Some (live_at S k)) (one m (or_left _ _ (eq-eqb m m refl)) e)
      | false ↦ λ e. find_one S t order n (rest e) h (λ k j u. one k (or_right (m == k) _ j) u)
    ] refl
  where
    rest : t (live_at S m) ≡ false → is_in n order ≡ true
    rest e = elim (m == n) as (λ b. (m == n) ≡ b → (b || is_in n order) ≡ true → is_in n order ≡ true) [
      | true ↦ λ f _. absurd (both_ways (t (live_at S n)) (subst (λ k. t (live_at S k) ≡ false) (eqb-true m n f) e) h)
      | false ↦ λ _ j. j
    ] refl i

pub find_no : (S : List Slot) (t : Live → Bool) (order : List ℕ) → ((m : ℕ) → is_in m order ≡ true → t (live_at S m) ≡ false) → find t (map (live_at S) order) ≡ None
find_no S t [] h = refl
find_no S t (m ∷ order) h = rw (h m (or_left _ _ (eq-eqb m m refl))) (find_no S t order (λ k j. h k (or_right (m == k) _ j)))

-- an answer of the map, by the entries' test
pub where_some : (S : List Slot) (order grey free : List ℕ) (es : List Entry) (reg : ℕ) (q : Entry → Bool) (t : Live → Bool) (n : ℕ) → Holds S order grey free es reg
    → ((m : ℕ) → t (live_at S m) ≡ q (entry_at S m)) → ((e f : Entry) → IsAmong es e → IsAmong es f → q e ≡ true → q f ≡ true → e ≡ f) → Some n ≡ slot_where q es
    → (is_in n order ≡ true) × (find t (map (live_at S) order) ≡ Some (live_at S n)) × (t (live_at S n) ≡ true) × ((m : ℕ) → is_in m order ≡ true → t (live_at S m) ≡ true → m ≡ n)
where_some S order grey free es reg q t n h same one w =
    let e = there q es n w in
    let k = h.known e.0 e.1 in
    let i : is_in n order ≡ true = subst (λ m. is_in m order ≡ true) e.3 k.0 in
    let is : e.0 ≡ entry_at S n = k.1 ∙ ap (entry_at S) e.3 in
    let passes : t (live_at S n) ≡ true = same n ∙ subst (λ (y : Entry). q y ≡ true) is e.2 in
    let alone : (m : ℕ) → is_in m order ≡ true → t (live_at S m) ≡ true → m ≡ n = λ m j u. ap (λ (y : Entry). y.slot) (one (entry_at S m) (entry_at S n) (h.kept m j) (h.kept n i) (sym (same m) ∙ u) (sym (same n) ∙ passes)) in
    (i, find_one S t order n i passes alone, passes, alone)

pub where_none : (S : List Slot) (order grey free : List ℕ) (es : List Entry) (reg : ℕ) (q : Entry → Bool) (t : Live → Bool) → Holds S order grey free es reg
    → ((m : ℕ) → t (live_at S m) ≡ q (entry_at S m)) → None ≡ slot_where q es → (find t (map (live_at S) order) ≡ None) × ((m : ℕ) → is_in m order ≡ true → t (live_at S m) ≡ false)
where_none S order grey free es reg q t h same w =
    let out : (m : ℕ) → is_in m order ≡ true → t (live_at S m) ≡ false = λ m j. same m ∙ nowhere q es w (entry_at S m) (h.kept m j) in
    (find_no S t order out, out)

-- an id among live blocks is that of its slot
pub with_id : (S : List Slot) (order : List ℕ) (id : RecId) → is_in id.slot order ≡ true → (slot_at S id.slot).generation ≡ id.generation → find (is_id id) (map (live_at S) order) ≡ Some (live_at S id.slot)
with_id S order id i e =
    find_one S (is_id id) order id.slot i (and_from _ _ (eq-eqb id.slot id.slot refl) (eq-eqb _ _ e)) (λ m j u. eqb-true m id.slot (and_parts (m == id.slot) ((slot_at S m).generation == id.generation) u).0)

pub without_slot : (S : List Slot) (order : List ℕ) (id : RecId) → is_in id.slot order ≡ false → find (is_id id) (map (live_at S) order) ≡ None
without_slot S order id i =
    find_no S (is_id id) order (λ m j. and_left _ _ (ne_eqb m id.slot (λ e. both_ways (is_in id.slot order) i (subst (λ k. is_in k order ≡ true) e j))))

pub without_id : (S : List Slot) (order : List ℕ) (id : RecId) → ((slot_at S id.slot).generation ≡ id.generation → ⊥) → find (is_id id) (map (live_at S) order) ≡ None
without_id S order id n = find_no S (is_id id) order (λ m j. none m)
  where
    none : (m : ℕ) → is_id id (live_at S m) ≡ false
    none m = elim (m == id.slot) as (λ b. (m == id.slot) ≡ b → (b && (slot_at S m).generation == id.generation) ≡ false) [
      | true ↦ λ f. ne_eqb (slot_at S m).generation id.generation (λ e. n (subst (λ k. (slot_at S k).generation ≡ id.generation) (eqb-true m id.slot f) e))
      | false ↦ λ _. refl
    ] refl

-- an id of a live block
pub live_id : (S : List Slot) (order : List ℕ) (id : RecId) → list_any (is_id id) (map (live_at S) order) ≡ true → (is_in id.slot order ≡ true) × ((slot_at S id.slot).generation ≡ id.generation)
live_id S [] id h = absurd (let z : ⊥ = cc in z)
live_id S (m ∷ order) id h =
    elim (is_id id (live_at S m)) as (λ b. is_id id (live_at S m) ≡ b → (b || list_any (is_id id) (map (live_at S) order)) ≡ true → (is_in id.slot (m ∷ order) ≡ true) × ((slot_at S id.slot).generation ≡ id.generation)) [
      | true ↦ λ f _.
          let p = and_parts (m == id.slot) ((slot_at S m).generation == id.generation) f in
          (or_left _ _ p.0, subst (λ k. (slot_at S k).generation ≡ id.generation) (eqb-true m id.slot p.0) (eqb-true (slot_at S m).generation id.generation p.1))
      | false ↦ λ _ j. let r = live_id S order id j in (or_right (m == id.slot) _ r.0, r.1)
    ] refl h

pub behind_id : (S : List Slot) (order : List ℕ) (id : RecId) → (slot_at S id.slot).generation ≡ id.generation → live_behind id (map (live_at S) order) ≡ option_map (live_at S) (slot_behind id.slot order)
behind_id S [] id e = refl
behind_id S (m ∷ order) id e =
    elim (m == id.slot) as (λ b. (m == id.slot) ≡ b → (if b && (slot_at S m).generation == id.generation then first_live (map (live_at S) order) else live_behind id (map (live_at S) order)) ≡ option_map (live_at S) (if b then first_of order else slot_behind id.slot order)) [
      | true ↦ λ f. rw (eq-eqb (slot_at S m).generation id.generation (subst (λ k. (slot_at S k).generation ≡ id.generation) (sym (eqb-true m id.slot f)) e)) (firsts order)
      | false ↦ λ _. behind_id S order id e
    ] refl
  where
    firsts : (order : List ℕ) → first_live (map (live_at S) order) ≡ option_map (live_at S) (first_of order)
    firsts [] = refl
    firsts (n ∷ order) = refl

pub behind_in : (n m : ℕ) (order : List ℕ) → Some m ≡ slot_behind n order → is_in m order ≡ true
behind_in n m [] h = absurd (let z : ⊥ = cc in z)
behind_in n m (k ∷ order) h =
    elim (k == n) as (λ b. Some m ≡ (if b then first_of order else slot_behind n order) → is_in m (k ∷ order) ≡ true) [
      | true ↦ λ g. or_right (k == m) _ (head order g)
      | false ↦ λ g. or_right (k == m) _ (behind_in n m order g)
    ] h
  where
    head : (order : List ℕ) → Some m ≡ first_of order → is_in m order ≡ true
    head [] g = absurd (let z : ⊥ = cc in z)
    head (x ∷ order) g = let same : m ≡ x = cc in or_left _ _ (eq-eqb x m (sym same))

-- what a read of a slot says
pub read : (S : List Slot) (n : ℕ) (x : Slot) → n < length S → x ≡ get_or S n x → x ≡ slot_at S n
read S n x k e = get_or_read S n x k e no_record

pub rising_live : (S : List Slot) (low : ℕ) (ns : List ℕ) (high : ℕ) → IdsRise S low ns high → AreRising low (map (live_at S) ns) high
rising_live S low [] high r = r
rising_live S low (n ∷ ns) high r = (r.0, rising_live S ((slot_at S n).generation + 1) ns high r.1)
