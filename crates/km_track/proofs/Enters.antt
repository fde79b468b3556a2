use Rattle.std.proofs.Common.{◌≡◌, ◌≢◌, ℕ, ◌+◌, ◌-◌, ◌<◌, ◌≤◌, ◌^◌, ◌%◌, Bool, true, false, ◌||◌, ◌==◌, ltb, List, [], ◌∷◌, ◌++◌, map, length, set, drop, cond, Option, Some, None, Ok, Err, is_some, option_map, ◌⊎◌, inl, inr, refl, sym, ap, ◌∙◌, subst, arith, length-append, length-set, get_or-set_same, get_or-set_other}
use Rattle.std.specs.Prelude.{find}
use Rattle.std.proofs.lemmas.Bool.{or_left, or_right, or_from, eqb-true, eq-eqb, ne_eqb, both_ways}
use Rattle.std.proofs.lemmas.List.{map-append, get_or_push, get_or_append_left}
use Rattle.std.proofs.lemmas.List.Folds.{list_any-append}
use Rattle.km_base.specs.declared.spans.Span.{Span}
use Rattle.km_state.specs.State.{is_white_now, fresh}
use Rattle.km_links.specs.Chains.{is_in, first_of}
use Rattle.km_links.proofs.Distinct.{distinct_append, out_both}
use Rattle.km_map.specs.declared.entries.Entry.{Entry}
use Rattle.km_map.specs.Entries.{slot_where, unless_met, with_entry, end_of, IsRising, meets as entry_meets}
use Rattle.km_record.specs.Records.{IsSound}
use Rattle.km_record.specs.declared.kinds.RecId.{RecId}
use Rattle.km_track.specs.declared.slots.Slot.{Slot}
use Rattle.km_track.specs.Slots.{IsPlaced, next_slot, no_record, slot_at, slot_new}
use Rattle.km_track.specs.Tracker.{IsLowest, Live, Tracker, id_of, is_id, meets, new_block, registered_in}
use Rattle.km_track.specs.Holds.{live_at, entry_at, IsAmong, IdsRise, Holds}
use Rattle.km_track.proofs.Members.{start_among}
use Rattle.km_track.proofs.Searches.{where_none, with_id}
use Rattle.km_track.proofs.Writes.{ids_in}
use Rattle.km_track.proofs.Marks.{head_in}

-- a block enters

-- the next slot is the head of the free ones
pub next_is : (S : List Slot) (free : List ℕ) (n : ℕ) → Some n ≡ first_of free → next_slot S free ≡ n
next_is S [] n h = absurd (let z : ⊥ = cc in z)
next_is S (m ∷ free) n h = cc

-- what an insertion answers
pub met_is : (o : Option ℕ) (n : ℕ) → Err n ≡ unless_met o → Some n ≡ o
met_is None n h = absurd (let z : ⊥ = cc in z)
met_is (Some m) n h = let same : n ≡ m = cc in ap Some same

pub none_is : (o : Option ℕ) → Ok tt ≡ unless_met o → None ≡ o
none_is None h = refl
none_is (Some m) h = absurd (let z : ⊥ = cc in z)

-- a slot that is taken: it was in no list but the free one
pub record Took (S T : List Slot) (order free rest : List ℕ) (n : ℕ) (x : Slot) : Type 0 where
  pub here : slot_at T n ≡ x
  pub within : n < length T
  pub out : is_in n order ≡ false
  pub others : (m : ℕ) → m < length S → m ≢ n → (m < length T) × (slot_at T m ≡ slot_at S m)
  pub count : length order + 1 + length rest ≡ length T
  pub freed : (m : ℕ) → is_in m rest ≡ true → (m < length T) × (is_in m order ≡ false) × (m ≢ n)

one_in : (n m : ℕ) → is_in m (n ∷ []) ≡ true → n ≡ m
one_in n m j = elim (n == m) as (λ b. (n == m) ≡ b → (b || false) ≡ true → n ≡ m) [ true ↦ λ f _. eqb-true n m f | false ↦ λ _ g. absurd (let z : ⊥ = cc in z) ] refl j

end_cases : (n m : ℕ) (ns : List ℕ) → is_in m (ns ++ n ∷ []) ≡ true → (is_in m ns ≡ true) ⊎ (n ≡ m)
end_cases n m ns j =
    elim (is_in m ns) as (λ b. is_in m ns ≡ b → (b ≡ true) ⊎ (n ≡ m)) [ true ↦ λ _. inl refl | false ↦ λ f. inr (one_in n m (rw f at (sym (list_any-append (λ k. k == m) ns (n ∷ [])) ∙ j))) ] refl

pub took : (S T : List Slot) (order grey free rest : List ℕ) (es : List Entry) (reg n : ℕ) (x : Slot) → Holds S order grey free es reg → IsPlaced S T free rest n x → (is_in n rest ≡ false) ⊎ (free ≡ []) → Took S T order free rest n x
took S T order grey free rest es reg n x h p q =
    elim p as (λ _. Took S T order free rest n x) [ inl u ↦ again u.0 u.1 u.2 u.3 | inr v ↦ first v.0 v.1 v.2 v.3 ]
  where
    in_rest : (ns : List ℕ) (m : ℕ) → is_in m (drop 1 ns) ≡ true → is_in m ns ≡ true
    in_rest [] m j = j
    in_rest (k ∷ ns) m j = or_right (k == m) _ j

    shorter : (ns : List ℕ) → Some n ≡ first_of ns → length (drop 1 ns) + 1 ≡ length ns
    shorter [] e = absurd (let z : ⊥ = cc in z)
    shorter (k ∷ ns) e = omega arith

    empty : Some n ≡ first_of free → free ≡ [] → ⊥
    empty a b = let c : Some n ≡ None = a ∙ ap first_of b in let z : ⊥ = cc in z

    again : Some n ≡ first_of free → rest ≡ drop 1 free → n < length S → T ≡ set S n x → Took S T order free rest n x
    again a b k e =
        let long : length T ≡ length S = ap length e ∙ length-set S n x in
        record {
          here = ap (λ l. slot_at l n) e ∙ get_or-set_same S n x no_record k;
          within = omega (arith, long);
          out = (h.freed n (head_in n free a)).1;
          others = λ m l ne. (omega (arith, long), ap (λ l. slot_at l m) e ∙ get_or-set_other S n m x no_record ne);
          count = omega (arith, long, h.count, shorter free a, ap length b);
          freed = λ m j.
              let f = h.freed m (in_rest free m (subst (λ ns. is_in m ns ≡ true) b j)) in
              (omega (arith, long, f.0), f.1, λ u. elim q as (λ _. ⊥) [ inl o ↦ both_ways (is_in n rest) o (subst (λ k. is_in k rest ≡ true) u j) | inr o ↦ empty a o ]);
        }

    first : free ≡ [] → rest ≡ [] → n ≡ length S → T ≡ S ++ x ∷ [] → Took S T order free rest n x
    first a b k e =
        let long : length T ≡ length S + 1 = ap length e ∙ length-append S (x ∷ []) in
        record {
          here = ap (λ l. slot_at l n) e ∙ get_or_push S x no_record n (sym k);
          within = omega (arith, long, k);
          out = elim (is_in n order) as (λ b. is_in n order ≡ b → b ≡ false) [ true ↦ λ f. absurd (omega (arith, h.within n f, k)) | false ↦ λ _. refl ] refl;
          others = λ m l ne. (omega (arith, long), ap (λ l. slot_at l m) e ∙ get_or_append_left S (x ∷ []) no_record m l);
          count = omega (arith, long, h.count, ap length a, ap length b);
          freed = λ m j. absurd (let z : ⊥ = (let w : is_in m [] ≡ true = subst (λ ns. is_in m ns ≡ true) b j in cc) in z);
        }

-- a map with one more entry
with_there : (e : Entry) (es : List Entry) → IsAmong (with_entry e es) e
with_there e [] = inl refl
with_there e (x ∷ es) = elim (ltb x.span.start.0 e.span.start.0) as (λ b. IsAmong (cond b (x ∷ with_entry e es) (e ∷ x ∷ es)) e) [ true ↦ inr (with_there e es) | false ↦ inl refl ]

with_old : (e y : Entry) (es : List Entry) → IsAmong es y → IsAmong (with_entry e es) y
with_old e y [] i = absurd i
with_old e y (x ∷ es) i =
    elim (ltb x.span.start.0 e.span.start.0) as (λ b. IsAmong (cond b (x ∷ with_entry e es) (e ∷ x ∷ es)) y) [
      | true ↦ elim i as (λ _. IsAmong (x ∷ with_entry e es) y) [ inl s ↦ inl s | inr r ↦ inr (with_old e y es r) ]
      | false ↦ inr i
    ]

with_cases : (e y : Entry) (es : List Entry) → IsAmong (with_entry e es) y → (y ≡ e) ⊎ IsAmong es y
with_cases e y [] i = elim i as (λ _. (y ≡ e) ⊎ IsAmong [] y) [ inl s ↦ inl s | inr r ↦ absurd r ]
with_cases e y (x ∷ es) i =
    elim (ltb x.span.start.0 e.span.start.0) as (λ b. IsAmong (cond b (x ∷ with_entry e es) (e ∷ x ∷ es)) y → (y ≡ e) ⊎ IsAmong (x ∷ es) y) [
      | true ↦ λ j. elim j as (λ _. (y ≡ e) ⊎ IsAmong (x ∷ es) y) [ inl s ↦ inr (inl s) | inr r ↦ elim (with_cases e y es r) as (λ _. (y ≡ e) ⊎ IsAmong (x ∷ es) y) [ inl s ↦ inl s | inr t ↦ inr (inr t) ] ]
      | false ↦ λ j. elim j as (λ _. (y ≡ e) ⊎ IsAmong (x ∷ es) y) [ inl s ↦ inl s | inr r ↦ inr r ]
    ] i

rise_end : (S T : List Slot) (low : ℕ) (ns : List ℕ) (high n : ℕ) → ((m : ℕ) → is_in m ns ≡ true → slot_at T m ≡ slot_at S m) → (slot_at T n).generation ≡ high → IdsRise S low ns high → IdsRise T low (ns ++ n ∷ []) (high + 1)
rise_end S T low [] high n same e r = (omega (arith, r, e), omega (arith, e))
rise_end S T low (k ∷ ns) high n same e r =
    rw (same k (or_left _ _ (eq-eqb k k refl))) (r.0, rise_end S T ((slot_at S k).generation + 1) ns high n (λ m j. same m (or_right (k == m) _ j)) e r.1)

lives_same : (S T : List Slot) (ns : List ℕ) → ((m : ℕ) → is_in m ns ≡ true → slot_at T m ≡ slot_at S m) → map (live_at T) ns ≡ map (live_at S) ns
lives_same S T [] h = refl
lives_same S T (k ∷ ns) h = rw (h k (or_left _ _ (eq-eqb k k refl)), lives_same S T ns (λ m j. h m (or_right (k == m) _ j))) refl

ids_same : (S T : List Slot) (ns : List ℕ) → ((m : ℕ) → is_in m ns ≡ true → slot_at T m ≡ slot_at S m) → ids_in T ns ≡ ids_in S ns
ids_same S T [] h = refl
ids_same S T (k ∷ ns) h = rw (h k (or_left _ _ (eq-eqb k k refl)), ids_same S T ns (λ m j. h m (or_right (k == m) _ j))) refl

pub record Entered (S T : List Slot) (order grey rest : List ℕ) (es : List Entry) (reg n : ℕ) (span : Span) (references born : ℕ) : Type 0 where
  pub holds : Holds T (order ++ n ∷ []) grey rest (with_entry (record { span = span; slot = n }) es) (reg + 1)
  pub lives : map (live_at T) (order ++ n ∷ []) ≡ map (live_at S) order ++ record { slot = n; tracked = fresh (new_block reg span references born) } ∷ []
  pub ids : ids_in T grey ≡ ids_in S grey

sound_new : (reg : ℕ) (span : Span) (references born : ℕ) → span.start.0 % 8 ≡ 0 → span.size % 8 ≡ 0 → span.start.0 + span.size < 2 ^ 64 → IsSound (slot_new reg span references born).«record»
sound_new reg span references born a b c = record { start = a; size = b; end = c; inside = tt; packed = refl; places = refl; quiet = λ e. absurd (let z : ⊥ = cc in z) }

pub entered : (S T : List Slot) (order grey free rest : List ℕ) (es : List Entry) (reg n : ℕ) (span : Span) (references born : ℕ) → Holds S order grey free es reg
    → IsPlaced S T free rest n (slot_new reg span references born) → (is_in n rest ≡ false) ⊎ (free ≡ [])
    → span.start.0 % 8 ≡ 0 → span.size % 8 ≡ 0 → span.start.0 + span.size < 2 ^ 64 → IsRising (with_entry (record { span = span; slot = n }) es) → Entered S T order grey rest es reg n span references born
entered S T order grey free rest es reg n span references born h p q a b c up =
    let x = slot_new reg span references born in
    let t = took S T order grey free rest es reg n x h p q in
    let apart : (m : ℕ) → is_in m order ≡ true → m ≢ n = λ m j e. both_ways (is_in n order) t.out (subst (λ k. is_in k order ≡ true) e j) in
    let same : (m : ℕ) → is_in m order ≡ true → slot_at T m ≡ slot_at S m = λ m j. (t.others m (h.within m j) (apart m j)).1 in
    let e : Entry = record { span = span; slot = n } in
    let here : entry_at T n ≡ e = ap (λ (y : Slot). record { span = y.«record».span; slot = n }) t.here in
    let old : (m : ℕ) → is_in m order ≡ true → entry_at T m ≡ entry_at S m = λ m j. ap (λ (y : Slot). record { span = y.«record».span; slot = m }) (same m j) in
    let front : (m : ℕ) → is_in m order ≡ true → is_in m (order ++ n ∷ []) ≡ true = λ m j. list_any-append (λ k. k == m) order (n ∷ []) ∙ or_left _ _ j in
    let back : is_in n (order ++ n ∷ []) ≡ true = list_any-append (λ k. k == n) order (n ∷ []) ∙ or_right (is_in n order) _ (or_left _ _ (eq-eqb n n refl)) in
    record {
      holds = record {
        orders = distinct_append order (n ∷ []) h.orders (refl, tt) (λ m j. or_from _ _ (ne_eqb n m (λ u. apart m j (sym u))) refl);
        greys = h.greys;
        within = λ m j. elim (end_cases n m order j) as (λ _. m < length T) [ inl i ↦ (t.others m (h.within m i) (apart m i)).0 | inr u ↦ subst (λ k. k < length T) u t.within ];
        freed = λ m j. let f = t.freed m j in (f.0, out_both m order (n ∷ []) f.1 (or_from _ _ (ne_eqb n m (λ u. f.2 (sym u))) refl));
        count = omega (arith, t.count, length-append order (n ∷ []));
        queued = λ m j. let g = h.queued m j in (front m g.0, ap (λ (y : Slot). is_white_now (live_at (y ∷ []) 0).tracked) (same m g.0) ∙ g.1);
        kept = λ m j. elim (end_cases n m order j) as (λ _. IsAmong (with_entry e es) (entry_at T m)) [
          | inl i ↦ subst (λ y. IsAmong (with_entry e es) y) (sym (old m i)) (with_old e (entry_at S m) es (h.kept m i))
          | inr u ↦ subst (λ k. IsAmong (with_entry e es) (entry_at T k)) u (subst (λ y. IsAmong (with_entry e es) y) (sym here) (with_there e es))
        ];
        known = λ y i. elim (with_cases e y es i) as (λ _. (is_in y.slot (order ++ n ∷ []) ≡ true) × (y ≡ entry_at T y.slot)) [
          | inl s ↦ subst (λ (z : Entry). (is_in z.slot (order ++ n ∷ []) ≡ true) × (z ≡ entry_at T z.slot)) (sym s) (back, sym here)
          | inr r ↦ let k = h.known y r in (front y.slot k.0, k.1 ∙ sym (old y.slot k.0))
        ];
        rising = up;
        ids = rise_end S T 0 order reg n same (ap (λ (y : Slot). y.generation) t.here) h.ids;
        sound = λ m j. elim (end_cases n m order j) as (λ _. IsSound (slot_at T m).«record») [
          | inl i ↦ subst (λ (y : Slot). IsSound y.«record») (sym (same m i)) (h.sound m i)
          | inr u ↦ subst (λ k. IsSound (slot_at T k).«record») u (subst (λ (y : Slot). IsSound y.«record») (sym t.here) (sound_new reg span references born a b c))
        ];
      };
      lives = map-append (live_at T) order (n ∷ []) ∙ (ap (λ l. l ++ live_at T n ∷ []) (lives_same S T order same) ∙ ap (λ (y : Slot). map (live_at S) order ++ record (live_at (y ∷ []) 0) { slot = n } ∷ []) t.here);
      ids = ids_same S T grey (λ m j. same m (h.queued m j).0);
    }

pub viewed_entered : (S T : List Slot) (order grey rest : List ℕ) (es : List Entry) (reg n capacity : ℕ) (span : Span) (references born : ℕ) → Entered S T order grey rest es reg n span references born
    → ◌≡◌ {A = Tracker} (record { live = map (live_at T) (order ++ n ∷ []); queue = ids_in T grey; registered = reg + 1; spare = capacity - length (order ++ n ∷ []) })
    (registered_in n span references born (record { live = map (live_at S) order; queue = ids_in S grey; registered = reg; spare = capacity - length order }))
viewed_entered S T order grey rest es reg n capacity span references born w =
    let fewer : capacity - length (order ++ n ∷ []) ≡ capacity - length order - 1 = omega (arith, length-append order (n ∷ [])) in
    λ i. record { live = w.lives i; queue = w.ids i; registered = reg + 1; spare = fewer i }

-- the slot that is taken lies in the table
pub slot_small : (S T : List Slot) (order grey free rest : List ℕ) (es : List Entry) (reg n capacity : ℕ) (x : Slot) → Holds S order grey free es reg → IsPlaced S T free rest n x → length S ≤ capacity → length order < capacity → (n < capacity) × (length T ≤ capacity)
slot_small S T order grey free rest es reg n capacity x h p l k =
    elim p as (λ _. (n < capacity) × (length T ≤ capacity)) [
      | inl u ↦ (omega (arith, u.2), omega (arith, ap length u.3 ∙ length-set S n x))
      | inr v ↦ let c : length S ≡ length order = omega (arith, h.count, ap length v.0) in (omega (arith, v.2, c), omega (arith, ap length v.3 ∙ length-append S (x ∷ []), c))
    ]

-- what meets a span

find_among : (q : Entry → Bool) (es : List Entry) (n : ℕ) → Some n ≡ slot_where q es → IsRising es
    → (e : Entry) × IsAmong es e × (q e ≡ true) × (e.slot ≡ n) × ((f : Entry) → IsAmong es f → q f ≡ true → e.span.start.0 ≤ f.span.start.0)
find_among q [] n h r = absurd (let z : ⊥ = cc in z)
find_among q (x ∷ es) n h r =
    elim (q x) as (λ b. q x ≡ b → Some n ≡ option_map (λ (e : Entry). e.slot) (cond b (Some x) (find q es)) → (e : Entry) × IsAmong (x ∷ es) e × (q e ≡ true) × (e.slot ≡ n) × ((f : Entry) → IsAmong (x ∷ es) f → q f ≡ true → e.span.start.0 ≤ f.span.start.0)) [
      | true ↦ λ t g. (x, inl refl, t, (let same : x.slot ≡ n = cc in same), λ f i _. elim i as (λ _. x.span.start.0 ≤ f.span.start.0) [ inl s ↦ omega (arith, ap (λ (y : Entry). y.span.start.0) s) | inr u ↦ omega (arith, start_among (end_of x) es f r.1 u) ])
      | false ↦ λ o g.
          let w = find_among q es n g r.2 in
          (w.0, inr w.1, w.2, w.3, λ f i t. elim i as (λ _. w.0.span.start.0 ≤ f.span.start.0) [ inl s ↦ absurd (both_ways (q x) o (ap q (sym s) ∙ t)) | inr u ↦ w.4 f u t ])
    ] refl h

find_live : (S : List Slot) (t : Live → Bool) (order : List ℕ) (l : Live) → find t (map (live_at S) order) ≡ Some l → (m : ℕ) × (is_in m order ≡ true) × (l ≡ live_at S m)
find_live S t [] l h = absurd (let z : ⊥ = cc in z)
find_live S t (k ∷ order) l h =
    elim (t (live_at S k)) as (λ b. cond b (Some (live_at S k)) (find t (map (live_at S) order)) ≡ Some l → (m : ℕ) × (is_in m (k ∷ order) ≡ true) × (l ≡ live_at S m)) [
      | true ↦ λ g. (k, or_left _ _ (eq-eqb k k refl), (let same : l ≡ live_at S k = cc in same))
      | false ↦ λ g. let r = find_live S t order l g in (r.0, or_right (k == r.0) _ r.1, r.2)
    ] h

find_is : (S : List Slot) (t : Live → Bool) (order : List ℕ) (n : ℕ) → is_in n order ≡ true → t (live_at S n) ≡ true → true ≡ is_some (find t (map (live_at S) order))
find_is S t [] n i h = absurd (let z : ⊥ = cc in z)
find_is S t (k ∷ order) n i h =
    elim (t (live_at S k)) as (λ b. t (live_at S k) ≡ b → true ≡ is_some (cond b (Some (live_at S k)) (find t (map (live_at S) order)))) [
      | true ↦ λ _. refl
      | false ↦ λ f. find_is S t order n (elim (k == n) as (λ b. (k == n) ≡ b → (b || is_in n order) ≡ true → is_in n order ≡ true) [ true ↦ λ e _. absurd (both_ways (t (live_at S n)) (subst (λ m. t (live_at S m) ≡ false) (eqb-true k n e) f) h) | false ↦ λ _ j. j ] refl i) h
    ] refl

pub record Overlaps (S : List Slot) (order : List ℕ) (span : Span) (n : ℕ) : Type 0 where
  pub here : is_in n order ≡ true
  pub some : true ≡ is_some (find (λ (l : Live). meets span l.tracked.block) (map (live_at S) order))
  pub lowest : (t : Tracker) → map (live_at S) order ≡ t.live → IsLowest span t (record { slot = n; generation = (slot_at S n).generation })

pub overlaps : (S : List Slot) (order grey free : List ℕ) (es : List Entry) (reg n : ℕ) (span : Span) → Holds S order grey free es reg → Some n ≡ slot_where (entry_meets span) es → Overlaps S order span n
overlaps S order grey free es reg n span h w =
    let f = find_among (entry_meets span) es n w h.rising in
    let k = h.known f.0 f.1 in
    let i : is_in n order ≡ true = subst (λ m. is_in m order ≡ true) f.3 k.0 in
    let is : f.0 ≡ entry_at S n = k.1 ∙ ap (entry_at S) f.3 in
    let met : meets span (live_at S n).tracked.block ≡ true = subst (λ (y : Entry). entry_meets span y ≡ true) is f.2 in
    let id : RecId = record { slot = n; generation = (slot_at S n).generation } in
    record {
      here = i;
      some = find_is S (λ (l : Live). meets span l.tracked.block) order n i met;
      lowest = λ t seen. record {
        block = live_at S n;
        is = subst (λ ls. find (is_id id) ls ≡ Some (live_at S n)) seen (with_id S order id i refl);
        meeting = met;
        lowest = λ other g m.
            let o = find_live S (is_id (id_of other)) order other (subst (λ ls. find (is_id (id_of other)) ls ≡ Some other) (sym seen) g) in
            let there : entry_meets span (entry_at S o.0) ≡ true = subst (λ (l : Live). meets span l.tracked.block ≡ true) o.2 m in
            let low = f.4 (entry_at S o.0) (h.kept o.0 o.1) there in
            omega (arith, low, ap (λ (y : Entry). y.span.start.0) is, ap (λ (l : Live). l.tracked.block.start) o.2);
      };
    }

pub none_meets : (S : List Slot) (order grey free : List ℕ) (es : List Entry) (reg : ℕ) (span : Span) → Holds S order grey free es reg → None ≡ slot_where (entry_meets span) es → find (λ (l : Live). meets span l.tracked.block) (map (live_at S) order) ≡ None
none_meets S order grey free es reg span h w = (where_none S order grey free es reg (entry_meets span) (λ (l : Live). meets span l.tracked.block) h (λ m. refl) w).0
