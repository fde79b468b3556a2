use Rattle.std.proofs.Common.{◌≡◌, ◌≢◌, ℕ, suc, ◌+◌, ◌-◌, ◌<◌, ◌≤◌, Bool, true, false, ◌&&◌, ◌||◌, not, ◌==◌, List, [], ◌∷◌, ◌++◌, map, filter, length, cond, Some, None, inl, inr, refl, sym, ap, ◌∙◌, subst, arith, length-append}
use Rattle.std.specs.Prelude.{find}
use Rattle.std.proofs.lemmas.Bool.{or_left, or_right, eqb-true, eqb-false, eq-eqb, ne_eqb, both_ways, not_from_false, not-true}
use Rattle.std.proofs.lemmas.List.Folds.{list_any-append}
use Rattle.km_links.specs.Chains.{is_in, without, first_of, IsDistinct}
use Rattle.km_links.proofs.Distinct.{without_none}
use Rattle.km_map.specs.declared.entries.Entry.{Entry}
use Rattle.km_map.specs.Entries.{starts_at, without_start, slot_where, IsRising}
use Rattle.km_track.specs.declared.slots.Slot.{Slot}
use Rattle.km_track.specs.Slots.{slot_at}
use Rattle.km_track.specs.Tracker.{Live, Tracker, begins, is_at, unregistered_at}
use Rattle.km_track.specs.Holds.{live_at, entry_at, IsAmong, IdsRise, Holds}
use Rattle.km_track.proofs.Writes.{ids_in, at_start}

-- a block leaves

pub in_without : (n m : ℕ) (ns : List ℕ) → is_in m (without n ns) ≡ true → (is_in m ns ≡ true) × (m ≢ n)
in_without n m [] h = absurd (let z : ⊥ = cc in z)
in_without n m (k ∷ ns) h =
    elim (k == n) as (λ b. (k == n) ≡ b → is_in m (cond (not b) (k ∷ without n ns) (without n ns)) ≡ true → (is_in m (k ∷ ns) ≡ true) × (m ≢ n)) [
      | true ↦ λ _ g. let r = in_without n m ns g in (or_right (k == m) _ r.0, r.1)
      | false ↦ λ e g. elim (k == m) as (λ b. (k == m) ≡ b → (b || is_in m (without n ns)) ≡ true → ((b || is_in m ns) ≡ true) × (m ≢ n)) [
        | true ↦ λ f _. (refl, λ u. eqb-false k n e (eqb-true k m f ∙ u))
        | false ↦ λ _ j. in_without n m ns j
      ] refl g
    ] refl h

without_in : (n m : ℕ) (ns : List ℕ) → is_in m ns ≡ true → m ≢ n → is_in m (without n ns) ≡ true
without_in n m [] h ne = absurd (let z : ⊥ = cc in z)
without_in n m (k ∷ ns) h ne =
    elim (k == n) as (λ b. (k == n) ≡ b → is_in m (cond (not b) (k ∷ without n ns) (without n ns)) ≡ true) [
      | true ↦ λ e. without_in n m ns (elim (k == m) as (λ b. (k == m) ≡ b → (b || is_in m ns) ≡ true → is_in m ns ≡ true) [ true ↦ λ f _. absurd (ne (sym (eqb-true k m f) ∙ eqb-true k n e)) | false ↦ λ _ j. j ] refl h) ne
      | false ↦ λ _. elim (k == m) as (λ b. (b || is_in m ns) ≡ true → (b || is_in m (without n ns)) ≡ true) [ true ↦ λ _. refl | false ↦ λ j. without_in n m ns j ne ] h
    ] refl

pub not_in_without : (n : ℕ) (ns : List ℕ) → is_in n (without n ns) ≡ false
not_in_without n ns = elim (is_in n (without n ns)) as (λ b. is_in n (without n ns) ≡ b → b ≡ false) [ true ↦ λ e. absurd ((in_without n n ns e).1 refl) | false ↦ λ _. refl ] refl

out_without : (n m : ℕ) (ns : List ℕ) → is_in m ns ≡ false → is_in m (without n ns) ≡ false
out_without n m ns o = elim (is_in m (without n ns)) as (λ b. is_in m (without n ns) ≡ b → b ≡ false) [ true ↦ λ e. absurd (both_ways (is_in m ns) o (in_without n m ns e).0) | false ↦ λ _. refl ] refl

distinct_without : (n : ℕ) (ns : List ℕ) → IsDistinct ns → IsDistinct (without n ns)
distinct_without n [] d = tt
distinct_without n (k ∷ ns) d = elim (k == n) as (λ b. IsDistinct (cond (not b) (k ∷ without n ns) (without n ns))) [ true ↦ distinct_without n ns d.1 | false ↦ (out_without n k ns d.0, distinct_without n ns d.1) ]

length_without : (n : ℕ) (ns : List ℕ) → IsDistinct ns → is_in n ns ≡ true → length (without n ns) + 1 ≡ length ns
length_without n [] d h = absurd (let z : ⊥ = cc in z)
length_without n (k ∷ ns) d h =
    elim (k == n) as (λ b. (k == n) ≡ b → (b || is_in n ns) ≡ true → length (cond (not b) (k ∷ without n ns) (without n ns)) + 1 ≡ suc (length ns)) [
      | true ↦ λ e _. rw (without_none n ns (subst (λ m. is_in m ns ≡ false) (eqb-true k n e) d.0)) (omega arith)
      | false ↦ λ _ j. omega (arith, length_without n ns d.1 j)
    ] refl h

rise_more : (S : List Slot) (low more : ℕ) (ns : List ℕ) (high : ℕ) → low ≤ more → IdsRise S more ns high → IdsRise S low ns high
rise_more S low more [] high l r = omega (arith, r)
rise_more S low more (m ∷ ns) high l r = (omega (arith, r.0), r.1)

rise_without : (S : List Slot) (n low : ℕ) (ns : List ℕ) (high : ℕ) → IdsRise S low ns high → IdsRise S low (without n ns) high
rise_without S n low [] high r = r
rise_without S n low (k ∷ ns) high r =
    let rest = rise_without S n ((slot_at S k).generation + 1) ns high r.1 in
    elim (k == n) as (λ b. IdsRise S low (cond (not b) (k ∷ without n ns) (without n ns)) high) [ true ↦ rise_more S low ((slot_at S k).generation + 1) (without n ns) high (omega (arith, r.0)) rest | false ↦ (r.0, rest) ]

rise_above : (S : List Slot) (low : ℕ) (ns : List ℕ) (high m : ℕ) → IdsRise S low ns high → is_in m ns ≡ true → low ≤ (slot_at S m).generation
rise_above S low [] high m r i = absurd (let z : ⊥ = cc in z)
rise_above S low (k ∷ ns) high m r i =
    elim (k == m) as (λ b. (k == m) ≡ b → (b || is_in m ns) ≡ true → low ≤ (slot_at S m).generation) [
      | true ↦ λ e _. subst (λ x. low ≤ (slot_at S x).generation) (eqb-true k m e) r.0
      | false ↦ λ _ j. omega (arith, r.0, rise_above S ((slot_at S k).generation + 1) ns high m r.1 j)
    ] refl i

-- blocks in order have different ids
pub one_id : (S : List Slot) (low : ℕ) (ns : List ℕ) (high m n : ℕ) → IdsRise S low ns high → is_in m ns ≡ true → is_in n ns ≡ true → (slot_at S m).generation ≡ (slot_at S n).generation → m ≡ n
one_id S low [] high m n r i j e = absurd (let z : ⊥ = cc in z)
one_id S low (k ∷ ns) high m n r i j e =
    elim (k == m) as (λ b. (k == m) ≡ b → (b || is_in m ns) ≡ true → m ≡ n) [
      | true ↦ λ f _. elim (k == n) as (λ b. (k == n) ≡ b → (b || is_in n ns) ≡ true → m ≡ n) [
        | true ↦ λ g _. sym (eqb-true k m f) ∙ eqb-true k n g
        | false ↦ λ _ v. let same = eqb-true k m f in absurd (omega (arith, rise_above S ((slot_at S k).generation + 1) ns high n r.1 v, ap (λ x. (slot_at S x).generation) same, e))
      ] refl j
      | false ↦ λ _ u. elim (k == n) as (λ b. (k == n) ≡ b → (b || is_in n ns) ≡ true → m ≡ n) [
        | true ↦ λ g _. let same = eqb-true k n g in absurd (omega (arith, rise_above S ((slot_at S k).generation + 1) ns high m r.1 u, ap (λ x. (slot_at S x).generation) same, e))
        | false ↦ λ _ v. one_id S ((slot_at S k).generation + 1) ns high m n r.1 u v e
      ] refl j
    ] refl i

among_filter : (p : Entry → Bool) (es : List Entry) (e : Entry) → IsAmong es e → p e ≡ true → IsAmong (filter p es) e
among_filter p [] e i h = absurd i
among_filter p (x ∷ es) e i h =
    elim i as (λ _. IsAmong (cond (p x) (x ∷ filter p es) (filter p es)) e) [
      | inl same ↦ rw (sym (ap p same) ∙ h) (inl same)
      | inr rest ↦ elim (p x) as (λ b. IsAmong (cond b (x ∷ filter p es) (filter p es)) e) [ true ↦ inr (among_filter p es e rest h) | false ↦ among_filter p es e rest h ]
    ]

filter_among : (p : Entry → Bool) (es : List Entry) (e : Entry) → IsAmong (filter p es) e → IsAmong es e × (p e ≡ true)
filter_among p [] e i = absurd i
filter_among p (x ∷ es) e i =
    elim (p x) as (λ b. p x ≡ b → IsAmong (cond b (x ∷ filter p es) (filter p es)) e → IsAmong (x ∷ es) e × (p e ≡ true)) [
      | true ↦ λ f j. elim j as (λ _. IsAmong (x ∷ es) e × (p e ≡ true)) [ inl same ↦ (inl same, ap p same ∙ f) | inr rest ↦ let r = filter_among p es e rest in (inr r.0, r.1) ]
      | false ↦ λ _ j. let r = filter_among p es e j in (inr r.0, r.1)
    ] refl i

-- what stands after a block has left
pub record Left (S : List Slot) (order grey free : List ℕ) (es : List Entry) (reg a n : ℕ) : Type 0 where
  pub here : is_in n order ≡ true
  pub holds : Holds S (without n order) (without n grey) (free ++ n ∷ []) (without_start a es) reg
  pub lives : map (live_at S) (without n order) ≡ filter (λ (l : Live). not (begins a l.tracked.block)) (map (live_at S) order)
  pub ids : ids_in S (without n grey) ≡ filter (λ k. not (is_at a k (map (live_at S) order))) (ids_in S grey)
  pub shorter : length (without n order) + 1 ≡ length order
  pub found : find (λ (l : Live). begins a l.tracked.block) (map (live_at S) order) ≡ Some (live_at S n)

lives_without : (S : List Slot) (t : Live → Bool) (n : ℕ) (ns : List ℕ) → ((m : ℕ) → is_in m ns ≡ true → t (live_at S m) ≡ (m == n)) → map (live_at S) (without n ns) ≡ filter (λ l. not (t l)) (map (live_at S) ns)
lives_without S t n [] h = refl
lives_without S t n (k ∷ ns) h =
    let rest = lives_without S t n ns (λ m j. h m (or_right (k == m) _ j)) in
    rw (h k (or_left _ _ (eq-eqb k k refl))) (elim (k == n) as (λ b. map (live_at S) (cond (not b) (k ∷ without n ns) (without n ns)) ≡ cond (not b) (live_at S k ∷ filter (λ l. not (t l)) (map (live_at S) ns)) (filter (λ l. not (t l)) (map (live_at S) ns))) [ true ↦ rest | false ↦ ap (λ l. live_at S k ∷ l) rest ])

ids_without : (S : List Slot) (p : ℕ → Bool) (n : ℕ) (ns : List ℕ) → ((m : ℕ) → is_in m ns ≡ true → p (slot_at S m).generation ≡ (m == n)) → ids_in S (without n ns) ≡ filter (λ k. not (p k)) (ids_in S ns)
ids_without S p n [] h = refl
ids_without S p n (k ∷ ns) h =
    let rest = ids_without S p n ns (λ m j. h m (or_right (k == m) _ j)) in
    rw (h k (or_left _ _ (eq-eqb k k refl))) (elim (k == n) as (λ b. ids_in S (cond (not b) (k ∷ without n ns) (without n ns)) ≡ cond (not b) ((slot_at S k).generation ∷ filter (λ x. not (p x)) (ids_in S ns)) (filter (λ x. not (p x)) (ids_in S ns))) [ true ↦ rest | false ↦ ap (λ l. (slot_at S k).generation ∷ l) rest ])

-- the block of an id begins at an address, where only one does
at_only : (S : List Slot) (a n x : ℕ) (ns : List ℕ) → ((m : ℕ) → is_in m ns ≡ true → begins a (live_at S m).tracked.block ≡ (m == n)) → is_at a x (map (live_at S) ns) ≡ (is_in n ns && (slot_at S n).generation == x)
at_only S a n x [] h = refl
at_only S a n x (k ∷ ns) h =
    let rest = at_only S a n x ns (λ m j. h m (or_right (k == m) _ j)) in
    rw (h k (or_left _ _ (eq-eqb k k refl)), rest) (elim (k == n) as (λ b. (k == n) ≡ b → ((b && (slot_at S k).generation == x) || (is_in n ns && (slot_at S n).generation == x)) ≡ ((b || is_in n ns) && (slot_at S n).generation == x)) [
      | true ↦ λ e. rw (eqb-true k n e) (same (is_in n ns) ((slot_at S n).generation == x))
      | false ↦ λ _. refl
    ] refl)
  where
    same : (p q : Bool) → (q || (p && q)) ≡ q
    same true true = refl
    same true false = refl
    same false true = refl
    same false false = refl

pub left : (S : List Slot) (order grey free : List ℕ) (es : List Entry) (reg a n : ℕ) → Holds S order grey free es reg → Some n ≡ slot_where (starts_at a) es → IsRising (without_start a es) → Left S order grey free es reg a n
left S order grey free es reg a n h w up =
    let p = at_start S order grey free es reg a n h w in
    let only : (m : ℕ) → is_in m order ≡ true → begins a (live_at S m).tracked.block ≡ (m == n) = λ m j.
    elim (m == n) as (λ b. (m == n) ≡ b → begins a (live_at S m).tracked.block ≡ b) [
      | true ↦ λ e. subst (λ k. begins a (live_at S k).tracked.block ≡ true) (sym (eqb-true m n e)) p.2
      | false ↦ λ e. elim (begins a (live_at S m).tracked.block) as (λ b. begins a (live_at S m).tracked.block ≡ b → b ≡ false) [ true ↦ λ f. absurd (eqb-false m n e (p.3 m j f)) | false ↦ λ _. refl ] refl
    ] refl in
    let shorter = length_without n order h.orders p.0 in
    record {
      here = p.0;
      holds = record {
        orders = distinct_without n order h.orders;
        greys = distinct_without n grey h.greys;
        within = λ m j. h.within m (in_without n m order j).0;
        freed = λ m j. elim (is_in m free) as (λ b. is_in m free ≡ b → (m < length S) × (is_in m (without n order) ≡ false)) [
          | true ↦ λ f. let r = h.freed m f in (r.0, out_without n m order r.1)
          | false ↦ λ f.
              let s = sym (list_any-append (λ k. k == m) free (n ∷ [])) ∙ j in
              let same : n ≡ m = one n m (rw f at s) in
              subst (λ k. (k < length S) × (is_in k (without n order) ≡ false)) same (h.within n p.0, not_in_without n order)
        ] refl;
        count = omega (arith, shorter, h.count, length-append free (n ∷ []));
        queued = λ m j. let g = in_without n m grey j in let q = h.queued m g.0 in (without_in n m order q.0 g.1, q.1);
        kept = λ m j. let g = in_without n m order j in among_filter (λ (e : Entry). not (starts_at a e)) es (entry_at S m) (h.kept m g.0) (not_from_false _ (only m g.0 ∙ ne_eqb m n g.1));
        known = λ e i.
            let r = filter_among (λ (e : Entry). not (starts_at a e)) es e i in
            let k = h.known e r.0 in
            (without_in n e.slot order k.0 (λ u. both_ways (starts_at a e) (not-true _ r.1) (subst (λ (y : Entry). starts_at a y ≡ true) (sym (k.1 ∙ ap (entry_at S) u)) p.2)), k.1);
        rising = up;
        ids = rise_without S n 0 order reg h.ids;
        sound = λ m j. h.sound m (in_without n m order j).0;
      };
      lives = lives_without S (λ (l : Live). begins a l.tracked.block) n order only;
      ids = ids_without S (λ k. is_at a k (map (live_at S) order)) n grey (λ m j. at_only S a n (slot_at S m).generation order only ∙ rw p.0 (same_id m (h.queued m j).0));
      shorter = shorter;
      found = p.1;
    }
  where
    one : (n m : ℕ) → is_in m (n ∷ []) ≡ true → n ≡ m
    one n m j = elim (n == m) as (λ b. (n == m) ≡ b → (b || false) ≡ true → n ≡ m) [ true ↦ λ f _. eqb-true n m f | false ↦ λ _ g. absurd (let z : ⊥ = cc in z) ] refl j

    same_id : (m : ℕ) → is_in m order ≡ true → ((slot_at S n).generation == (slot_at S m).generation) ≡ (m == n)
    same_id m j =
        elim (m == n) as (λ b. (m == n) ≡ b → ((slot_at S n).generation == (slot_at S m).generation) ≡ b) [
          | true ↦ λ e. eq-eqb _ _ (ap (λ k. (slot_at S k).generation) (sym (eqb-true m n e)))
          | false ↦ λ e. ne_eqb _ _ (λ f. eqb-false m n e (one_id S 0 order reg m n h.ids j (at_start S order grey free es reg a n h w).0 (sym f)))
        ] refl

pub not_free : (S : List Slot) (order grey free : List ℕ) (es : List Entry) (reg n : ℕ) → Holds S order grey free es reg → is_in n order ≡ true → is_in n free ≡ false
not_free S order grey free es reg n h i =
    elim (is_in n free) as (λ b. is_in n free ≡ b → b ≡ false) [ true ↦ λ f. absurd (both_ways (is_in n order) (h.freed n f).1 i) | false ↦ λ _. refl ] refl

pub viewed_left : (S : List Slot) (order grey free : List ℕ) (es : List Entry) (reg a n capacity : ℕ) → Left S order grey free es reg a n → length order < capacity + 1
    → ◌≡◌ {A = Tracker} (record { live = map (live_at S) (without n order); queue = ids_in S (without n grey); registered = reg; spare = capacity - length (without n order) })
    (unregistered_at a (record { live = map (live_at S) order; queue = ids_in S grey; registered = reg; spare = capacity - length order }))
viewed_left S order grey free es reg a n capacity w l =
    let more : capacity - length (without n order) ≡ capacity - length order + 1 = omega (arith, w.shorter) in
    λ i. record { live = w.lives i; queue = w.ids i; registered = reg; spare = more i }

-- where no block is live, none is queued
pub none_queued : (S : List Slot) (order grey free : List ℕ) (es : List Entry) (reg : ℕ) → Holds S order grey free es reg → None ≡ first_of order → grey ≡ []
none_queued S order [] free es reg h e = refl
none_queued S [] (n ∷ grey) free es reg h e =
    let p : is_in n [] ≡ true = (h.queued n (or_left _ _ (eq-eqb n n refl))).0 in
    absurd (let z : ⊥ = cc in z)
none_queued S (m ∷ order) (n ∷ grey) free es reg h e = absurd (let z : ⊥ = cc in z)
