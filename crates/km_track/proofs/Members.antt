use Rattle.std.proofs.Common.{◌≡◌, ℕ, ◌<◌, ◌≤◌, Bool, true, false, ltb, leb, List, [], ◌∷◌, cond, Some, None, option_map, inl, inr, refl, sym, ap, ◌∙◌, subst, arith}
use Rattle.std.specs.Prelude.{find}
use Rattle.std.proofs.lemmas.Bool.{and_parts, and_from, leb-true, ltb-true, le-leb, lt-ltb, eqb-true}
use Rattle.km_map.specs.declared.entries.Entry.{Entry}
use Rattle.km_map.specs.Entries.{end_of, has_byte, starts_at, slot_where, StartFrom, IsRising}
use Rattle.km_track.specs.Holds.{IsAmong}

-- what a map's answers say of its entries

pub there : (q : Entry → Bool) (es : List Entry) (n : ℕ) → Some n ≡ slot_where q es → (e : Entry) × IsAmong es e × (q e ≡ true) × (e.slot ≡ n)
there q [] n h = absurd (let z : ⊥ = cc in z)
there q (x ∷ es) n h =
    elim (q x) as (λ b. q x ≡ b → Some n ≡ option_map (λ (e : Entry). e.slot) (cond b (Some x) (find q es)) → (e : Entry) × IsAmong (x ∷ es) e × (q e ≡ true) × (e.slot ≡ n)) [
      | true ↦ λ t g. (x, inl refl, t, (let same : x.slot ≡ n = cc in same))
      | false ↦ λ _ g. let r = there q es n g in (r.0, inr r.1, r.2, r.3)
    ] refl h

pub nowhere : (q : Entry → Bool) (es : List Entry) → None ≡ slot_where q es → (e : Entry) → IsAmong es e → q e ≡ false
nowhere q [] h e a = absurd a
nowhere q (x ∷ es) h e a =
    elim (q x) as (λ b. q x ≡ b → None ≡ option_map (λ (e : Entry). e.slot) (cond b (Some x) (find q es)) → q e ≡ false) [
      | true ↦ λ _ g. absurd (let z : ⊥ = cc in z)
      | false ↦ λ f g. elim a as (λ _. q e ≡ false) [ inl same ↦ ap q same ∙ f | inr rest ↦ nowhere q es g e rest ]
    ] refl h

pub start_among : (a : ℕ) (es : List Entry) (e : Entry) → StartFrom a es → IsAmong es e → a ≤ e.span.start.0
start_among a [] e s i = absurd i
start_among a (x ∷ es) e s i = elim i as (λ _. a ≤ e.span.start.0) [ inl same ↦ subst (λ (y : Entry). a ≤ y.span.start.0) (sym same) s.0 | inr rest ↦ start_among a es e s.1 rest ]

pub sized : (es : List Entry) (e : Entry) → IsRising es → IsAmong es e → 0 < e.span.size
sized [] e r i = absurd i
sized (x ∷ es) e r i = elim i as (λ _. 0 < e.span.size) [ inl same ↦ subst (λ (y : Entry). 0 < y.span.size) (sym same) r.0 | inr rest ↦ sized es e r.2 rest ]

-- at most one entry has a byte
pub one_byte : (a : ℕ) (es : List Entry) (e f : Entry) → IsRising es → IsAmong es e → IsAmong es f → has_byte a e ≡ true → has_byte a f ≡ true → e ≡ f
one_byte a [] e f r i j s t = absurd i
one_byte a (x ∷ es) e f r i j s t =
    elim i as (λ _. e ≡ f) [
      | inl u ↦ elim j as (λ _. e ≡ f) [ inl v ↦ u ∙ sym v | inr v ↦ absurd (apart x es f a r.1 v (subst (λ (y : Entry). has_byte a y ≡ true) u s) t) ]
      | inr u ↦ elim j as (λ _. e ≡ f) [ inl v ↦ absurd (apart x es e a r.1 u (subst (λ (y : Entry). has_byte a y ≡ true) v t) s) | inr v ↦ one_byte a es e f r.2 u v s t ]
    ]
  where
    apart : (x : Entry) (es : List Entry) (y : Entry) (a : ℕ) → StartFrom (end_of x) es → IsAmong es y → has_byte a x ≡ true → has_byte a y ≡ true → ⊥
    apart x es y a h i s t =
        let p = and_parts (leb x.span.start.0 a) (ltb a (end_of x)) s in
        let q = and_parts (leb y.span.start.0 a) (ltb a (end_of y)) t in
        omega (arith, start_among (end_of x) es y h i, ltb-true a (end_of x) p.1, leb-true y.span.start.0 a q.0)

-- at most one starts at an address
pub one_start : (a : ℕ) (es : List Entry) (e f : Entry) → IsRising es → IsAmong es e → IsAmong es f → starts_at a e ≡ true → starts_at a f ≡ true → e ≡ f
one_start a es e f r i j s t = one_byte a es e f r i j (first e i s) (first f j t)
  where
    first : (e : Entry) → IsAmong es e → starts_at a e ≡ true → has_byte a e ≡ true
    first e i s =
        let same = eqb-true e.span.start.0 a s in
        let z = sized es e r i in
        and_from (leb e.span.start.0 a) (ltb a (end_of e)) (le-leb e.span.start.0 a (omega arith)) (lt-ltb a (end_of e) (omega arith))
