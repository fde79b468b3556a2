use Rattle.std.proofs.Common.{◌≡◌, ℕ, ◌+◌, ◌≤◌, ◌<◌, Bool, true, false, ltb, List, [], ◌∷◌, ◌++◌, filter, cond, Some, None, refl, ap, arith}
use Rattle.std.specs.Prelude.{find}
use Rattle.std.proofs.lemmas.Bool.{ltb-true, ltb-false, lt-ltb, le-ltb}
use Rattle.km_base.specs.declared.spans.Span.{Span}
use Rattle.km_map.specs.declared.entries.Entry.{Entry}
use Rattle.km_map.specs.Entries.{end_of, meets, with_entry, StartFrom, IsRising}

pub start_later : (a b : ℕ) (es : List Entry) → a ≤ b → StartFrom b es → StartFrom a es
start_later a b [] h s = tt
start_later a b (e ∷ es) h s = (omega arith, start_later a b es h s.1)

-- nothing that starts from an address on passes
pub none_from : (q : Entry → Bool) (a : ℕ) (es : List Entry) → StartFrom a es → ((e : Entry) → a ≤ e.span.start.0 → q e ≡ false) → find q es ≡ None
none_from q a [] s h = refl
none_from q a (e ∷ es) s h = rw (h e s.0) (none_from q a es s.1 h)

pub start-filter : (p : Entry → Bool) (a : ℕ) (es : List Entry) → StartFrom a es → StartFrom a (filter p es)
start-filter p a [] s = tt
start-filter p a (e ∷ es) s =
    elim (p e) as (λ b. StartFrom a (cond b (e ∷ filter p es) (filter p es))) [ true ↦ (s.0, start-filter p a es s.1) | false ↦ start-filter p a es s.1 ]

pub rising-filter : (p : Entry → Bool) (es : List Entry) → IsRising es → IsRising (filter p es)
rising-filter p [] r = tt
rising-filter p (e ∷ es) r =
    elim (p e) as (λ b. IsRising (cond b (e ∷ filter p es) (filter p es))) [
      | true ↦ (r.0, start-filter p (end_of e) es r.1, rising-filter p es r.2)
      | false ↦ rising-filter p es r.2
    ]

-- a search that finds nothing passes over the first, and finds nothing in the rest
pub none_parts : (q : Entry → Bool) (e : Entry) (es : List Entry) → find q (e ∷ es) ≡ None → (q e ≡ false) × (find q es ≡ None)
none_parts q e es h =
    elim (q e) as (λ b. cond b (Some e) (find q es) ≡ None → (b ≡ false) × (find q es ≡ None)) [ true ↦ λ f. absurd (let z : ⊥ = cc in z) | false ↦ λ f. (refl, f) ] h

-- spans that don't meet: one ends before the other starts
pub apart_cases : (s : Span) (e : Entry) → meets s e ≡ false → (s.start.0 + s.size ≤ e.span.start.0 → ⊥) → end_of e ≤ s.start.0
apart_cases s e h n =
    elim (ltb e.span.start.0 (s.start.0 + s.size)) as (λ b. ltb e.span.start.0 (s.start.0 + s.size) ≡ b → end_of e ≤ s.start.0) [
      | false ↦ λ f. absurd (n (ltb-false _ _ f))
      | true ↦ λ f. ltb-false _ _ (let k : ltb s.start.0 (end_of e) ≡ false = rw f at h in k)
    ] refl

pub start-with : (a : ℕ) (e : Entry) (es : List Entry) → a ≤ e.span.start.0 → StartFrom a es → StartFrom a (with_entry e es)
start-with a e [] h s = (h, tt)
start-with a e (x ∷ xs) h s =
    elim (ltb x.span.start.0 e.span.start.0) as (λ b. StartFrom a (cond b (x ∷ with_entry e xs) (e ∷ x ∷ xs))) [ true ↦ (s.0, start-with a e xs h s.1) | false ↦ (h, s) ]

-- a span that meets none may come in
pub rising-with : (e : Entry) (es : List Entry) → 0 < e.span.size → find (meets e.span) es ≡ None → IsRising es → IsRising (with_entry e es)
rising-with e [] z n r = (z, tt, tt)
rising-with e (x ∷ xs) z n r =
    let p = none_parts (meets e.span) x xs n in
    elim (ltb x.span.start.0 e.span.start.0) as (λ b. ltb x.span.start.0 e.span.start.0 ≡ b → IsRising (cond b (x ∷ with_entry e xs) (e ∷ x ∷ xs))) [
      | true ↦ λ f. let l = ltb-true _ _ f in (r.0, start-with (end_of x) e xs (apart_cases e.span x p.0 (λ h. omega (arith, h, l))) r.1, rising-with e xs z p.1 r.2)
      | false ↦ λ f. let l = ltb-false _ _ f in let k = behind_first e x p.0 l r.0 in (z, (k, start_later (end_of e) (end_of x) xs (omega (arith, k, r.0)) r.1), r)
    ] refl
  where
    behind_first : (e x : Entry) → meets e.span x ≡ false → e.span.start.0 ≤ x.span.start.0 → 0 < x.span.size → end_of e ≤ x.span.start.0
    behind_first e x h l z =
        elim (ltb x.span.start.0 (end_of e)) as (λ b. ltb x.span.start.0 (end_of e) ≡ b → end_of e ≤ x.span.start.0) [
          | false ↦ λ f. ltb-false _ _ f
          | true ↦ λ f. let k : ltb e.span.start.0 (end_of x) ≡ false = rw f at h in absurd (omega (arith, ltb-false _ _ k))
        ] refl

-- each span starts before an address
abbrev pub StartBelow : ℕ → List Entry → Type 0
StartBelow a [] = Unit {0}
StartBelow a (e ∷ es) = (e.span.start.0 < a) × StartBelow a es

-- an entry comes in behind those that start before it
pub with-split : (e : Entry) (front back : List Entry) → StartBelow e.span.start.0 front → StartFrom e.span.start.0 back → with_entry e (front ++ back) ≡ front ++ e ∷ back
with-split e [] [] f b = refl
with-split e [] (x ∷ back) f b = rw (le-ltb _ _ b.0) refl
with-split e (x ∷ front) back f b = rw (lt-ltb _ _ f.0) (ap (λ es. x ∷ es) (with-split e front back f.1 b))
