use Rattle.std.proofs.Common.{◌≡◌, ℕ, ◌+◌, ◌≤◌, ◌<◌, Bool, true, false, ◌&&◌, ltb, List, [], ◌∷◌, ◌++◌, Option, Some, None, option_map, cond, refl, ◌∙◌, arith}
use Rattle.std.specs.Prelude.{find}
use Rattle.std.proofs.lemmas.Bool.{lt-ltb, le-ltb, ltb-false, and_left, and_right}
use Rattle.km_map.specs.declared.entries.Entry.{Entry}
use Rattle.km_map.specs.Entries.{end_of, ends_behind, meets, slot_where, StartFrom, IsRising}
use Rattle.km_map.proofs.Rising.{none_from}
use Rattle.km_map.proofs.Queries.{span_some}
use Rattle.km_tree.specs.Trees.{or_else, met_by}
use Rattle.km_base.specs.declared.spans.Span.{Span}

pub or_else_none : {X : Type 0} (o : Option X) → or_else o None ≡ o
or_else_none None = refl
or_else_none (Some e) = refl

pub find-append : (q : Entry → Bool) (l r : List Entry) → find q (l ++ r) ≡ or_else (find q l) (find q r)
find-append q [] r = refl
find-append q (e ∷ l) r = elim (q e) as (λ b. cond b (Some e) (find q (l ++ r)) ≡ or_else (cond b (Some e) (find q l)) (find q r)) [ true ↦ refl | false ↦ find-append q l r ]

pub start-right : (a : ℕ) (l r : List Entry) → StartFrom a (l ++ r) → StartFrom a r
start-right a [] r h = h
start-right a (e ∷ l) r h = start-right a l r h.1

pub rising-right : (l r : List Entry) → IsRising (l ++ r) → IsRising r
rising-right [] r h = h
rising-right (e ∷ l) r h = rising-right l r h.2

pub start-left : (a : ℕ) (l r : List Entry) → StartFrom a (l ++ r) → StartFrom a l
start-left a [] r h = tt
start-left a (e ∷ l) r h = (h.0, start-left a l r h.1)

pub rising-left : (l r : List Entry) → IsRising (l ++ r) → IsRising l
rising-left [] r h = tt
rising-left (e ∷ l) r h = (h.0, start-left (end_of e) l r h.1, rising-left l r h.2)

-- where a node ends at an address, so does all before it
pub ended_left : (a : ℕ) (l : List Entry) (e : Entry) (r : List Entry) → IsRising (l ++ e ∷ r) → end_of e ≤ a → find (ends_behind a) (l ++ e ∷ r) ≡ find (ends_behind a) r
ended_left a [] e r h le = rw (le-ltb a (end_of e) le) refl
ended_left a (x ∷ l) e r h le =
    let s = start-right (end_of x) l (e ∷ r) h.1 in
    rw (le-ltb a (end_of x) (omega (arith, s.0, le, (rising-right l (e ∷ r) h.2).0))) (ended_left a l e r h.2 le)

-- where a node ends behind an address, the search goes on before it
pub behind_left : (a : ℕ) (l : List Entry) (e : Entry) (r : List Entry) → a < end_of e → find (ends_behind a) (l ++ e ∷ r) ≡ or_else (find (ends_behind a) l) (Some e)
behind_left a l e r lt = find-append (ends_behind a) l (e ∷ r) ∙ (rw (lt-ltb a (end_of e) lt) refl)

-- a node that has an address is what the search is for
pub first_here : (a : ℕ) (l : List Entry) (e : Entry) (r : List Entry) → IsRising (l ++ e ∷ r) → e.span.start.0 ≤ a → a < end_of e → find (ends_behind a) (l ++ e ∷ r) ≡ Some e
first_here a [] e r h le lt = rw (lt-ltb a (end_of e) lt) refl
first_here a (x ∷ l) e r h le lt = let s = start-right (end_of x) l (e ∷ r) h.1 in rw (le-ltb a (end_of x) (omega (arith, s.0, le))) (first_here a l e r h.2 le lt)

-- the lowest that meets a span, by a node

-- the span starts before the node: the node is met, or nothing from it on
pub met_left : (s : Span) (l : List Entry) (e : Entry) (r : List Entry) (other : Option ℕ) → IsRising (l ++ e ∷ r) → s.start.0 < e.span.start.0
    → or_else (slot_where (meets s) l) (met_by s other e) ≡ or_else (slot_where (meets s) (l ++ e ∷ r)) other
met_left s [] e r other h lt =
    elim (meets s e) as (λ b. meets s e ≡ b → cond b (Some e.slot) other ≡ or_else (option_map (λ (x : Entry). x.slot) (cond b (Some e) (find (meets s) r))) other) [
      | true ↦ λ _. refl
      | false ↦ λ f. rw (none_from (meets s) (end_of e) r h.1 (λ x k. and_left _ _ (le-ltb x.span.start.0 (s.start.0 + s.size) (omega (arith, k, apart f))))) refl
    ] refl
  where
    apart : meets s e ≡ false → s.start.0 + s.size ≤ end_of e
    apart f =
        elim (ltb e.span.start.0 (s.start.0 + s.size)) as (λ b. ltb e.span.start.0 (s.start.0 + s.size) ≡ b → (b && ltb s.start.0 (end_of e)) ≡ false → s.start.0 + s.size ≤ end_of e) [
          | true ↦ λ _ g. absurd (omega (arith, lt, ltb-false _ _ g))
          | false ↦ λ g _. omega (arith, ltb-false _ _ g)
        ] refl f
met_left s (x ∷ l) e r other h lt =
    elim (meets s x) as (λ b. or_else (option_map (λ (y : Entry). y.slot) (cond b (Some x) (find (meets s) l))) (met_by s other e) ≡ or_else (option_map (λ (y : Entry). y.slot) (cond b (Some x) (find (meets s) (l ++ e ∷ r)))) other) [
      | true ↦ refl
      | false ↦ met_left s l e r other h.2 lt
    ]

-- the node has its start: it is the lowest
pub met_here : (s : Span) (l : List Entry) (e : Entry) (r : List Entry) → IsRising (l ++ e ∷ r) → 0 < s.size → e.span.start.0 ≤ s.start.0 → s.start.0 < end_of e → slot_where (meets s) (l ++ e ∷ r) ≡ Some e.slot
met_here s l e r h z le lt = span_some s (l ++ e ∷ r) e h (first_here s.start.0 l e r h le lt) (omega (arith, le, z))

-- the node ends at its start or before: nothing up to it is met
pub met_right : (s : Span) (l : List Entry) (e : Entry) (r : List Entry) → IsRising (l ++ e ∷ r) → end_of e ≤ s.start.0 → slot_where (meets s) r ≡ slot_where (meets s) (l ++ e ∷ r)
met_right s [] e r h le = rw (and_right (ltb e.span.start.0 (s.start.0 + s.size)) _ (le-ltb s.start.0 (end_of e) le)) refl
met_right s (x ∷ l) e r h le =
    let k = start-right (end_of x) l (e ∷ r) h.1 in
    rw (and_right (ltb x.span.start.0 (s.start.0 + s.size)) _ (le-ltb s.start.0 (end_of x) (omega (arith, k.0, le)))) (met_right s l e r h.2 le)
