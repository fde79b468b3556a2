use Rattle.std.proofs.Common.{◌≡◌, ℕ, ◌≤◌, ◌<◌, true, false, not, ltb, List, [], ◌∷◌, ◌++◌, cond, refl, ap, arith}
use Rattle.std.proofs.lemmas.Bool.{lt-ltb, le-ltb, ne_eqb}
use Rattle.km_map.specs.declared.entries.Entry.{Entry}
use Rattle.km_map.specs.Entries.{end_of, starts_at, with_entry, without_start, StartFrom, IsRising}
use Rattle.km_tree.proofs.Finds.{start-right}

-- an entry that starts before one of the list comes in before it
pub with-left : (e : Entry) (l : List Entry) (x : Entry) (r : List Entry) → e.span.start.0 < x.span.start.0 → with_entry e (l ++ x ∷ r) ≡ with_entry e l ++ x ∷ r
with-left e [] x r h = rw (le-ltb x.span.start.0 e.span.start.0 (omega (arith, h))) refl
with-left e (y ∷ l) x r h =
    elim (ltb y.span.start.0 e.span.start.0) as (λ b. cond b (y ∷ with_entry e (l ++ x ∷ r)) (e ∷ y ∷ (l ++ x ∷ r)) ≡ cond b (y ∷ with_entry e l) (e ∷ y ∷ l) ++ x ∷ r) [
      | true ↦ ap (λ es. y ∷ es) (with-left e l x r h)
      | false ↦ refl
    ]

-- an entry that starts behind one of a rising list comes in behind it
pub with-right : (e : Entry) (l : List Entry) (x : Entry) (r : List Entry) → IsRising (l ++ x ∷ r) → x.span.start.0 < e.span.start.0 → with_entry e (l ++ x ∷ r) ≡ l ++ x ∷ with_entry e r
with-right e [] x r s h = rw (lt-ltb x.span.start.0 e.span.start.0 h) refl
with-right e (y ∷ l) x r s h =
    let k = start-right (end_of y) l (x ∷ r) s.1 in
    rw (lt-ltb y.span.start.0 e.span.start.0 (omega (arith, k.0, h, s.0))) (ap (λ es. y ∷ es) (with-right e l x r s.2 h))

pub without-append : (a : ℕ) (l r : List Entry) → without_start a (l ++ r) ≡ without_start a l ++ without_start a r
without-append a [] r = refl
without-append a (e ∷ l) r =
    elim (starts_at a e) as (λ b. cond (not b) (e ∷ without_start a (l ++ r)) (without_start a (l ++ r)) ≡ cond (not b) (e ∷ without_start a l) (without_start a l) ++ without_start a r) [
      | true ↦ without-append a l r
      | false ↦ ap (λ es. e ∷ es) (without-append a l r)
    ]

-- nothing goes where all start behind the address
pub without-later : (a b : ℕ) (es : List Entry) → a < b → StartFrom b es → without_start a es ≡ es
without-later a b [] h s = refl
without-later a b (e ∷ es) h s = rw (ne_eqb e.span.start.0 a (λ w. omega (arith, w, h, s.0))) (ap (λ es. e ∷ es) (without-later a b es h s.1))

-- nothing goes from the front where a later one starts at the address or before it
pub without-earlier : (a : ℕ) (l : List Entry) (x : Entry) (r : List Entry) → IsRising (l ++ x ∷ r) → x.span.start.0 ≤ a → without_start a l ≡ l
without-earlier a [] x r s h = refl
without-earlier a (e ∷ l) x r s h =
    let k = start-right (end_of e) l (x ∷ r) s.1 in
    rw (ne_eqb e.span.start.0 a (λ w. omega (arith, w, h, k.0, s.0))) (ap (λ es. e ∷ es) (without-earlier a l x r s.2 h))
