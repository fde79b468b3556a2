use Rattle.std.proofs.Common.{◌≡◌, ℕ, ◌+◌, ◌≤◌, ◌<◌, ◌⊎◌, inl, inr, Bool, true, false, ltb, List, [], ◌∷◌, filter, cond, None, refl, sym, ◌∙◌, subst, arith}
use Rattle.std.proofs.lemmas.Bool.{le-ltb, lt-leb, and_left, and_right}
use Rattle.km_map.specs.declared.entries.Entry.{Entry}
use Rattle.km_map.specs.Entries.{end_of, has_byte, slot_where, with_entry, without_start}
use Rattle.km_tree.specs.Maps.{AreWithin}

-- bounds of all spans that ever came

wider : (low high lower higher : ℕ) (es : List Entry) → lower ≤ low → high ≤ higher → AreWithin low high es → AreWithin lower higher es
wider low high lower higher [] l h w = tt
wider low high lower higher (e ∷ es) l h w = (omega (arith, l, w.0), omega (arith, h, w.1), wider low high lower higher es l h w.2)

with-within : (low high : ℕ) (e : Entry) (es : List Entry) → low ≤ e.span.start.0 → end_of e ≤ high → AreWithin low high es → AreWithin low high (with_entry e es)
with-within low high e [] l h w = (l, h, tt)
with-within low high e (x ∷ xs) l h w =
    elim (ltb x.span.start.0 e.span.start.0) as (λ b. AreWithin low high (cond b (x ∷ with_entry e xs) (e ∷ x ∷ xs))) [ true ↦ (w.0, w.1, with-within low high e xs l h w.2) | false ↦ (l, h, w) ]

filter-within : (low high : ℕ) (p : Entry → Bool) (es : List Entry) → AreWithin low high es → AreWithin low high (filter p es)
filter-within low high p [] w = tt
filter-within low high p (e ∷ es) w =
    elim (p e) as (λ b. AreWithin low high (cond b (e ∷ filter p es) (filter p es))) [ true ↦ (w.0, w.1, filter-within low high p es w.2) | false ↦ filter-within low high p es w.2 ]

-- entries that stay keep the bounds
pub same_within : (low high : ℕ) {old es new : List Entry} → old ≡ es → new ≡ es → AreWithin low high old → AreWithin low high new
same_within low high o n w = subst (AreWithin low high) (o ∙ sym n) w

-- a span that comes in widens them
pub came_within : {low high lower higher : ℕ} {old es new : List Entry} (e : Entry) → old ≡ es → new ≡ with_entry e es → AreWithin low high old → lower ≤ low → lower ≤ e.span.start.0 → high ≤ higher → end_of e ≤ higher → AreWithin lower higher new
came_within {low} {high} {lower} {higher} {es = es} e o n w l s h t =
    subst (AreWithin lower higher) (sym n) (with-within lower higher e es s t (wider low high lower higher es l h (subst (AreWithin low high) o w)))

-- a span that goes leaves them
pub went_within : (low high a : ℕ) {old es new : List Entry} → old ≡ es → new ≡ without_start a es → AreWithin low high old → AreWithin low high new
went_within low high a {es = es} o n w = subst (AreWithin low high) (sym n) (filter-within low high _ es (subst (AreWithin low high) o w))

-- no span has an address outside of them
outside : (low high a : ℕ) (es : List Entry) → AreWithin low high es → (a < low) ⊎ (high ≤ a) → slot_where (has_byte a) es ≡ None
outside low high a [] w o = refl
outside low high a (e ∷ es) w o = rw (misses o) (outside low high a es w.2 o)
  where
    misses : (a < low) ⊎ (high ≤ a) → has_byte a e ≡ false
    misses (inl l) = and_left _ _ (lt-leb e.span.start.0 a (omega (arith, l, w.0)))
    misses (inr h) = and_right _ _ (le-ltb a (end_of e) (omega (arith, h, w.1)))

pub found_none : {low high a : ℕ} {old es : List Entry} → old ≡ es → AreWithin low high old → (a < low) ⊎ (high ≤ a) → None ≡ slot_where (has_byte a) es
found_none {low} {high} {a} {es = es} o w away = sym (outside low high a es (subst (AreWithin low high) o w) away)
