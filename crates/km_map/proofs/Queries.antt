use Rattle.std.proofs.Common.{◌≡◌, ℕ, ◌+◌, ◌≤◌, ◌<◌, List, Some, None, arith}
use Rattle.std.specs.Prelude.{find}
use Rattle.std.proofs.lemmas.Bool.{le-leb, lt-leb, lt-ltb, le-ltb, eq-eqb, ne_eqb, and_from, and_left, and_right}
use Rattle.km_base.specs.declared.spans.Span.{Span}
use Rattle.km_map.specs.declared.entries.Entry.{Entry}
use Rattle.km_map.specs.Entries.{has_byte, starts_at, meets, slot_where, ends_behind, IsRising}
use Rattle.km_map.proofs.Places.{Skips, search_some, search_not, search_none, ends_late}

-- the three queries, by the first entry that ends behind an address

skips_byte : (a : ℕ) → Skips (has_byte a) a
skips_byte a e z h = and_right _ _ (le-ltb _ _ h)

pub byte_some : (a : ℕ) (es : List Entry) (y : Entry) → IsRising es → find (ends_behind a) es ≡ Some y → y.span.start.0 ≤ a → slot_where (has_byte a) es ≡ Some y.slot
byte_some a es y r h l = search_some (has_byte a) a es y (skips_byte a) r h (and_from _ _ (le-leb _ _ l) (lt-ltb _ _ (ends_late a es y h)))

pub byte_not : (a : ℕ) (es : List Entry) (y : Entry) → IsRising es → find (ends_behind a) es ≡ Some y → a < y.span.start.0 → slot_where (has_byte a) es ≡ None
byte_not a es y r h l = search_not (has_byte a) a es y (skips_byte a) r h (and_left _ _ (lt-leb _ _ l)) (λ e k. and_left _ _ (lt-leb e.span.start.0 a (omega arith)))

pub byte_none : (a : ℕ) (es : List Entry) → IsRising es → find (ends_behind a) es ≡ None → slot_where (has_byte a) es ≡ None
byte_none a es r h = search_none (has_byte a) a es (skips_byte a) r h

skips_start : (a : ℕ) → Skips (starts_at a) a
skips_start a e z h = ne_eqb e.span.start.0 a (λ w. omega arith)

pub start_some : (a : ℕ) (es : List Entry) (y : Entry) → IsRising es → find (ends_behind a) es ≡ Some y → y.span.start.0 ≡ a → slot_where (starts_at a) es ≡ Some y.slot
start_some a es y r h l = search_some (starts_at a) a es y (skips_start a) r h (eq-eqb y.span.start.0 a l)

pub start_not : (a : ℕ) (es : List Entry) (y : Entry) → IsRising es → find (ends_behind a) es ≡ Some y → ¬ (y.span.start.0 ≡ a) → slot_where (starts_at a) es ≡ None
start_not a es y r h l =
    let late = ends_late a es y h in search_not (starts_at a) a es y (skips_start a) r h (ne_eqb y.span.start.0 a l) (λ e k. ne_eqb e.span.start.0 a (λ w. omega (arith, late)))

pub start_none : (a : ℕ) (es : List Entry) → IsRising es → find (ends_behind a) es ≡ None → slot_where (starts_at a) es ≡ None
start_none a es r h = search_none (starts_at a) a es (skips_start a) r h

skips_span : (s : Span) → Skips (meets s) s.start.0
skips_span s e z h = and_right _ _ (le-ltb _ _ h)

pub span_some : (s : Span) (es : List Entry) (y : Entry) → IsRising es → find (ends_behind s.start.0) es ≡ Some y → y.span.start.0 < s.start.0 + s.size → slot_where (meets s) es ≡ Some y.slot
span_some s es y r h l = search_some (meets s) s.start.0 es y (skips_span s) r h (and_from _ _ (lt-ltb _ _ l) (lt-ltb _ _ (ends_late s.start.0 es y h)))

pub span_not : (s : Span) (es : List Entry) (y : Entry) → IsRising es → find (ends_behind s.start.0) es ≡ Some y → s.start.0 + s.size ≤ y.span.start.0 → slot_where (meets s) es ≡ None
span_not s es y r h l =
    search_not (meets s) s.start.0 es y (skips_span s) r h (and_left _ _ (le-ltb _ _ l)) (λ e k. and_left _ _ (le-ltb e.span.start.0 (s.start.0 + s.size) (omega arith)))

pub span_none : (s : Span) (es : List Entry) → IsRising es → find (ends_behind s.start.0) es ≡ None → slot_where (meets s) es ≡ None
span_none s es r h = search_none (meets s) s.start.0 es (skips_span s) r h
