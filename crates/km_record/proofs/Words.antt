use Rattle.std.proofs.Common.{◌≡◌, ℕ, zero, suc, ◌+◌, ◌*◌, ◌/◌, ◌<◌, ◌≤◌, Bool, true, false, ◌||◌, leb, ltb, cond, List, [], ◌∷◌, filter, get_or, take, Option, Some, None, option_map, refl, ap, ◌∙◌, subst, arith}
use Rattle.std.specs.Prelude.{find}
use Rattle.std.proofs.lemmas.Bool.{ltb-true, ltb-false, le-leb, lt-ltb, leb-true, leb-false, and_from, or_from, or_left, or_right}
use Rattle.km_base.specs.declared.spans.Span.{Span}
use Rattle.km_model.specs.Memory.{words_from}
use Rattle.km_model.specs.Blocks.{Area, Block, is_within, is_scanned, in_areas, contains}
use Rattle.km_record.specs.Least.{IsLeast, lesser}
use Rattle.km_record.specs.Records.{areas_in, scanned_from, is_unscanned}

-- the least number from one on and from another on
abbrev IsLeastFrom : (ℕ → Bool) → ℕ → ℕ → ℕ → Option ℕ → Type 0
IsLeastFrom test from low bound None = (i : ℕ) → from ≤ i → low ≤ i → i < bound → test i ≡ false
IsLeastFrom test from low bound (Some n) = (from ≤ n) × (low ≤ n) × (n < bound) × (test n ≡ true) × ((i : ℕ) → from ≤ i → low ≤ i → i < n → test i ≡ false)

-- the first word that passes, by the least index that does
find-least : (q : ℕ → Bool) (start from low n : ℕ) (r : Option ℕ) → IsLeastFrom (λ i. q (start + 8 * i)) from low (low + n) r
    → option_map (λ i. start + 8 * i) r ≡ find (leb (start + 8 * from)) (filter q (words_from n (start + 8 * low)))
find-least q start from low zero None h = refl
find-least q start from low zero (Some i) h = absurd (omega (arith, h.1, h.2))
find-least q start from low (suc n) r h =
    let next : start + 8 * low + 8 ≡ start + 8 * (low + 1) = omega arith in
    rw next (elim (q (start + 8 * low)) as (λ b. q (start + 8 * low) ≡ b → option_map (λ i. start + 8 * i) r ≡ find (leb (start + 8 * from)) (cond b ((start + 8 * low) ∷ filter q (words_from n (start + 8 * (low + 1)))) (filter q (words_from n (start + 8 * (low + 1)))))) [
      | false ↦ λ f. find-least q start from (low + 1) n r (later r f h)
      | true ↦ λ t. elim (leb (start + 8 * from) (start + 8 * low)) as (λ b. leb (start + 8 * from) (start + 8 * low) ≡ b → option_map (λ i. start + 8 * i) r ≡ cond b (Some (start + 8 * low)) (find (leb (start + 8 * from)) (filter q (words_from n (start + 8 * (low + 1)))))) [
        | true ↦ λ l. ap (λ o. option_map (λ i. start + 8 * i) o) (here r t (omega (arith, leb-true _ _ l)) h)
        | false ↦ λ l. find-least q start from (low + 1) n r (before r (omega (arith, leb-false _ _ l)) h)
      ] refl
    ] refl)
  where
    later : (r : Option ℕ) → q (start + 8 * low) ≡ false → IsLeastFrom (λ i. q (start + 8 * i)) from low (low + suc n) r → IsLeastFrom (λ i. q (start + 8 * i)) from (low + 1) (low + 1 + n) r
    later None f h = λ i a b c. h i a (omega arith) (omega arith)
    later (Some m) f h =
        elim (leb (low + 1) m) as (λ b. leb (low + 1) m ≡ b → IsLeastFrom (λ i. q (start + 8 * i)) from (low + 1) (low + 1 + n) (Some m)) [
          | true ↦ λ l. (h.0, leb-true _ _ l, omega (arith, h.2), h.3, λ i a b c. h.4 i a (omega arith) c)
          | false ↦ λ l. let same : m ≡ low = omega (arith, leb-false _ _ l, h.1) in let w : q (start + 8 * low) ≡ true = subst (λ k. q (start + 8 * k) ≡ true) same h.3 in absurd (let z : ⊥ = cc in z)
        ] refl

    before : (r : Option ℕ) → low < from → IsLeastFrom (λ i. q (start + 8 * i)) from low (low + suc n) r → IsLeastFrom (λ i. q (start + 8 * i)) from (low + 1) (low + 1 + n) r
    before None l h = λ i a b c. h i a (omega arith) (omega arith)
    before (Some m) l h = (h.0, omega (arith, h.0), omega (arith, h.2), h.3, λ i a b c. h.4 i a (omega arith) c)

    here : (r : Option ℕ) → q (start + 8 * low) ≡ true → from ≤ low → IsLeastFrom (λ i. q (start + 8 * i)) from low (low + suc n) r → r ≡ Some low
    here None t l h = let w = h low l (omega arith) (omega arith) in absurd (let z : ⊥ = cc in z)
    here (Some m) t l h =
        elim (leb m low) as (λ b. leb m low ≡ b → Some m ≡ Some low) [
          | true ↦ λ g. ap Some (omega (arith, leb-true _ _ g, h.1))
          | false ↦ λ g. let w = h.4 low l (omega arith) (leb-false _ _ g) in absurd (let z : ⊥ = cc in z)
        ] refl

pub scanned-least : (b : Block) (from : ℕ) (r : Option ℕ) → IsLeast (λ i. is_scanned b (b.start + 8 * i)) from (b.size / 8) r → option_map (λ i. b.start + 8 * i) r ≡ scanned_from (b.start + 8 * from) b
scanned-least b from r h =
    let e : b.start + 8 * 0 ≡ b.start = omega arith in
    subst (λ a. option_map (λ i. b.start + 8 * i) r ≡ find (leb (b.start + 8 * from)) (filter (is_scanned b) (words_from (b.size / 8) a))) e (find-least (is_scanned b) b.start from 0 (b.size / 8) r (bare r h))
  where
    bare : (r : Option ℕ) → IsLeast (λ i. is_scanned b (b.start + 8 * i)) from (b.size / 8) r → IsLeastFrom (λ i. is_scanned b (b.start + 8 * i)) from 0 (0 + b.size / 8) r
    bare None h = λ i a _ c. h i a (omega arith)
    bare (Some n) h = (h.0, omega arith, omega (arith, h.1), h.2, λ i a _ c. h.3 i a c)

-- a word of a block is one of its bytes
has_word : (b : Block) (i : ℕ) → i < b.size / 8 → contains (b.start + 8 * i) b ≡ true
has_word b i h = and_from _ _ (le-leb b.start (b.start + 8 * i) (omega arith)) (lt-ltb (b.start + 8 * i) (b.start + b.size) (omega arith))

pub none_scanned : (b : Block) (from : ℕ) → is_unscanned b ≡ true → None ≡ scanned_from (b.start + 8 * from) b
none_scanned b from u = scanned-least b from None (λ i a c. rw u refl)

-- without areas each word is scanned
pub all_scanned : (b : Block) (from : ℕ) (r : Option ℕ) → is_unscanned b ≡ false → b.areas ≡ [] → IsLeast (λ i. true) from (b.size / 8) r → option_map (λ i. b.start + 8 * i) r ≡ scanned_from (b.start + 8 * from) b
all_scanned b from r u e h = scanned-least b from r (each r h)
  where
    word : (i : ℕ) → i < b.size / 8 → is_scanned b (b.start + 8 * i) ≡ true
    word i l = rw (u, e, has_word b i l) refl

    each : (r : Option ℕ) → IsLeast (λ i. true) from (b.size / 8) r → IsLeast (λ i. is_scanned b (b.start + 8 * i)) from (b.size / 8) r
    each None h = λ i a c. let z = h i a c in absurd (let y : ⊥ = cc in y)
    each (Some n) h = (h.0, h.1, word n h.1, λ i a c. let z = h.3 i a c in absurd (let y : ⊥ = cc in y))

-- with areas those in them are
pub area_scanned : (b : Block) (from : ℕ) (r : Option ℕ) → is_unscanned b ≡ false → (b.areas ≡ [] → ⊥) → IsLeast (λ i. in_areas b.areas (b.start + 8 * i)) from (b.size / 8) r
    → option_map (λ i. b.start + 8 * i) r ≡ scanned_from (b.start + 8 * from) b
area_scanned b from r u e h = scanned-least b from r (each r h)
  where
    ways : (xs : List Area) (i : ℕ) → (xs ≡ [] → ⊥) → elim xs as (λ _. Bool) [ [] ↦ true | _ ∷ _ ↦ in_areas xs (b.start + 8 * i) ] ≡ in_areas xs (b.start + 8 * i)
    ways [] i n = absurd (n refl)
    ways (x ∷ xs) i n = refl

    word : (i : ℕ) → i < b.size / 8 → is_scanned b (b.start + 8 * i) ≡ in_areas b.areas (b.start + 8 * i)
    word i l = rw (u, has_word b i l) (ways b.areas i e)

    each : (r : Option ℕ) → IsLeast (λ i. in_areas b.areas (b.start + 8 * i)) from (b.size / 8) r → IsLeast (λ i. is_scanned b (b.start + 8 * i)) from (b.size / 8) r
    each None h = λ i a c. word i c ∙ h i a c
    each (Some n) h = (h.0, h.1, word n h.1 ∙ h.2, λ i a c. word i (omega (arith, h.1)) ∙ h.3 i a c)

-- one more area
pub least_more : (s t : ℕ → Bool) (from bound : ℕ) (m n : Option ℕ) → IsLeast s from bound m → IsLeast t from bound n → IsLeast (λ i. s i || t i) from bound (lesser m n)
least_more s t from bound None None h k = λ i a c. or_from _ _ (h i a c) (k i a c)
least_more s t from bound None (Some n) h k = (k.0, k.1, or_right _ _ k.2, λ i a c. or_from _ _ (h i a (omega (arith, k.1))) (k.3 i a c))
least_more s t from bound (Some m) None h k = (h.0, h.1, or_left _ _ h.2, λ i a c. or_from _ _ (h.3 i a c) (k i a (omega (arith, h.1))))
least_more s t from bound (Some m) (Some n) h k =
    elim (ltb n m) as (λ b. ltb n m ≡ b → IsLeast (λ i. s i || t i) from bound (cond b (Some n) (Some m))) [
      | true ↦ λ f. let l = ltb-true _ _ f in (k.0, k.1, or_right _ _ k.2, λ i a c. or_from _ _ (h.3 i a (omega (arith, l, c))) (k.3 i a c))
      | false ↦ λ f. let l = ltb-false _ _ f in (h.0, h.1, or_left _ _ h.2, λ i a c. or_from _ _ (h.3 i a c) (k.3 i a (omega (arith, l, c))))
    ] refl

pub least_same : (s t : ℕ → Bool) (from bound : ℕ) (r : Option ℕ) → ((i : ℕ) → t i ≡ s i) → IsLeast s from bound r → IsLeast t from bound r
least_same s t from bound None e h = λ i a c. e i ∙ h i a c
least_same s t from bound (Some n) e h = (h.0, h.1, e n ∙ h.2, λ i a c. e i ∙ h.3 i a c)

-- the areas that stand in front of the next place, and one more
pub more_some : (spans : List (Option Span)) (i : ℕ) (a : Span) (w : ℕ) → get_or spans i None ≡ Some a → in_areas (areas_in (take (suc i) spans)) w ≡ (in_areas (areas_in (take i spans)) w || is_within a.start.0 a.size w)
more_some [] i a w g = absurd (let z : ⊥ = cc in z)
more_some (None ∷ spans) zero a w g = absurd (let z : ⊥ = cc in z)
more_some (Some b ∷ spans) zero a w g = let same : b ≡ a = cc in rw same (or_false (is_within a.start.0 a.size w))
  where
    or_false : (b : Bool) → (b || false) ≡ b
    or_false true = refl
    or_false false = refl
more_some (None ∷ spans) (suc i) a w g = (more_some spans i a w g)
more_some (Some b ∷ spans) (suc i) a w g =
    (elim (is_within b.start.0 b.size w) as (λ x. (x || in_areas (areas_in (take (suc i) spans)) w) ≡ ((x || in_areas (areas_in (take i spans)) w) || is_within a.start.0 a.size w)) [ true ↦ refl | false ↦ more_some spans i a w g ])

pub more_none : (spans : List (Option Span)) (i w : ℕ) → get_or spans i None ≡ None → in_areas (areas_in (take (suc i) spans)) w ≡ in_areas (areas_in (take i spans)) w
more_none [] i w g = empty i
  where
    empty : (i : ℕ) → in_areas (areas_in (take (suc i) [])) w ≡ in_areas (areas_in (take i [])) w
    empty zero = refl
    empty (suc i) = refl
more_none (None ∷ spans) zero w g = refl
more_none (Some b ∷ spans) zero w g = absurd (let z : ⊥ = cc in z)
more_none (None ∷ spans) (suc i) w g = (more_none spans i w g)
more_none (Some b ∷ spans) (suc i) w g = (ap (λ x. is_within b.start.0 b.size w || x) (more_none spans i w g))
