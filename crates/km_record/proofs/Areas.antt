use Rattle.std.proofs.Common.{◌≡◌, ℕ, zero, suc, ◌+◌, ◌-◌, ◌<◌, ◌≤◌, true, false, ◌||◌, cond, not, ltb, leb, List, [], ◌∷◌, ◌++◌, length, set, get_or, Option, Some, None, is_none, refl, ap, subst, arith}
use Rattle.std.specs.Prelude.{position}
use Rattle.std.specs.List.{list_any, prefix_len}
use Rattle.std.proofs.lemmas.Bool.{and_parts, leb-true, le-ltb, ltb-true, ltb-false}
use Rattle.km_base.specs.declared.spans.Span.{Span}
use Rattle.km_model.specs.Blocks.{Area, Block, contains}
use Rattle.km_model.specs.Answers.{areas_meet}
use Rattle.km_record.specs.Records.{area_of, areas_in, is_empty, is_packed, is_met, EachIn, AreWordsIn, begins_full}

pub any_met : (area : Span) (spans : List (Option Span)) → list_any (is_met area) spans ≡ list_any (areas_meet area.start.0 area.size) (areas_in spans)
any_met area [] = refl
any_met area (None ∷ spans) = any_met area spans
any_met area (Some s ∷ spans) = ap (λ b. areas_meet area.start.0 area.size (area_of s) || b) (any_met area spans)

none_in : (spans : List (Option Span)) → is_empty spans ≡ true → areas_in spans ≡ []
none_in [] e = refl
none_in (None ∷ spans) e = none_in spans e
none_in (Some s ∷ spans) e = cc

pub not_full : (spans : List (Option Span)) → is_packed spans ≡ true → begins_full spans ≡ false → areas_in spans ≡ []
not_full [] p e = refl
not_full (None ∷ spans) p e = none_in spans p
not_full (Some s ∷ spans) p e = cc

packed_empty : (spans : List (Option Span)) → is_empty spans ≡ true → is_packed spans ≡ true
packed_empty [] e = refl
packed_empty (None ∷ spans) e = e
packed_empty (Some s ∷ spans) e = cc

-- an area at the first place where none is kept comes behind the others
pub record IsPlaced (spans : List (Option Span)) (i : ℕ) (area : Span) : Type 0 where
  pub areas : areas_in (set spans i (Some area)) ≡ areas_in spans ++ area_of area ∷ []
  pub packed : is_packed (set spans i (Some area)) ≡ true
  pub count : length (areas_in spans) ≡ i
  pub within : i < length spans

-- how many stand in front of the first place where none is kept
abbrev gap : List (Option Span) → ℕ
gap spans = prefix_len (λ s. not (is_none s)) spans

gap_placed : (spans : List (Option Span)) (area : Span) → is_packed spans ≡ true → gap spans < length spans → IsPlaced spans (gap spans) area
gap_placed [] area p h = absurd (omega arith)
gap_placed (None ∷ spans) area p h =
    record { areas = rw (none_in spans p) refl; packed = packed_empty spans p; count = rw (none_in spans p) refl; within = omega arith }
gap_placed (Some s ∷ spans) area p h =
    let rest = gap_placed spans area p (omega arith) in
    let e : suc (gap spans) ≡ 1 + gap spans = omega arith in
    subst (λ n. IsPlaced (Some s ∷ spans) n area) e (record { areas = ap (λ l. area_of s ∷ l) rest.areas; packed = rest.packed; count = ap suc rest.count; within = omega (arith, rest.within) })

pub placed : (spans : List (Option Span)) (i : ℕ) (area : Span) → is_packed spans ≡ true → Some i ≡ position (λ s. is_none s) spans → IsPlaced spans i area
placed spans i area p e =
    elim (ltb (gap spans) (length spans)) as (λ b. ltb (gap spans) (length spans) ≡ b → Some i ≡ cond b (Some (gap spans)) None → IsPlaced spans i area) [
      | true ↦ λ f g. let same : gap spans ≡ i = cc in subst (λ n. IsPlaced spans n area) same (gap_placed spans area p (ltb-true _ _ f))
      | false ↦ λ _ g. absurd (let z : ⊥ = cc in z)
    ] refl e

gap_none : (spans : List (Option Span)) → length spans ≤ gap spans → length (areas_in spans) ≡ length spans
gap_none [] h = refl
gap_none (None ∷ spans) h = absurd (omega arith)
gap_none (Some s ∷ spans) h = ap suc (gap_none spans (omega arith))

pub all_placed : (spans : List (Option Span)) → None ≡ position (λ s. is_none s) spans → length (areas_in spans) ≡ length spans
all_placed spans e =
    elim (ltb (gap spans) (length spans)) as (λ b. ltb (gap spans) (length spans) ≡ b → None ≡ cond b (Some (gap spans)) None → length (areas_in spans) ≡ length spans) [
      | true ↦ λ _ g. absurd (let z : ⊥ = cc in z)
      | false ↦ λ f _. gap_none spans (ltb-false _ _ f)
    ] refl e

pub each_end : (s : Span) (areas : List Area) (a : Area) → EachIn s areas → AreWordsIn s a → EachIn s (areas ++ a ∷ [])
each_end s [] a e w = (w, tt)
each_end s (b ∷ areas) a e w = (e.0, each_end s areas a e.1 w)

-- an area that begins in a block and is no longer than what is left of it doesn't go past its end
pub room : (b : Block) (a size : ℕ) → contains a b ≡ true → size ≤ b.size - (a - b.start) → ltb (b.start + b.size) (a + size) ≡ false
room b a size h l =
    let p = and_parts (leb b.start a) (ltb a (b.start + b.size)) h in le-ltb (b.start + b.size) (a + size) (omega (arith, leb-true b.start a p.0, ltb-true a (b.start + b.size) p.1))

-- an area that is kept consists of words in the span
pub area_at : (s : Span) (spans : List (Option Span)) (i : ℕ) (a : Span) → EachIn s (areas_in spans) → get_or spans i None ≡ Some a → AreWordsIn s (area_of a)
area_at s [] i a e g = absurd (let z : ⊥ = cc in z)
area_at s (None ∷ spans) zero a e g = absurd (let z : ⊥ = cc in z)
area_at s (Some b ∷ spans) zero a e g = let same : b ≡ a = cc in subst (λ x. AreWordsIn s (area_of x)) same e.0
area_at s (None ∷ spans) (suc i) a e g = area_at s spans i a e g
area_at s (Some b ∷ spans) (suc i) a e g = area_at s spans i a e.1 g

pub full : (spans : List (Option Span)) → begins_full spans ≡ true → areas_in spans ≡ [] → ⊥
full [] f e = let z : ⊥ = cc in z
full (None ∷ spans) f e = let z : ⊥ = cc in z
full (Some s ∷ spans) f e = let z : ⊥ = cc in z
