use Rattle.std.proofs.Common.{◌≡◌, ℕ, ◌+◌, Bool, true, false, ◌&&◌, ◌||◌, ◌==◌, List, [], ◌∷◌, ◌++◌, append-nil, Option, Some, None, if◌then◌else◌, refl, sym, ap, ◌∙◌, subst, ◌⊎◌, inl, inr, eqb-true, eq-eqb}
use Rattle.std.proofs.lemmas.Bool.{and_parts}
use Rattle.km_model.specs.Blocks.{Block, needs, block_of, option_is}
use Rattle.km_model.specs.Past.{Past, Place, ScanLoad, world, loads}
use Rattle.km_model.specs.Scan.{ripe_in, found_changed, ripe_by_hit, first_of, tally, differs, kept_sum, last_word, sum_step, sum_so_far}
use Rattle.km_model.proofs.Cases.{elim_false, none_some, some_same, if_some}
use Rattle.km_model.proofs.Lists.{In, find_in}

-- the block whose sum is found changed is the holder
found_of : (past : Past) (place : Place) (value r : ℕ) (o : Option Block) → ((b : Block) → o ≡ Some b → b.id ≡ place.holder)
    → (elim o as (λ _. Option ℕ) [
      | None ↦ None
      | Some b ↦
          if place.phase == 3 && place.word == last_word b && differs (kept_sum past b) (sum_step (sum_so_far (loads past) b.id) value)
          then Some b.id
          else None
    ]) ≡ Some r → (place.phase ≡ 3) × (r ≡ place.holder)
found_of past place value r None f h = absurd (none_some r h)
found_of past place value r (Some b) f h =
    let d = differs (kept_sum past b) (sum_step (sum_so_far (loads past) b.id) value) in
    elim (if_some (place.phase == 3 && place.word == last_word b && differs (kept_sum past b) (sum_step (sum_so_far (loads past) b.id) value)) (Some b.id) None r h) [
      | inl passed ↦
          let parts = and_parts (place.phase == 3 && place.word == last_word b) (differs (kept_sum past b) (sum_step (sum_so_far (loads past) b.id) value)) passed.0 in
          let more = and_parts (place.phase == 3) (place.word == last_word b) parts.0 in
          (eqb-true place.phase 3 more.0, sym (some_same b.id r passed.1) ∙ f b refl)
      | inr failed ↦ absurd (none_some r failed.1)
    ]

pub found_is : (past : Past) (place : Place) (value r : ℕ) → found_changed past place value ≡ Some r → (place.phase ≡ 3) × (r ≡ place.holder)
found_is past place value r h =
    found_of past place value r (block_of (world past).blocks place.holder)
    (λ b s. eqb-true b.id place.holder (find_in (λ (c : Block). c.id == place.holder) (world past).blocks b s).0) h

abbrev pub RipeHit : Past → ℕ → Type 0
RipeHit past r = (b : Block) × In b (world past).blocks × (b.id ≡ r) × (needs (tally past b + 1) b ≡ true)

ripe_of : (past : Past) (id r : ℕ) (o : Option Block) → ((b : Block) → o ≡ Some b → In b (world past).blocks × (b.id ≡ id))
    → (elim o as (λ _. Option ℕ) [ None ↦ None | Some b ↦ if needs (tally past b + 1) b then Some id else None ]) ≡ Some r → (id ≡ r) × RipeHit past r
ripe_of past id r None f h = absurd (none_some r h)
ripe_of past id r (Some b) f h =
    elim (if_some (needs (tally past b + 1) b) (Some id) None r h) [
      | inl passed ↦ let g = f b refl in let same = some_same id r passed.1 in (same, (b, g.0, g.1 ∙ same, passed.0))
      | inr failed ↦ absurd (none_some r failed.1)
    ]

pub ripe_is : (past : Past) (hit : Option ℕ) (r : ℕ) → ripe_by_hit past hit ≡ Some r → (hit ≡ Some r) × RipeHit past r
ripe_is past None r h = absurd (none_some r h)
ripe_is past (Some id) r h =
    let k = ripe_of past id r (block_of (world past).blocks id)
    (λ b s. let f = find_in (λ (c : Block). c.id == id) (world past).blocks b s in (f.1, eqb-true b.id id f.0)) h in
    (ap (λ (n : ℕ). Some n) k.0, k.1)

pub either_first : (o p : Option ℕ) (r : ℕ) → first_of o p ≡ Some r → (o ≡ Some r) ⊎ (p ≡ Some r)
either_first None p r h = inr h
either_first (Some n) p r h = inl h

pub is_some_same : (o : Option ℕ) (r n : ℕ) → o ≡ Some r → n ≡ r → option_is o n ≡ true
is_some_same o r n e f = subst (λ p. option_is p n ≡ true) (sym e) (eq-eqb r n (sym f))

-- what comes to the end of a queue
abbrev pub more_of : Option ℕ → List ℕ
more_of None = []
more_of (Some id) = id ∷ []

-- what a load of these phases makes ripe comes to the end
pub ripe_here : (a b : ℕ) (l : ScanLoad) (ls : List ScanLoad) → (l.place.phase == a || l.place.phase == b) ≡ true → ripe_in a b (l ∷ ls) ≡ ripe_in a b ls ++ more_of l.ripe
ripe_here a b l ls e = by_phase l.ripe (l.place.phase == a || l.place.phase == b) e where
  by_phase : (o : Option ℕ) (q : Bool) → q ≡ true
      → (elim o as (λ _. List ℕ) [ None ↦ ripe_in a b ls | Some id ↦ if q then ripe_in a b ls ++ id ∷ [] else ripe_in a b ls ]) ≡ ripe_in a b ls ++ more_of o
  by_phase None q f = sym (append-nil (ripe_in a b ls))
  by_phase (Some id) true f = refl
  by_phase (Some id) false f = absurd (elim_false f)

-- and what another makes ripe doesn't
pub ripe_there : (a b : ℕ) (l : ScanLoad) (ls : List ScanLoad) → (l.place.phase == a || l.place.phase == b) ≡ false → ripe_in a b (l ∷ ls) ≡ ripe_in a b ls
ripe_there a b l ls e = by_phase l.ripe (l.place.phase == a || l.place.phase == b) e where
  by_phase : (o : Option ℕ) (q : Bool) → q ≡ false
      → (elim o as (λ _. List ℕ) [ None ↦ ripe_in a b ls | Some id ↦ if q then ripe_in a b ls ++ id ∷ [] else ripe_in a b ls ]) ≡ ripe_in a b ls
  by_phase None q f = refl
  by_phase (Some id) true f = absurd (elim_false (sym f))
  by_phase (Some id) false f = refl
