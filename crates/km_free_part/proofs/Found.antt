use Rattle.std.proofs.Common.{◌≡◌, ℕ, ◌+◌, ◌<◌, ◌≤◌, Bool, true, false, ltb, leb, List, [], ◌∷◌, cond, Some, None, Option, option_map, refl, subst, arith}
use Rattle.std.specs.Prelude.{find}
use Rattle.std.proofs.lemmas.Bool.{and_parts, and_from, ltb-true, leb-true, eq-eqb, eqb-true}
use Rattle.km_model.specs.Blocks.{contains}
use Rattle.km_record.specs.declared.kinds.RecId.{RecId}
use Rattle.km_track.specs.Tracker.{AreRising, Live, Tracker, id_of, is_id, live_where, live_with}

-- what passes a search
pub passes : (test : Live → Bool) (ls : List Live) (l : Live) → find test ls ≡ Some l → test l ≡ true
passes test [] l f = absurd (let z : ⊥ = cc in z)
passes test (m ∷ ls) l f =
    elim (test m) as (λ b. test m ≡ b → cond b (Some m) (find test ls) ≡ Some l → test l ≡ true) [
      | true ↦ λ e z. let same : m ≡ l = cc in subst (λ (k : Live). test k ≡ true) same e
      | false ↦ λ e z. passes test ls l z
    ] refl f

-- a block that is found is found by its id
pub found_id : (test : Live → Bool) (ls : List Live) (l : Live) (low high : ℕ) → AreRising low ls high → find test ls ≡ Some l → (find (is_id (id_of l)) ls ≡ Some l) × (low ≤ l.tracked.block.id)
found_id test [] l low high r f = absurd (let z : ⊥ = cc in z)
found_id test (m ∷ ls) l low high r f =
    elim (test m) as (λ b. cond b (Some m) (find test ls) ≡ Some l → (find (is_id (id_of l)) (m ∷ ls) ≡ Some l) × (low ≤ l.tracked.block.id)) [
      | true ↦ λ z.
          let same : m ≡ l = cc in
          subst (λ (k : Live). (find (is_id (id_of k)) (m ∷ ls) ≡ Some k) × (low ≤ k.tracked.block.id)) same
          ((rw (and_from _ _ (eq-eqb m.slot m.slot refl) (eq-eqb m.tracked.block.id m.tracked.block.id refl)) refl), r.0)
      | false ↦ λ z.
          let rest = found_id test ls l (m.tracked.block.id + 1) high r.1 z in (
            elim (is_id (id_of l) m) as (λ b. is_id (id_of l) m ≡ b → cond b (Some m) (find (is_id (id_of l)) ls) ≡ Some l) [
              | true ↦ λ e. absurd (omega (arith, rest.1, eqb-true m.tracked.block.id l.tracked.block.id (and_parts _ _ e).1))
              | false ↦ λ e. rest.0
            ] refl,
            omega (arith, r.0, rest.1),
          )
    ] f

-- the block that a look and its record tell
pub seen : (t : Tracker) (a : ℕ) (id : RecId) (o : Option Live) → AreRising 0 t.live t.registered → live_where (contains a) t ≡ o → Some id ≡ option_map id_of o → live_with id t ≡ o
seen t a id None r f s = absurd (let z : ⊥ = cc in z)
seen t a id (Some l) r f s =
    let same : id_of l ≡ id = cc in
    subst (λ (i : RecId). live_with i t ≡ Some l) same (found_id (λ (k : Live). contains a k.tracked.block) t.live l 0 t.registered r f).0

pub inside : (t : Tracker) (a : ℕ) (l : Live) → live_where (contains a) t ≡ Some l → (l.tracked.block.start ≤ a) × (a < l.tracked.block.start + l.tracked.block.size)
inside t a l f =
    let p = and_parts (leb l.tracked.block.start a) (ltb a (l.tracked.block.start + l.tracked.block.size)) (passes (λ (k : Live). contains a k.tracked.block) t.live l f) in
    (leb-true l.tracked.block.start a p.0, ltb-true a (l.tracked.block.start + l.tracked.block.size) p.1)
