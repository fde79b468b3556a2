use Rattle.std.proofs.Common.{◌≡◌, ℕ, Bool, true, false, List, [], ◌∷◌, ◌++◌, map, cond, Some, None, if◌then◌else◌, refl, ap, ◌∙◌}
use Rattle.std.specs.Prelude.{find}
use Rattle.std.proofs.lemmas.Bool.{eq-eqb}
use Rattle.km_base.specs.declared.spans.Span.{Span}
use Rattle.km_model.specs.Blocks.{Block, Minimum, Black, AtLeast, is_black, painted_black, references_of, unscanned}
use Rattle.km_record.specs.declared.kinds.RecId.{RecId}
use Rattle.km_record.specs.declared.kinds.Minimum as kinds
use Rattle.km_record.specs.declared.kinds.Minimum.TheVariants as kept
use Rattle.km_record.specs.declared.record.Record.{Record}
use Rattle.km_record.specs.Records.{IsSound, block_of, minimum_of}
use Rattle.km_track.specs.Tracker.{Live, Tracker, begins, changed_at, live_where, registered_in}
use Rattle.km_free_part.specs.Parts.{rest_registered}

-- the last block alone is changed, where no other begins at the address
last_changed : (ls : List Live) (x : Live) (test : Live → Bool) (f : Live → Live) → find test ls ≡ None → test x ≡ true → map (λ l. if test l then f l else l) (ls ++ x ∷ []) ≡ ls ++ f x ∷ []
last_changed [] x test f n e = rw e refl
last_changed (l ∷ ls) x test f n e =
    elim (test l) as (λ b. cond b (Some l) (find test ls) ≡ None → (if b then f l else l) ∷ map (λ l. if test l then f l else l) (ls ++ x ∷ []) ≡ l ∷ (ls ++ f x ∷ [])) [
      | true ↦ λ z. absurd (let y : ⊥ = cc in y)
      | false ↦ λ z. ap (λ (k : List Live). l ∷ k) (last_changed ls x test f z e)
    ] n

changed_last : (t : Tracker) (ls : List Live) (x : Live) (a : ℕ) (change : Block → Block) → find (λ (l : Live). begins a l.tracked.block) ls ≡ None → begins a x.tracked.block ≡ true
    → changed_at a change (record t { live = ls ++ x ∷ [] }) ≡ record t { live = ls ++ record x { tracked = record x.tracked { block = change x.tracked.block } } ∷ [] }
changed_last t ls x a change n e =
    ap (λ (k : List Live). record t { live = k }) (last_changed ls x (λ (l : Live). begins a l.tracked.block) (λ (l : Live). record l { tracked = record l.tracked { block = change l.tracked.block } }) n e)

-- a rest is registered with its settings
pub settled : (t : Tracker) (rest : Span) (id : RecId) (b : Block) (m : Minimum) (n : Bool) → (m ≡ Black → n ≡ true) → live_where (begins rest.start.0) t ≡ None
    → (if n then changed_at rest.start.0 unscanned (if is_black (record b { minimum = m; no_scan = n }) then changed_at rest.start.0 painted_black (registered_in id.slot rest (references_of (record b { minimum = m; no_scan = n })) b.born t) else registered_in id.slot rest (references_of (record b { minimum = m; no_scan = n })) b.born t)
    else (if is_black (record b { minimum = m; no_scan = n }) then changed_at rest.start.0 painted_black (registered_in id.slot rest (references_of (record b { minimum = m; no_scan = n })) b.born t) else registered_in id.slot rest (references_of (record b { minimum = m; no_scan = n })) b.born t))
    ≡ rest_registered (Some id) rest (record b { minimum = m; no_scan = n }) t
settled t rest id b (AtLeast k) false q n = refl
settled t rest id b (AtLeast k) true q n = changed_last (registered_in id.slot rest k b.born t) t.live _ rest.start.0 unscanned n (eq-eqb rest.start.0 rest.start.0 refl)
settled t rest id b Black false q n = absurd (let no = q refl in let z : ⊥ = cc in z)
settled t rest id b Black true q n =
    ap (changed_at rest.start.0 unscanned) (changed_last (registered_in id.slot rest 0 b.born t) t.live _ rest.start.0 painted_black n (eq-eqb rest.start.0 rest.start.0 refl))
    ∙ changed_last (registered_in id.slot rest 0 b.born t) t.live _ rest.start.0 unscanned n (eq-eqb rest.start.0 rest.start.0 refl)

-- a sound record that is black isn't scanned, in the words of the model
pub quiet : (r : Record) → IsSound r → (block_of 0 r).minimum ≡ Black → r.no_scan ≡ true
quiet r s e = on r.minimum refl e
  where
    on : (m : kinds.Minimum) → r.minimum ≡ m → minimum_of m ≡ Black → r.no_scan ≡ true
    on kept.Black is h = s.quiet is
    on (kept.AtLeast k) is h = absurd (let z : ⊥ = cc in z)
