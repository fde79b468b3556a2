use Rattle.std.proofs.Common.{◌≡◌, ℕ, ◌+◌, ◌-◌, ◌<◌, Bool, true, false, ◌&&◌, Option, Some, None, option_map, if◌then◌else◌, refl, sym, ap, ◌∙◌, subst, arith}
use Rattle.std.specs.Prelude.{nat_lt, Result, Ok, Err}
use Rattle.std.proofs.lemmas.Bool.{and_parts, ltb-true}
use Rattle.km_base.specs.declared.acts.Answer.{Answer}
use Rattle.km_base.specs.declared.acts.Answer.TheVariants.{Done, Refused}
use Rattle.km_base.specs.declared.acts.Refusal.TheVariants.{NoObject, NotInside}
use Rattle.km_base.specs.declared.spans.Span.{Span}
use Rattle.km_model.specs.Answers.{part_answer, unless}
use Rattle.km_model.specs.Blocks.{block_with, contains}
use Rattle.km_record.specs.declared.kinds.RecId.{RecId}
use Rattle.km_state.specs.State.{State, blocks_in}
use Rattle.km_state.specs.StateAfter as after
use Rattle.km_state.specs.StateAfter.{part_freed, unregistered}
use Rattle.km_tasks.specs.Roll.{Roll}
use Rattle.km_track.specs.Tracker.{AreRising, Live, NeverMeet, Tracker, id_of, is_live, live_where, live_with, unregistered_at}
use Rattle.km_track.proofs.Lives.{found_its, is_its}
use Rattle.km_free_part.specs.declared.parts.PartFault.{PartFault}
use Rattle.km_free_part.specs.declared.parts.PartFault.TheVariants as fault
use Rattle.km_free_part.specs.declared.parts.Pieces.{Pieces}
use Rattle.km_free_part.specs.Parts.{front_of, part_in, part_of, rear_of, rest_registered, split_at}
use Rattle.km_free_part.proofs.Taken.{taken}
use Rattle.km_scan.specs.Stand.{Fits, IsSettled, Stand, sweep_without}
use Rattle.km_objects.specs.Objects.{Agree, AreOf, Objects, places}
use Rattle.km_objects.proofs.Changes.{found_in}
use Rattle.km_objects.proofs.Gone.{Found, is_left, left_agree, left_are, one_out}
use Rattle.km_objects.proofs.Adds.{enabled_kept, rest_agree, rest_are, rest_places, rest_spare}

-- a part is taken out of a block

-- the answer
abbrev pub answer_of : Result RecId PartFault → Answer
answer_of (Ok _) = Done
answer_of (Err fault.NoObject) = Refused NoObject
answer_of (Err fault.NotInside) = Refused NotInside

part_same : (x : Option Live) (end : ℕ) → answer_of (part_in x end) ≡ part_answer (option_map (λ (l : Live). l.tracked.block) x) end
part_same None end = refl
part_same (Some l) end =
    elim (nat_lt (l.tracked.block.start + l.tracked.block.size) end) as (λ b. answer_of (if b then Err fault.NotInside else Ok (id_of l)) ≡ unless b NotInside Done) [ true ↦ refl | false ↦ refl ]

pub part_answers : (o : Objects) (t : Tracker) (k : Stand) (s : State) (part : Span) (r : Result RecId PartFault) → record { tracker = t; stand = k } ≡ o → AreOf o s → r ≡ part_of part t
    → answer_of r ≡ part_answer (block_with (blocks_in s.tracked) part.start.0) (part.start.0 + part.size)
part_answers o t k s part r view are e =
    ap answer_of e ∙ part_same (live_where (contains part.start.0) t) (part.start.0 + part.size)
    ∙ ap (λ (x : Objects). part_answer (option_map (λ (l : Live). l.tracked.block) (live_where (contains part.start.0) x.tracker)) (part.start.0 + part.size)) view
    ∙ ap (λ x. part_answer x (part.start.0 + part.size)) (found_in (contains part.start.0) o s are)

-- the block
pub part_found : (t : Tracker) (part : Span) (id : RecId) → AreRising 0 t.live t.registered → NeverMeet t.live → Ok id ≡ part_of part t → Found (contains part.start.0) t id
part_found t part id rising apart e =
    let k = taken t part id (live_with id t) rising (sym e) refl in
    record { it = k.0; found = k.1; live = k.2; its = sym (is_its id k.0 (found_its id t.live k.0 k.2)).1; apart = apart }

-- which rests are registered
abbrev pub IsFront : Span → Bool → Tracker → Pieces → Type 0
IsFront part keep t pieces = (l : Live) → live_where (contains part.start.0) t ≡ Some l → option_map (λ (i : RecId). i.generation) pieces.front ≡ (if keep && nat_lt 0 (front_of part l.tracked.block).size then Some t.registered else None)

abbrev pub IsRear : Span → Bool → Tracker → Tracker → Pieces → Type 0
IsRear part keep t u pieces = (l : Live) → live_where (contains part.start.0) t ≡ Some l → option_map (λ (i : RecId). i.generation) pieces.rear ≡ (if keep && nat_lt 0 (rear_of part l.tracked.block).size then Some (u.registered - 1) else None)

abbrev pub IsSplit : Span → Tracker → Tracker → Pieces → Type 0
IsSplit part t u pieces = (l : Live) → live_where (contains part.start.0) t ≡ Some l → u ≡ split_at part pieces l.tracked.block t

pub part_are : (o : Objects) (t u : Tracker) (k j : Stand) (s : State) (part : Span) (keep : Bool) (id : RecId) (pieces : Pieces) → record { tracker = t; stand = k } ≡ o → (h : Found (contains part.start.0) t id)
    → (is_live id t ≡ true → j ≡ record k { sweep = option_map (sweep_without id.generation) k.sweep }) → IsFront part keep t pieces → IsRear part keep t u pieces → IsSplit part t u pieces → s.enabled ≡ keep
    → AreOf o s → AreOf (record { tracker = u; stand = j }) (part_freed s part.start.0 part.size (block_with (blocks_in s.tracked) part.start.0))
part_are o t u k j s part keep id pieces view h sweep in_front in_rear split enabled are =
    let a = part.start.0 in
    let l = h.it in
    let b = l.tracked.block in
    let there : block_with (blocks_in s.tracked) a ≡ Some b =
    sym (found_in (contains a) o s are) ∙ ap (λ (x : Objects). option_map (λ (m : Live). m.tracked.block) (live_where (contains a) x.tracker)) (sym view) ∙ ap (option_map (λ (m : Live). m.tracked.block)) h.found in
    let out : AreOf (record { tracker = unregistered_at b.start t; stand = j }) (unregistered s b.start) =
    left_are (λ (m : Live). contains a m.tracked.block) o t (unregistered_at b.start t) k j l s view h.apart h.found refl (is_left (contains a) t k j id h sweep) are in
    let front = rest_are (unregistered_at b.start t) j (unregistered s b.start) pieces.front (front_of part b) b keep t.registered enabled (in_front l h.found) out in
    let rear = rest_are (rest_registered pieces.front (front_of part b) b (unregistered_at b.start t)) j (after.rest_registered (unregistered s b.start) b b.start (a - b.start)) pieces.rear (rear_of part b) b keep (u.registered - 1)
    (enabled_kept (unregistered s b.start) b b.start (a - b.start) ∙ enabled) (in_rear l h.found) front in
    subst (λ (x : Tracker). AreOf (record { tracker = x; stand = j }) (part_freed s a part.size (block_with (blocks_in s.tracked) a))) (sym (split l h.found))
    (subst (λ y. AreOf (record { tracker = split_at part pieces b t; stand = j }) (part_freed s a part.size y)) (sym there) rear)

pub part_agree : (o : Objects) (t u : Tracker) (k j : Stand) (roll : Roll) (part : Span) (id : RecId) (pieces : Pieces) → record { tracker = t; stand = k } ≡ o → (h : Found (contains part.start.0) t id)
    → ((l : Live) → Fits k t roll → live_with id t ≡ Some l → Fits j (unregistered_at l.tracked.block.start t) roll) → (IsSettled k → IsSettled j) → IsSplit part t u pieces → Agree o roll → Agree (record { tracker = u; stand = j }) roll
part_agree o t u k j roll part id pieces view h fits settled split agree =
    let b = h.it.tracked.block in
    let out = left_agree o t (unregistered_at b.start t) k j h.it roll view refl (λ f. fits h.it f h.live) settled agree in
    subst (λ (x : Tracker). Agree (record { tracker = x; stand = j }) roll) (sym (split h.it h.found))
    (rest_agree (rest_registered pieces.front (front_of part b) b (unregistered_at b.start t)) j roll pieces.rear (rear_of part b) b (rest_agree (unregistered_at b.start t) j roll pieces.front (front_of part b) b out))

-- the places
was_kept : (r : Option RecId) (i : RecId) (keep : Bool) (size n : ℕ) → r ≡ Some i → option_map (λ (i : RecId). i.generation) r ≡ (if keep && nat_lt 0 size then Some n else None) → (keep ≡ true) × (0 < size)
was_kept r i keep size n e f =
    let h = and_parts keep (nat_lt 0 size) (on (keep && nat_lt 0 size) (sym (ap (option_map (λ (i : RecId). i.generation)) e) ∙ f)) in
    (h.0, ltb-true 0 size h.1)
  where
    on : (c : Bool) → Some i.generation ≡ (if c then Some n else None) → c ≡ true
    on true f = refl
    on false f = absurd (let z : ⊥ = cc in z)

pub part_places : (o : Objects) (t u : Tracker) (k j : Stand) (part : Span) (keep : Bool) (id : RecId) (pieces : Pieces) → record { tracker = t; stand = k } ≡ o → (h : Found (contains part.start.0) t id)
    → IsFront part keep t pieces → IsRear part keep t u pieces → IsSplit part t u pieces
    → ((l : Live) → live_where (contains part.start.0) o.tracker ≡ Some l → keep ≡ true → 0 < (front_of part l.tracked.block).size → 0 < (rear_of part l.tracked.block).size → 0 < o.tracker.spare)
    → places (record { tracker = u; stand = j }) ≡ places o
part_places o t u k j part keep id pieces view h in_front in_rear split spare =
    let b = h.it.tracked.block in
    let out : Tracker = unregistered_at b.start t in
    let room : (i : RecId) → pieces.rear ≡ Some i → 0 < (rest_registered pieces.front (front_of part b) b out).spare =
    λ i e. rest_spare out pieces.front (front_of part b) b
    (λ m f.
    let front = was_kept pieces.front m keep (front_of part b).size t.registered f (in_front h.it h.found) in
    let rear = was_kept pieces.rear i keep (rear_of part b).size (u.registered - 1) e (in_rear h.it h.found) in
    let there = subst (λ (x : Objects). live_where (contains part.start.0) x.tracker ≡ Some h.it) view h.found in
    let some : 0 < t.spare = subst (λ (x : Objects). 0 < x.tracker.spare) (sym view) (spare h.it there front.0 front.1 rear.1) in
    omega (arith, some))
    (omega arith) in
    let one = one_out (λ (m : Live). contains part.start.0 m.tracked.block) t.live h.it h.apart h.found in
    ap (λ (x : Tracker). places (record { tracker = x; stand = j })) (split h.it h.found)
    ∙ rest_places (rest_registered pieces.front (front_of part b) b out) j pieces.rear (rear_of part b) b room
    ∙ rest_places out j pieces.front (front_of part b) b (λ i e. omega arith)
    ∙ (let same : places (record { tracker = out; stand = j }) ≡ places (record { tracker = t; stand = k }) = omega (arith, one) in same)
    ∙ ap places view
