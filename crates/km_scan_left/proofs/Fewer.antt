-- Nothing but a block that is registered and a task that starts raises what is left.
use Rattle.std.proofs.Common.{◌≡◌, ℕ, ◌/◌, ◌≤◌, Bool, true, false, not, ◌==◌, cond, List, [], ◌∷◌, filter, Option, Some, None, option_map, if◌then◌else◌, refl, sym, ap, ◌∙◌, subst, arith, inl, inr, eqb-true, eq-eqb}
use Rattle.km_record.specs.declared.kinds.RecId.{RecId}
use Rattle.km_model.specs.Tasks.{Task}
use Rattle.km_model.proofs.Cases.{elim_false, some_same}
use Rattle.km_state.specs.State.{Scanning, Tracked}
use Rattle.km_state.specs.StateAfter.{begins_at, moved}
use Rattle.km_state.proofs.Lists.{filter_map_of}
use Rattle.km_tasks.specs.Roll.{Roll}
use Rattle.km_track.specs.Tracker.{AreRising, Live, NeverMeet, Tracker, begins, live_with, tracked_in, unregistered_at}
use Rattle.km_laws.specs.Left.{total}
use Rattle.km_laws.proofs.Lists.{In, filter_in, total_filter, total_le}
use Rattle.km_scan.specs.declared.places.At.{At}
use Rattle.km_scan.specs.declared.places.At.TheVariants.{Stack, Block as InBlock}
use Rattle.km_scan.specs.declared.sweep.Sweep.{Sweep}
use Rattle.km_scan.specs.Stand.{Fits, FitsSweep, Stand, ready_without, scanning_of, sweep_without}
use Rattle.km_scan.proofs.InState.{left_step}
use Rattle.km_left.specs.LeftIn.{grey_left, scan_left, sum_left}
use Rattle.km_left.proofs.Moves.{Passes, grey_fewer, phase_fewer, stacks_fewer, stays}
use Rattle.km_left.proofs.Raises.{moved_passes}
use Rattle.km_scan_left.specs.Left.{left_with, left_without, loaded_at, others, scanner_left, sweep_left}
use Rattle.km_scan_left.proofs.Once.{Once, once, there}

-- of a scan with other blocks less is left in the grey passes and in the sums
abbrev pub IsFewer : Scanning → Scanning → List Tracked → List Tracked → Type 0
IsFewer c d ts us = (total (grey_left d) us ≤ total (grey_left c) ts) × (total (sum_left d.cursor) us ≤ total (sum_left c.cursor) ts)

pub fewer_left : (c d : Scanning) (ts us : List Tracked) (tasks : List Task) → Passes c.cursor d.cursor → IsFewer c d ts us → scan_left d us tasks ≤ scan_left c ts tasks
fewer_left c d ts us tasks p f =
    let grey = f.0 in
    let sums = f.1 in
    let stacks = stacks_fewer c.cursor d.cursor tasks p in
    let le = p.phase in
    omega (arith, grey, sums, stacks, le)

-- of fewer blocks less is left
total_fewer : {X : Type 0} (f g : X → ℕ) (p q : X → Bool) (xs : List X) → ((x : X) → f x ≤ g x) → ((x : X) → In x xs → p x ≡ true → q x ≡ true) → total f (filter p xs) ≤ total g (filter q xs)
total_fewer f g p q [] le h = omega arith
total_fewer f g p q (x ∷ xs) le h =
    let rest = total_fewer f g p q xs le (λ y i. h y (inr i)) in
    let here = le x in
    elim (p x) as (λ b. p x ≡ b → total f (cond b (x ∷ filter p xs) (filter p xs)) ≤ total g (cond (q x) (x ∷ filter q xs) (filter q xs))) [
      | true ↦ λ e. rw (h x (inl refl) e) (omega (arith, rest, here))
      | false ↦ λ e. elim (q x) as (λ b. total f (filter p xs) ≤ total g (cond b (x ∷ filter q xs) (filter q xs))) [ true ↦ omega (arith, rest) | false ↦ rest ]
    ] refl

total_both : {X : Type 0} (f g : X → ℕ) (p q : X → Bool) (xs : List X) → ((x : X) → f x ≤ g x) → total f (filter q (filter p xs)) ≤ total g (filter q xs)
total_both f g p q [] le = omega arith
total_both f g p q (x ∷ xs) le =
    let rest = total_both f g p q xs le in
    let here = le x in
    elim (p x) as (λ b. total f (filter q (cond b (x ∷ filter p xs) (filter p xs))) ≤ total g (cond (q x) (x ∷ filter q xs) (filter q xs))) [
      | true ↦ elim (q x) as (λ b. total f (cond b (x ∷ filter q (filter p xs)) (filter q (filter p xs))) ≤ total g (cond b (x ∷ filter q xs) (filter q xs))) [ true ↦ omega (arith, rest, here) | false ↦ rest ]
      | false ↦ elim (q x) as (λ b. total f (filter q (filter p xs)) ≤ total g (cond b (x ∷ filter q xs) (filter q xs))) [ true ↦ omega (arith, rest) | false ↦ rest ]
    ]

-- another scan that has passed more, with fewer entries in its queue
record Later (c d : Scanning) : Type 0 where
  passes : Passes c.cursor d.cursor
  queue : (n : ℕ) → In n d.queue → In n c.queue

grey_later : (c d : Scanning) → Later c d → (u : Tracked) → grey_left d u ≤ grey_left c u
grey_later c d k u = grey_fewer c d u k.passes (k.queue u.block.id)

sum_later : (c d : Scanning) → Later c d → (u : Tracked) → sum_left d.cursor u ≤ sum_left c.cursor u
sum_later c d k u = phase_fewer 3 u.block.id u.block.start (u.block.size / 8) c.cursor d.cursor k.passes

-- among blocks of which some are gone
some_gone : (c d : Scanning) (p : Tracked → Bool) (ts : List Tracked) (tasks : List Task) → Later c d → scan_left d (filter p ts) tasks ≤ scan_left c ts tasks
some_gone c d p ts tasks k =
    let grey = total_filter (grey_left d) p ts in
    let grey' = total_le (grey_left d) (grey_left c) (grey_later c d k) ts in
    let sums = total_filter (sum_left d.cursor) p ts in
    let sums' = total_le (sum_left d.cursor) (sum_left c.cursor) (sum_later c d k) ts in
    fewer_left c d ts (filter p ts) tasks k.passes (omega (arith, grey, grey'), omega (arith, sums, sums'))

-- the block of a load that is due is one of them
it_gone : (c d : Scanning) (p : Tracked → Bool) (id : ℕ) (ts : List Tracked) (tasks : List Task) → Later c d → ((u : Tracked) → In u ts → p u ≡ true → not (u.block.id == id) ≡ true) → scan_left d (filter p ts) tasks ≤ scan_left c (others id ts) tasks
it_gone c d p id ts tasks k h =
    fewer_left c d (others id ts) (filter p ts) tasks k.passes (
      total_fewer (grey_left d) (grey_left c) p (λ (u : Tracked). not (u.block.id == id)) ts (grey_later c d k) h,
      total_fewer (sum_left d.cursor) (sum_left c.cursor) p (λ (u : Tracked). not (u.block.id == id)) ts (sum_later c d k) h,
    )

-- or is none of them
both_gone : (at : At) (c d : Scanning) (p : Tracked → Bool) (ts : List Tracked) (tasks : List Task) → Later c d → left_without at d (filter p ts) tasks ≤ left_without at c ts tasks
both_gone (Stack task word) c d p ts tasks k = omega arith
both_gone (InBlock pass id word) c d p ts tasks k =
    fewer_left c d (others id.generation ts) (others id.generation (filter p ts)) tasks k.passes (
      total_both (grey_left d) (grey_left c) p (λ (u : Tracked). not (u.block.id == id.generation)) ts (grey_later c d k),
      total_both (sum_left d.cursor) (sum_left c.cursor) p (λ (u : Tracked). not (u.block.id == id.generation)) ts (sum_later c d k),
    )

-- where the load that is due isn't of the block that is gone
stays_due : (at : At) (c d : Scanning) (p : Tracked → Bool) (ts : List Tracked) (tasks : List Task) → Later c d → left_with d (Some at) (filter p ts) tasks ≤ left_with c (Some at) ts tasks
stays_due at c d p ts tasks k =
    let there = some_gone (loaded_at at c) (loaded_at at d) p ts tasks (record { passes = stays (loaded_at at c).cursor; queue = k.queue }) in
    let gone = both_gone at c d p ts tasks k in
    omega (arith, there, gone)

left_fewer_with : (o : Option At) (c d : Scanning) (p : Tracked → Bool) (id : ℕ) (ts : List Tracked) (tasks : List Task) → Later c d → ((u : Tracked) → In u ts → p u ≡ true → not (u.block.id == id) ≡ true)
    → left_with d (ready_without id o) (filter p ts) tasks ≤ left_with c o ts tasks
left_fewer_with None c d p id ts tasks k h = some_gone c d p ts tasks k
left_fewer_with (Some (Stack task word)) c d p id ts tasks k h = stays_due (Stack task word) c d p ts tasks k
left_fewer_with (Some (InBlock pass i word)) c d p id ts tasks k h =
    elim (i.generation == id) as (λ b. (i.generation == id) ≡ b → left_with d (if b then None else Some (InBlock pass i word)) (filter p ts) tasks ≤ left_with c (Some (InBlock pass i word)) ts tasks) [
      | true ↦ λ e.
          let same = eqb-true i.generation id e in
          let less = it_gone c d p i.generation ts tasks k (λ u j f. subst (λ n. not (u.block.id == n) ≡ true) (sym same) (h u j f)) in
          omega (arith, less)
      | false ↦ λ e. stays_due (InBlock pass i word) c d p ts tasks k
    ] refl

-- a block that is unregistered
not_it : (t : Tracker) (id : RecId) (l : Live) → Once (tracked_in t) → live_with id t ≡ Some l → (u : Tracked) → In u (tracked_in t) → not (u.block.start == l.tracked.block.start) ≡ true → not (u.block.id == id.generation) ≡ true
not_it t id l one e u i other =
    elim (u.block.id == id.generation) as (λ b. (u.block.id == id.generation) ≡ b → not b ≡ true) [
      | false ↦ λ f. refl
      | true ↦ λ f.
          let k = there id t l e in
          let same = one u l.tracked i k.0 (eqb-true u.block.id id.generation f ∙ sym k.1) in
          absurd (elim_false (sym (ap not (eq-eqb u.block.start l.tracked.block.start (ap (λ (v : Tracked). v.block.start) same))) ∙ other))
    ] refl

leaves_by : (stacks : Bool) (w : Sweep) (t : Tracker) (roll : Roll) (id : RecId) (l : Live) → AreRising 0 t.live t.registered → NeverMeet t.live → FitsSweep stacks w t roll → live_with id t ≡ Some l
    → sweep_left (sweep_without id.generation w) (unregistered_at l.tracked.block.start t) roll ≤ sweep_left w t roll
leaves_by stacks w t roll id l rising apart fits e =
    let gone = begins_at (tracked_in t) l.tracked.block.start in
    let c = scanning_of t w in
    let d : Scanning = record { queue = filter (λ n. not (begins_at (tracked_in t) l.tracked.block.start n)) t.queue; cursor = moved (begins_at (tracked_in t) l.tracked.block.start) c.cursor; sum = w.sum } in
    let p = λ (u : Tracked). not (u.block.start == l.tracked.block.start) in
    let here : scanning_of (unregistered_at l.tracked.block.start t) (sweep_without id.generation w) ≡ d = some_same _ d (left_step stacks w t roll id l rising apart fits e) in
    let blocks : filter p (tracked_in t) ≡ tracked_in (unregistered_at l.tracked.block.start t)
    = filter_map_of (λ (x : Live). x.tracked) p (λ (x : Live). not (begins l.tracked.block.start x.tracked.block)) (λ x. refl) t.live in
    let k : Later c d = record { passes = moved_passes gone c.cursor; queue = λ n j. (filter_in (λ m. not (gone m)) t.queue n j).1 } in
    let less = left_fewer_with w.ready c d p id.generation (tracked_in t) roll.tasks k (not_it t id l (once t rising) e) in
    subst (λ x. left_with x (ready_without id.generation w.ready) (tracked_in (unregistered_at l.tracked.block.start t)) roll.tasks ≤ sweep_left w t roll) (sym here)
    (subst (λ us. left_with d (ready_without id.generation w.ready) us roll.tasks ≤ sweep_left w t roll) blocks less)

pub leaves : (s : Stand) (t : Tracker) (roll : Roll) (id : RecId) (l : Live) → AreRising 0 t.live t.registered → NeverMeet t.live → Fits s t roll → live_with id t ≡ Some l
    → scanner_left (record s { sweep = option_map (sweep_without id.generation) s.sweep }) (unregistered_at l.tracked.block.start t) roll ≤ scanner_left s t roll
leaves s t roll id l rising apart fits e = running s.sweep (λ w same. fits w same) where
  running : (o : Option Sweep) → ((w : Sweep) → o ≡ Some w → FitsSweep s.stacks w t roll)
      → (elim (option_map (sweep_without id.generation) o) as (λ _. ℕ) [ None ↦ 0 | Some w ↦ sweep_left w (unregistered_at l.tracked.block.start t) roll ]) ≤ (elim o as (λ _. ℕ) [ None ↦ 0 | Some w ↦ sweep_left w t roll ])
  running None f = omega arith
  running (Some w) f = leaves_by s.stacks w t roll id l rising apart (f w refl) e
