-- To what a scanner moves.
use Rattle.std.proofs.Common.{◌≡◌, ℕ, ◌<◌, ◌≤◌, Bool, true, false, nat_lt, List, [], ◌∷◌, filter, Option, Some, None, if◌then◌else◌, refl, sym, subst, arith, ◌⊎◌, inl, inr, ltb-true}
use Rattle.std.specs.Prelude.{find}
use Rattle.km_model.specs.Blocks.{Block, is_among}
use Rattle.km_model.specs.Tasks.{Task}
use Rattle.km_model.specs.Past.{Place}
use Rattle.km_model.specs.Scan.{first_in, first_stack, live_words, or_else, place_in, stack_of, word_above}
use Rattle.km_model.proofs.Cases.{none_some}
use Rattle.km_model.proofs.Places.{or_else_some}
use Rattle.km_state.specs.State as state
use Rattle.km_state.specs.State.{Scanning, Tracked, blocks_in, is_white_now}
use Rattle.km_state.specs.StateNext.{first_white_in, next_in, phase_at, white_behind}
use Rattle.km_tasks.specs.Roll.{Roll}
use Rattle.km_track.specs.Tracker.{Tracker, tracked_in}
use Rattle.km_laws.proofs.Lists.{In, filter_in, find_in}
use Rattle.km_scan.specs.declared.places.At.TheVariants.{Stack, Block as InBlock}
use Rattle.km_scan.specs.declared.places.Cursor.{Cursor}
use Rattle.km_scan.specs.declared.places.Cursor.TheVariants.{Start, Last, Behind}
use Rattle.km_scan.specs.declared.places.Pass.TheVariants.{First, Sums, Second}
use Rattle.km_scan.specs.Places.{cursor_of}
use Rattle.km_scan.specs.Stand.{going_on, seen}
use Rattle.km_scan.proofs.Moves.{is_queued}
use Rattle.km_left.specs.LeftIn.{is_ahead}
use Rattle.km_left.proofs.Runs.{ahead_later, ahead_low}
use Rattle.km_left.proofs.Loads.{IsGrey}

-- a move goes to a live stack or a block ahead, or to what waits in the queue
abbrev pub Reaches : Scanning → List Task → Place → Type 0
Reaches c tasks p =
    (phase_at c.cursor ≤ p.phase)
    × (((p.phase ≡ 1) × (is_ahead 1 p.holder c.cursor ≡ true) × (x : Task) × In x tasks × (x.number ≡ p.holder))
    ⊎ (((p.phase ≡ 3) × (is_ahead 3 p.holder c.cursor ≡ true))
    ⊎ (IsGrey p × (is_among p.holder c.queue ≡ true))))

to_stack : (c : Scanning) (tasks later : List Task) (p : Place) → phase_at c.cursor ≤ 1 → ((x : Task) → In x later → In x tasks × (is_ahead 1 x.number c.cursor ≡ true)) → first_stack later ≡ Some p → Reaches c tasks p
to_stack c tasks [] p le f e = absurd (none_some p e)
to_stack c tasks (x ∷ later) p le f e =
    let same : (record { phase = 1; holder = x.number; word = x.stack }) ≡ p = cc in
    let k = f x (inl refl) in
    subst (Reaches c tasks) same (le, inl (refl, k.1, x, k.0, refl))

to_queue : (c : Scanning) (tasks : List Task) (blocks : List Block) (p : Place) (q : ℕ) → (q ≡ 2) ⊎ (q ≡ 4) → phase_at c.cursor ≤ q → first_in q blocks c.queue ≡ Some p → Reaches c tasks p
to_queue c tasks blocks p q grey le e =
    let k = is_queued q blocks c.queue p (sym e) in
    subst (Reaches c tasks) (sym k.is) (le, inr (inr (grey, k.there)))

to_white : (c : Scanning) (tasks : List Task) (later : List Tracked) (p : Place) → phase_at c.cursor ≤ 3 → ((x : Tracked) → In x later → is_ahead 3 x.block.id c.cursor ≡ true) → first_white_in later ≡ Some p → Reaches c tasks p
to_white c tasks later p le f e = found (find is_white_now later) (λ x h. (find_in is_white_now later x h).1) e where
  found : (o : Option Tracked) → ((x : Tracked) → o ≡ Some x → In x later) → (elim o as (λ _. Option Place) [ None ↦ None | Some t ↦ Some (record { phase = 3; holder = t.block.id; word = t.block.start }) ]) ≡ Some p → Reaches c tasks p
  found None g h = absurd (none_some p h)
  found (Some x) g h =
      let same : (record { phase = 3; holder = x.block.id; word = x.block.start }) ≡ p = cc in
      subst (Reaches c tasks) same (le, inr (inl (refl, f x (g x refl))))

-- before the sums
before_sums : (c : Scanning) (tasks : List Task) (ts : List Tracked) (p : Place) → phase_at c.cursor ≤ 2 → or_else (first_in 2 (blocks_in ts) c.queue) (or_else (first_white_in ts) None) ≡ Some p → Reaches c tasks p
before_sums c tasks ts p le e =
    elim (or_else_some (first_in 2 (blocks_in ts) c.queue) (or_else (first_white_in ts) None) p e) [
      | inl a ↦ to_queue c tasks (blocks_in ts) p 2 (inl refl) le a
      | inr a ↦ elim (or_else_some (first_white_in ts) None p a.1) [
        | inl b ↦ to_white c tasks ts p (omega (arith, le)) (λ x _. ahead_low 3 x.block.id c.cursor (omega (arith, le))) b
        | inr b ↦ absurd (none_some p b.1)
      ]
    ]

-- in the sums, behind a block
from_sums : (c : Scanning) (tasks : List Task) (ts : List Tracked) (n : ℕ) (p : Place) → phase_at c.cursor ≡ 3 → ((m : ℕ) → n < m → is_ahead 3 m c.cursor ≡ true)
    → or_else (white_behind n ts) (first_in 4 (blocks_in ts) c.queue) ≡ Some p → Reaches c tasks p
from_sums c tasks ts n p three f e =
    elim (or_else_some (white_behind n ts) (first_in 4 (blocks_in ts) c.queue) p e) [
      | inl a ↦ to_white c tasks (filter (λ (x : Tracked). nat_lt n x.block.id) ts) p (omega (arith, three))
          (λ x i. f x.block.id (ltb-true n x.block.id (filter_in (λ (y : Tracked). nat_lt n y.block.id) ts x i).0)) a
      | inr a ↦ to_queue c tasks (blocks_in ts) p 4 (inr refl) (omega (arith, three)) a.1
    ]

-- where stacks are scanned
with_stacks : (stacks : Bool) (o : Option Place) (p : Place) → (if stacks then o else None) ≡ Some p → o ≡ Some p
with_stacks true o p e = e
with_stacks false o p e = absurd (none_some p e)

-- what no further word is in
passed_on : (o rest : Option Place) (p : Place) → o ≡ None → or_else o rest ≡ Some p → rest ≡ Some p
passed_on None rest p none e = e
passed_on (Some q) rest p none e = absurd (none_some q (sym none))

pub reaches : (stacks : Bool) (k : Cursor) (sum : ℕ) (t : Tracker) (roll : Roll) (p : Place) → going_on (tracked_in t) roll.tasks (cursor_of k) ≡ None
    → next_in (seen stacks t roll) (record { queue = t.queue; cursor = cursor_of k; sum = sum }) ≡ Some p → Reaches (record { queue = t.queue; cursor = cursor_of k; sum = sum }) roll.tasks p
reaches stacks Start sum t roll p none e =
    let c : Scanning = record { queue = t.queue; cursor = state.Start; sum = sum } in
    let rest = or_else (first_in 2 (blocks_in (tracked_in t)) t.queue) (or_else (first_white_in (tracked_in t)) None) in
    elim (or_else_some (if stacks then first_stack roll.tasks else None) rest p e) [
      | inl a ↦ to_stack c roll.tasks roll.tasks p (omega arith) (λ x i. (i, refl)) (with_stacks stacks (first_stack roll.tasks) p a)
      | inr a ↦ before_sums c roll.tasks (tracked_in t) p (omega arith) a.1
    ]
reaches stacks (Last (Stack task word)) sum t roll p none e =
    let at : Place = record { phase = 1; holder = task; word = word.0 } in
    let c : Scanning = record { queue = t.queue; cursor = state.Last at; sum = sum } in
    let rest = or_else (first_in 2 (blocks_in (tracked_in t)) t.queue) (or_else (first_white_in (tracked_in t)) None) in
    let going = place_in 1 task (word_above word.0 (stack_of roll.tasks task)) in
    let later = filter (λ (x : Task). nat_lt task x.number) roll.tasks in
    elim (or_else_some (if stacks then or_else going (first_stack later) else None) rest p e) [
      | inl a ↦ to_stack c roll.tasks later p (omega arith)
          (λ x i. let f = filter_in (λ (y : Task). nat_lt task y.number) roll.tasks x i in (f.1, ahead_later 1 x.number 1 task refl (ltb-true task x.number f.0)))
          (passed_on going (first_stack later) p none (with_stacks stacks (or_else going (first_stack later)) p a))
      | inr a ↦ before_sums c roll.tasks (tracked_in t) p (omega arith) a.1
    ]
reaches stacks (Last (InBlock First id word)) sum t roll p none e =
    let at : Place = record { phase = 2; holder = id.generation; word = word.0 } in
    let c : Scanning = record { queue = t.queue; cursor = state.Last at; sum = sum } in
    let rest = or_else (first_white_in (tracked_in t)) None in
    let queued = first_in 2 (blocks_in (tracked_in t)) t.queue in
    before_sums c roll.tasks (tracked_in t) p (omega arith) (subst (λ o. or_else (or_else o queued) rest ≡ Some p) none e)
reaches stacks (Last (InBlock Sums id word)) sum t roll p none e =
    let at : Place = record { phase = 3; holder = id.generation; word = word.0 } in
    let c : Scanning = record { queue = t.queue; cursor = state.Last at; sum = sum } in
    let rest = first_in 4 (blocks_in (tracked_in t)) t.queue in
    from_sums c roll.tasks (tracked_in t) id.generation p refl (λ m lt. ahead_later 3 m 3 id.generation refl lt)
    (subst (λ o. or_else (or_else o (white_behind id.generation (tracked_in t))) rest ≡ Some p) none e)
reaches stacks (Last (InBlock Second id word)) sum t roll p none e =
    let at : Place = record { phase = 4; holder = id.generation; word = word.0 } in
    let c : Scanning = record { queue = t.queue; cursor = state.Last at; sum = sum } in
    to_queue c roll.tasks (blocks_in (tracked_in t)) p 4 (inr refl) (omega arith)
    (passed_on (place_in 4 id.generation (word_above word.0 (live_words (blocks_in (tracked_in t)) id.generation))) (first_in 4 (blocks_in (tracked_in t)) t.queue) p none e)
reaches stacks (Behind First gone) sum t roll p none e =
    let c : Scanning = record { queue = t.queue; cursor = state.Behind 2 gone; sum = sum } in
    before_sums c roll.tasks (tracked_in t) p (omega arith) e
reaches stacks (Behind Sums gone) sum t roll p none e =
    let c : Scanning = record { queue = t.queue; cursor = state.Behind 3 gone; sum = sum } in
    from_sums c roll.tasks (tracked_in t) gone p refl (λ m lt. ahead_later 3 m 3 gone refl lt) e
reaches stacks (Behind Second gone) sum t roll p none e =
    let c : Scanning = record { queue = t.queue; cursor = state.Behind 4 gone; sum = sum } in
    to_queue c roll.tasks (blocks_in (tracked_in t)) p 4 (inr refl) (omega arith) e
