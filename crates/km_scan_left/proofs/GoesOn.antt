-- Where a scan goes on in the stack or block of its last load.
use Rattle.std.proofs.Common.{◌≡◌, ℕ, ◌<◌, true, List, Option, Some, None, refl, sym, subst, arith, ltb-true, eq-eqb}
use Rattle.std.specs.Prelude.{nat_lt}
use Rattle.km_model.specs.Tasks.{Task}
use Rattle.km_model.specs.Past.{Place}
use Rattle.km_model.specs.Scan.{live_words, place_in, stack_of, word_above}
use Rattle.km_model.proofs.Cases.{none_some}
use Rattle.km_model.proofs.Places.{stack_word_in}
use Rattle.km_state.specs.State as state
use Rattle.km_state.specs.State.{Scanning, blocks_in}
use Rattle.km_state.specs.StateNext.{is_at, phase_at, queue_at, white_words_in}
use Rattle.km_tasks.specs.Roll.{Roll}
use Rattle.km_track.specs.Tracker.{Tracker, tracked_in}
use Rattle.km_laws.proofs.Lists.{In, find_in}
use Rattle.km_scan.specs.declared.places.At.TheVariants.{Stack, Block as InBlock}
use Rattle.km_scan.specs.declared.places.Cursor.{Cursor}
use Rattle.km_scan.specs.declared.places.Cursor.TheVariants.{Start, Last, Behind}
use Rattle.km_scan.specs.declared.places.Pass.TheVariants.{First, Sums, Second}
use Rattle.km_scan.specs.Places.{cursor_of}
use Rattle.km_scan.specs.Stand.{going_on}
use Rattle.km_left.specs.LeftIn.{word_at}
use Rattle.km_left.proofs.Runs.{at_from}

-- a load behind the last one, of the same holder, which takes nothing out of the queue
pub record GoesOn (c : Scanning) (tasks : List Task) (p : Place) : Type 0 where
  pub phase : phase_at c.cursor ≡ p.phase
  pub held : is_at p.phase p.holder c.cursor ≡ true
  pub word : word_at c.cursor < p.word
  pub task : p.phase ≡ 1 → (x : Task) × In x tasks × (x.number ≡ p.holder)
  pub queue : queue_at c p ≡ c.queue

-- a word above another, in a place
abbrev pub IsAbove : ℕ → ℕ → ℕ → List ℕ → Place → Type 0
IsAbove phase holder word words p = (a : ℕ) × (p ≡ record { phase = phase; holder = holder; word = a }) × (word < a) × In a words

pub above : (phase holder word : ℕ) (words : List ℕ) (p : Place) → place_in phase holder (word_above word words) ≡ Some p → IsAbove phase holder word words p
above phase holder word words p e = found (word_above word words) (λ a h. find_in (nat_lt word) words a h) e where
  found : (o : Option ℕ) → ((a : ℕ) → o ≡ Some a → (nat_lt word a ≡ true) × In a words) → place_in phase holder o ≡ Some p → IsAbove phase holder word words p
  found None g h = absurd (none_some p h)
  found (Some a) g h = let k = g a refl in (a, cc, ltb-true word a k.0, k.1)

pub goes_on : (k : Cursor) (sum : ℕ) (t : Tracker) (roll : Roll) (p : Place) → going_on (tracked_in t) roll.tasks (cursor_of k) ≡ Some p → GoesOn (record { queue = t.queue; cursor = cursor_of k; sum = sum }) roll.tasks p
goes_on Start sum t roll p e = absurd (none_some p e)
goes_on (Last (Stack task word)) sum t roll p e =
    let at : Place = record { phase = 1; holder = task; word = word.0 } in
    let k = above 1 task word.0 (stack_of roll.tasks task) p e in
    let s = stack_word_in roll.tasks task k.0 k.3 in
    subst (GoesOn (record { queue = t.queue; cursor = state.Last at; sum = sum }) roll.tasks) (sym k.1)
    (record { phase = refl; held = at_from 1 task at refl refl; word = k.2; task = λ _. (s.0, s.1, s.2); queue = refl })
goes_on (Last (InBlock First id word)) sum t roll p e =
    let at : Place = record { phase = 2; holder = id.generation; word = word.0 } in
    let k = above 2 id.generation word.0 (live_words (blocks_in (tracked_in t)) id.generation) p e in
    subst (GoesOn (record { queue = t.queue; cursor = state.Last at; sum = sum }) roll.tasks) (sym k.1)
    (record { phase = refl; held = at_from 2 id.generation at refl refl; word = k.2; task = λ one. absurd (omega (arith, one)); queue = rw (eq-eqb id.generation id.generation refl) refl })
goes_on (Last (InBlock Sums id word)) sum t roll p e =
    let at : Place = record { phase = 3; holder = id.generation; word = word.0 } in
    let k = above 3 id.generation word.0 (white_words_in (tracked_in t) id.generation) p e in
    subst (GoesOn (record { queue = t.queue; cursor = state.Last at; sum = sum }) roll.tasks) (sym k.1)
    (record { phase = refl; held = at_from 3 id.generation at refl refl; word = k.2; task = λ one. absurd (omega (arith, one)); queue = refl })
goes_on (Last (InBlock Second id word)) sum t roll p e =
    let at : Place = record { phase = 4; holder = id.generation; word = word.0 } in
    let k = above 4 id.generation word.0 (live_words (blocks_in (tracked_in t)) id.generation) p e in
    subst (GoesOn (record { queue = t.queue; cursor = state.Last at; sum = sum }) roll.tasks) (sym k.1)
    (record { phase = refl; held = at_from 4 id.generation at refl refl; word = k.2; task = λ one. absurd (omega (arith, one)); queue = rw (eq-eqb id.generation id.generation refl) refl })
goes_on (Behind pass gone) sum t roll p e = absurd (none_some p e)
