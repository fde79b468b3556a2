use Rattle.std.proofs.Common.{◌≡◌, ℕ, ◌+◌, ◌<◌, Bool, true, false, ◌&&◌, ◌||◌, not, cond, List, [], ◌∷◌, map, filter, Option, Some, None, if◌then◌else◌, refl, sym, ap, ◌∙◌, subst, arith}
use Rattle.std.specs.Prelude.{find, ◌==◌}
use Rattle.std.proofs.lemmas.Bool.{eq-eqb, ne_eqb, eqb-true, eqb-false}
use Rattle.km_record.specs.declared.kinds.RecId.{RecId}
use Rattle.km_model.specs.Blocks.{needs}
use Rattle.km_model.specs.Past.{Place}
use Rattle.km_model.specs.Scan.{place_in, word_above, stack_of, live_words}
use Rattle.km_state.specs.State as state
use Rattle.km_state.specs.State.{Scanning, Tracked, blocks_in}
use Rattle.km_state.specs.StateAfter.{begins_at, begun_scan, moved, scan_without, uncounted}
use Rattle.km_state.specs.StateNext.{load_at, queue_at, scan_told, sum_after, told, white_words_in, with_last}
use Rattle.km_tasks.specs.Roll.{Roll}
use Rattle.km_track.specs.Tracker as tracker
use Rattle.km_track.specs.Tracker.{AreRising, Live, NeverMeet, Tracker, begins, is_id, live_with, scan_started, tracked_in, unregistered_at}
use Rattle.km_track.proofs.Lives.{found_above, found_its, is_its}
use Rattle.km_scan.specs.declared.places.At.{At}
use Rattle.km_scan.specs.declared.places.At.TheVariants.{Stack, Block as InBlock}
use Rattle.km_scan.specs.declared.places.Pass.{Pass}
use Rattle.km_scan.specs.declared.places.Pass.TheVariants.{First, Sums, Second}
use Rattle.km_scan.specs.declared.places.Cursor.{Cursor}
use Rattle.km_scan.specs.declared.places.Cursor.TheVariants.{Start, Last, Behind}
use Rattle.km_scan.specs.declared.sweep.Sweep.{Sweep}
use Rattle.km_scan.specs.Places.{cursor_of, place_of}
use Rattle.km_scan.specs.Stand.{FitsCursor, FitsSweep, cursor_without, due_in, going_on, load_told, scanning_of, seen, started, sweep_told, sweep_without}
use Rattle.km_scan.proofs.Kept.{begin_apart}

-- a scanner's steps in the words of the state

-- the next word of the last load's stack or block leaves the queue
word_there : (phase holder : ℕ) (o : Option ℕ) (p : Place) → place_in phase holder o ≡ Some p → (a : ℕ) × (p ≡ record { phase = phase; holder = holder; word = a })
word_there phase holder None p e = absurd (let z : ⊥ = cc in z)
word_there phase holder (Some a) p e = (a, cc)

going_queue : (t : Tracker) (roll : Roll) (cursor : Cursor) (sum : ℕ) (p : Place) → going_on (tracked_in t) roll.tasks (cursor_of cursor) ≡ Some p → queue_at (record { queue = t.queue; cursor = cursor_of cursor; sum = sum }) p ≡ t.queue
going_queue t roll Start sum p e = absurd (let z : ⊥ = cc in z)
going_queue t roll (Last (Stack task word)) sum p e =
    let a = word_there 1 task (word_above word.0 (stack_of roll.tasks task)) p e in
    subst (λ (q : Place). queue_at (record { queue = t.queue; cursor = cursor_of (Last (Stack task word)); sum = sum }) q ≡ t.queue) (sym a.1) refl
going_queue t roll (Last (InBlock First id word)) sum p e =
    let a = word_there 2 id.generation (word_above word.0 (live_words (blocks_in (tracked_in t)) id.generation)) p e in
    subst (λ (q : Place). queue_at (record { queue = t.queue; cursor = cursor_of (Last (InBlock First id word)); sum = sum }) q ≡ t.queue) (sym a.1) (rw (eq-eqb id.generation id.generation refl) refl)
going_queue t roll (Last (InBlock Sums id word)) sum p e =
    let a = word_there 3 id.generation (word_above word.0 (white_words_in (tracked_in t) id.generation)) p e in
    subst (λ (q : Place). queue_at (record { queue = t.queue; cursor = cursor_of (Last (InBlock Sums id word)); sum = sum }) q ≡ t.queue) (sym a.1) refl
going_queue t roll (Last (InBlock Second id word)) sum p e =
    let a = word_there 4 id.generation (word_above word.0 (live_words (blocks_in (tracked_in t)) id.generation)) p e in
    subst (λ (q : Place). queue_at (record { queue = t.queue; cursor = cursor_of (Last (InBlock Second id word)); sum = sum }) q ≡ t.queue) (sym a.1) (rw (eq-eqb id.generation id.generation refl) refl)
going_queue t roll (Behind pass gen) sum p e = absurd (let z : ⊥ = cc in z)

pub due_step : (stacks : Bool) (w : Sweep) (t : Tracker) (roll : Roll) (at : At) (value : ℕ) → w.ready ≡ None → due_in w t roll ≡ Some (place_of at)
    → scanning_of (load_told stacks w (place_of at) value t roll) (sweep_told w at value t) ≡ scan_told (scanning_of t w) (load_at (seen stacks t roll) (scanning_of t w) (place_of at) value)
due_step stacks w t roll at value r e =
    let going = sym (ap (λ (o : Option At). elim o as (λ _. Option Place) [ None ↦ going_on (tracked_in t) roll.tasks (cursor_of w.cursor) | Some a ↦ Some (place_of a) ]) r) ∙ e in
    let queue = going_queue t roll w.cursor w.sum (place_of at) going in
    sym (λ i. record { queue = with_last (queue i) (load_at (seen stacks t roll) (scanning_of t w) (place_of at) value).ripe; cursor = state.Last (place_of at); sum = sum_after (scanning_of t w) (place_of at) value })

pub moved_step : (stacks : Bool) (w : Sweep) (t : Tracker) (roll : Roll) (at : At) (value : ℕ)
    → scanning_of (load_told stacks (record w { ready = Some at }) (place_of at) value (record t { queue = queue_at (scanning_of t w) (place_of at) }) roll) (sweep_told (record w { ready = Some at }) at value (record t { queue = queue_at (scanning_of t w) (place_of at) }))
    ≡ scan_told (scanning_of t w) (load_at (seen stacks t roll) (scanning_of t w) (place_of at) value)
moved_step stacks w t roll at value = refl

pub blocks_step : (stacks : Bool) (w : Sweep) (t : Tracker) (roll : Roll) (p : Place) (value : ℕ)
    → tracked_in (load_told stacks w p value t roll) ≡ map (told (load_at (seen stacks t roll) (scanning_of t w) p value) (sum_after (scanning_of t w) p value)) (tracked_in t)
blocks_step stacks w t roll p value = joined (told (load_at (seen stacks t roll) (scanning_of t w) p value) (sum_after (scanning_of t w) p value)) t.live
  where
    joined : (f : Tracked → Tracked) (ls : List Live) → map (λ (l : Live). l.tracked) (map (λ (x : Live). record x { tracked = f x.tracked }) ls) ≡ map f (map (λ (l : Live). l.tracked) ls)
    joined f [] = refl
    joined f (x ∷ ls) = ap (λ us. f x.tracked ∷ us) (joined f ls)

-- the block that is left is gone
same_gone : (a n : ℕ) (ls : List Live) → tracker.is_at a n ls ≡ begins_at (map (λ (l : Live). l.tracked) ls) a n
same_gone a n [] = refl
same_gone a n (x ∷ ls) = ap (λ b. ((x.tracked.block.start == a) && (x.tracked.block.id == n)) || b) (same_gone a n ls)

filter_same : (f g : ℕ → Bool) (q : List ℕ) → ((n : ℕ) → f n ≡ g n) → filter f q ≡ filter g q
filter_same f g [] same = refl
filter_same f g (n ∷ q) same = ap (λ b. cond b (n ∷ filter f q) (filter f q)) (same n) ∙ ap (λ r. cond (g n) (n ∷ r) r) (filter_same f g q same)

is_gone : (id : RecId) (a : ℕ) (ls : List Live) (l : Live) → find (is_id id) ls ≡ Some l → l.tracked.block.start ≡ a → tracker.is_at a id.generation ls ≡ true
is_gone id a [] l e s = absurd (let z : ⊥ = cc in z)
is_gone id a (x ∷ ls) l e s =
    elim (is_id id x) as (λ b. is_id id x ≡ b → cond b (Some x) (find (is_id id) ls) ≡ Some l → tracker.is_at a id.generation (x ∷ ls) ≡ true) [
      | true ↦ λ g f. let same : x ≡ l = cc in rw (eq-eqb x.tracked.block.start a (ap (λ (y : Live). y.tracked.block.start) same ∙ s), eq-eqb x.tracked.block.id id.generation (is_its id x g).1) refl
      | false ↦ λ g f. ap (λ b. ((x.tracked.block.start == a) && (x.tracked.block.id == id.generation)) || b) (is_gone id a ls l f s) ∙ or_true ((x.tracked.block.start == a) && (x.tracked.block.id == id.generation))
    ] refl e
  where
    or_true : (b : Bool) → (b || true) ≡ true
    or_true true = refl
    or_true false = refl

none_later : (n a low high : ℕ) (ls : List Live) → AreRising low ls high → n < low → tracker.is_at a n ls ≡ false
none_later n a low high [] r lt = refl
none_later n a low high (x ∷ ls) r lt =
    let above = r.0 in
    let rest = none_later n a (x.tracked.block.id + 1) high ls r.1 (omega (arith, above, lt)) in
    ap (λ b. ((x.tracked.block.start == a) && b) || tracker.is_at a n ls) (ne_eqb x.tracked.block.id n (λ e. omega (arith, above, lt, e))) ∙ ap (λ b. ((x.tracked.block.start == a) && false) || b) rest ∙ and_false (x.tracked.block.start == a)
  where
    and_false : (b : Bool) → ((b && false) || false) ≡ false
    and_false true = refl
    and_false false = refl

is_not_gone : (id : RecId) (a low high : ℕ) (ls : List Live) (k : Live) → AreRising low ls high → find (is_id id) ls ≡ Some k → (k.tracked.block.start ≡ a → ⊥) → tracker.is_at a id.generation ls ≡ false
is_not_gone id a low high [] k r e ne = absurd (let z : ⊥ = cc in z)
is_not_gone id a low high (x ∷ ls) k r e ne =
    elim (is_id id x) as (λ b. is_id id x ≡ b → cond b (Some x) (find (is_id id) ls) ≡ Some k → tracker.is_at a id.generation (x ∷ ls) ≡ false) [
      | true ↦ λ g f.
          let same : x ≡ k = cc in
          let its = (is_its id x g).1 in
          rw (ne_eqb x.tracked.block.start a (λ s. ne (ap (λ (y : Live). y.tracked.block.start) (sym same) ∙ s))) (none_later id.generation a (x.tracked.block.id + 1) high ls r.1 (omega (arith, its)))
      | false ↦ λ g f.
          let above = found_above id (x.tracked.block.id + 1) high ls k r.1 f in
          let its = (is_its id k (found_its id ls k f)).1 in
          let rest = is_not_gone id a (x.tracked.block.id + 1) high ls k r.1 f ne in
          ap (λ b. ((x.tracked.block.start == a) && b) || tracker.is_at a id.generation ls) (ne_eqb x.tracked.block.id id.generation (λ n. omega (arith, above, its, n))) ∙ ap (λ b. ((x.tracked.block.start == a) && false) || b) rest ∙ and_false (x.tracked.block.start == a)
    ] refl e
  where
    and_false : (b : Bool) → ((b && false) || false) ≡ false
    and_false true = refl
    and_false false = refl

cursor_moved : (stacks : Bool) (cursor : Cursor) (t : Tracker) (roll : Roll) (id : RecId) (l : Live) → AreRising 0 t.live t.registered → NeverMeet t.live → FitsCursor stacks cursor t roll → live_with id t ≡ Some l
    → cursor_of (cursor_without id.generation cursor) ≡ moved (begins_at (tracked_in t) l.tracked.block.start) (cursor_of cursor)
cursor_moved stacks Start t roll id l r n f e = refl
cursor_moved stacks (Last (Stack task word)) t roll id l r n f e = refl
cursor_moved stacks (Last (InBlock pass i word)) t roll id l r n f e = on pass (i.generation == id.generation) refl
  where
    both : (pass : Pass) (b : Bool) → (i.generation == id.generation) ≡ b → begins_at (tracked_in t) l.tracked.block.start i.generation ≡ b → cursor_of (if i.generation == id.generation then Behind pass i.generation else Last (InBlock pass i word)) ≡ moved (begins_at (tracked_in t) l.tracked.block.start) (cursor_of (Last (InBlock pass i word)))
    both First true g h = rw (g, h) refl
    both First false g h = rw (g, h) refl
    both Sums true g h = rw (g, h) refl
    both Sums false g h = rw (g, h) refl
    both Second true g h = rw (g, h) refl
    both Second false g h = rw (g, h) refl

    gone : (b : Bool) → (i.generation == id.generation) ≡ b → begins_at (tracked_in t) l.tracked.block.start i.generation ≡ b
    gone true g = ap (begins_at (tracked_in t) l.tracked.block.start) (eqb-true i.generation id.generation g) ∙ sym (same_gone l.tracked.block.start id.generation t.live) ∙ is_gone id l.tracked.block.start t.live l e refl
    gone false g = sym (same_gone l.tracked.block.start i.generation t.live) ∙ is_not_gone i l.tracked.block.start 0 t.registered t.live f.0 r f.1 (begin_apart id i t.live l f.0 n e f.1 (eqb-false i.generation id.generation g))

    on : (pass : Pass) (b : Bool) → (i.generation == id.generation) ≡ b → cursor_of (if i.generation == id.generation then Behind pass i.generation else Last (InBlock pass i word)) ≡ moved (begins_at (tracked_in t) l.tracked.block.start) (cursor_of (Last (InBlock pass i word)))
    on pass b g = both pass b g (gone b g)
cursor_moved stacks (Behind pass gen) t roll id l r n f e = refl

pub left_step : (stacks : Bool) (w : Sweep) (t : Tracker) (roll : Roll) (id : RecId) (l : Live) → AreRising 0 t.live t.registered → NeverMeet t.live → FitsSweep stacks w t roll → live_with id t ≡ Some l
    → Some (scanning_of (unregistered_at l.tracked.block.start t) (sweep_without id.generation w)) ≡ scan_without (begins_at (tracked_in t) l.tracked.block.start) (Some (scanning_of t w))
left_step stacks w t roll id l r n f e = λ i. Some (record { queue = queue i; cursor = cursor i; sum = w.sum })
  where
    queue : filter (λ m. not (tracker.is_at l.tracked.block.start m t.live)) t.queue ≡ filter (λ m. not (begins_at (tracked_in t) l.tracked.block.start m)) t.queue
    queue = filter_same _ _ t.queue (λ m. ap not (same_gone l.tracked.block.start m t.live))

    cursor : cursor_of (cursor_without id.generation w.cursor) ≡ moved (begins_at (tracked_in t) l.tracked.block.start) (cursor_of w.cursor)
    cursor = cursor_moved stacks w.cursor t roll id l r n f.cursor e

-- a scan that begins
pub begun_step : (t : Tracker) → scanning_of (scan_started t) started ≡ begun_scan (tracked_in t)
begun_step t = λ i. record { queue = queue t.live i; cursor = state.Start; sum = 7 }
  where
    queue : (ls : List Live) → map (λ (l : Live). l.tracked.block.id) (filter (λ (l : Live). needs 0 l.tracked.block) ls) ≡ map (λ (u : Tracked). u.block.id) (filter (λ (u : Tracked). needs 0 u.block) (map (λ (l : Live). l.tracked) ls))
    queue [] = refl
    queue (x ∷ ls) =
        elim (needs 0 x.tracked.block) as (λ b. map (λ (l : Live). l.tracked.block.id) (cond b (x ∷ filter (λ (l : Live). needs 0 l.tracked.block) ls) (filter (λ (l : Live). needs 0 l.tracked.block) ls))
        ≡ map (λ (u : Tracked). u.block.id) (cond b (x.tracked ∷ filter (λ (u : Tracked). needs 0 u.block) (map (λ (l : Live). l.tracked) ls)) (filter (λ (u : Tracked). needs 0 u.block) (map (λ (l : Live). l.tracked) ls)))) [
          | true ↦ ap (λ ns. x.tracked.block.id ∷ ns) (queue ls)
          | false ↦ queue ls
        ]

pub uncounted_step : (t : Tracker) → tracked_in (scan_started t) ≡ map uncounted (tracked_in t)
uncounted_step t = joined t.live
  where
    joined : (ls : List Live) → map (λ (l : Live). l.tracked) (map (λ (l : Live). record l { tracked = record l.tracked { count = 0 } }) ls) ≡ map uncounted (map (λ (l : Live). l.tracked) ls)
    joined [] = refl
    joined (x ∷ ls) = ap (λ us. uncounted x.tracked ∷ us) (joined ls)
