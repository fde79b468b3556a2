-- What changes of blocks and of tasks leave.
use Rattle.std.proofs.Common.{◌≡◌, ℕ, ◌/◌, ◌≤◌, Bool, true, false, ◌||◌, not, ◌==◌, bytes_eq, slice_set, cond, List, [], ◌∷◌, map, Option, Some, None, if◌then◌else◌, refl, sym, ap, ◌∙◌, subst, arith, inl, inr}
use Rattle.std.proofs.lemmas.Bool.{cases_Bool, or_cases, or_right}
use Rattle.km_base.specs.declared.acts.Reg.{Reg}
use Rattle.km_model.specs.Blocks.{is_among}
use Rattle.km_model.specs.Tasks.{Task, place_of}
use Rattle.km_model.proofs.Cases.{elim_false}
use Rattle.km_state.specs.State.{Cursor, Scanning, Tracked, is_white_now}
use Rattle.km_state.specs.StateNext.{is_at}
use Rattle.km_tasks.specs.Roll.{Roll, with_value, without}
use Rattle.km_track.specs.Tracker.{Live, Tracker, changed, tracked_in}
use Rattle.km_laws.specs.Left.{total}
use Rattle.km_laws.proofs.Lists.{total_filter, total_map_le}
use Rattle.km_scan.specs.declared.places.At.{At}
use Rattle.km_scan.specs.declared.places.At.TheVariants.{Stack, Block as InBlock}
use Rattle.km_scan.specs.declared.sweep.Sweep.{Sweep}
use Rattle.km_scan.specs.Stand.{KeepsPlaces, Stand, scanning_of}
use Rattle.km_left.specs.LeftIn.{grey_left, phase_left, run_left, scan_left, stack_left, sum_left}
use Rattle.km_left.proofs.Moves.{Passes, run_fewer, stays}
use Rattle.km_scan_left.specs.Left.{left_with, left_without, loaded_at, others, scanner_left, sweep_left}
use Rattle.km_scan_left.proofs.Fewer.{fewer_left}

-- what is left of a block that stays where it is and doesn't become white
white_back : (u v : Tracked) → (is_white_now u ≡ false → is_white_now v ≡ false) → is_white_now v ≡ true → is_white_now u ≡ true
white_back u v f w = elim (cases_Bool (is_white_now u)) [ inl t ↦ t | inr n ↦ absurd (elim_false (sym (f n) ∙ w)) ]

abbrev Grey : Scanning → Bool → ℕ → ℕ → ℕ → ℕ
Grey c white id start size = run_left (white || is_among id c.queue) (is_at 2 id c.cursor || is_at 4 id c.cursor) c.cursor start (size / 8)

kept_grey : (change : Tracked → Tracked) → KeepsPlaces change → (c : Scanning) (u : Tracked) → grey_left c (change u) ≤ grey_left c u
kept_grey change keeps c u =
    let k = keeps u in
    let v = change u in
    let same : Grey c (is_white_now (change u)) (change u).block.id (change u).block.start (change u).block.size ≡ Grey c (is_white_now (change u)) u.block.id u.block.start u.block.size
    = λ i. Grey c (is_white_now (change u)) (k.0 i) (k.1 i) (k.2 i) in
    let less = run_fewer (is_white_now u || is_among u.block.id c.queue) (is_at 2 u.block.id c.cursor || is_at 4 u.block.id c.cursor)
    (is_white_now v || is_among u.block.id c.queue) (is_at 2 u.block.id c.cursor || is_at 4 u.block.id c.cursor) c.cursor c.cursor u.block.start (u.block.size / 8)
    (λ h. elim (or_cases (is_white_now v) (is_among u.block.id c.queue) h) [
      | inl w ↦ subst (λ q. (q || is_among u.block.id c.queue) ≡ true) (sym (white_back u v k.3 w)) refl
      | inr a ↦ or_right (is_white_now u) (is_among u.block.id c.queue) a
    ]) (λ h. (h, refl)) in
    subst (λ n. n ≤ grey_left c u) (sym same) less

kept_sums : (change : Tracked → Tracked) → KeepsPlaces change → (k : Cursor) (u : Tracked) → sum_left k (change u) ≤ sum_left k u
kept_sums change keeps k u =
    let e = keeps u in
    let same : phase_left 3 k (change u).block.id (change u).block.start ((change u).block.size / 8) ≡ phase_left 3 k u.block.id u.block.start (u.block.size / 8)
    = λ i. phase_left 3 k (e.0 i) (e.1 i) (e.2 i / 8) in
    subst (λ n. n ≤ sum_left k u) (sym same) (omega arith)

-- the change of those that pass
abbrev change_of : (Live → Bool) → (Tracked → Tracked) → Live → Live
change_of test change l = if test l then record l { tracked = change l.tracked } else l

less_of : (f : Tracked → ℕ) (test : Live → Bool) (change : Tracked → Tracked) → ((u : Tracked) → f (change u) ≤ f u) → (l : Live) → f (change_of test change l).tracked ≤ f l.tracked
less_of f test change less l = elim (test l) as (λ b. f (if b then record l { tracked = change l.tracked } else l).tracked ≤ f l.tracked) [ true ↦ less l.tracked | false ↦ omega arith ]

total_changed : (f : Tracked → ℕ) (test : Live → Bool) (change : Tracked → Tracked) → ((u : Tracked) → f (change u) ≤ f u) → (ls : List Live)
    → total f (map (λ (l : Live). l.tracked) (map (change_of test change) ls)) ≤ total f (map (λ (l : Live). l.tracked) ls)
total_changed f test change less [] = omega arith
total_changed f test change less (l ∷ ls) =
    let here = less_of f test change less l in
    let rest = total_changed f test change less ls in
    omega (arith, here, rest)

same_of : (id : ℕ) (test : Live → Bool) (change : Tracked → Tracked) → KeepsPlaces change → (l : Live) → not ((change_of test change l).tracked.block.id == id) ≡ not (l.tracked.block.id == id)
same_of id test change keeps l =
    elim (test l) as (λ b. not ((if b then record l { tracked = change l.tracked } else l).tracked.block.id == id) ≡ not (l.tracked.block.id == id)) [ true ↦ ap (λ n. not (n == id)) (keeps l.tracked).0 | false ↦ refl ]

total_others : (f : Tracked → ℕ) (id : ℕ) (test : Live → Bool) (change : Tracked → Tracked) → KeepsPlaces change → ((u : Tracked) → f (change u) ≤ f u) → (ls : List Live)
    → total f (others id (map (λ (l : Live). l.tracked) (map (change_of test change) ls))) ≤ total f (others id (map (λ (l : Live). l.tracked) ls))
total_others f id test change keeps less [] = omega arith
total_others f id test change keeps less (l ∷ ls) =
    let here = less_of f test change less l in
    let rest = total_others f id test change keeps less ls in
    let us = map (λ (x : Live). x.tracked) (map (change_of test change) ls) in
    let ts = map (λ (x : Live). x.tracked) ls in
    let u = (change_of test change l).tracked in
    subst (λ b. total f (cond b (u ∷ others id us) (others id us)) ≤ total f (cond (not (l.tracked.block.id == id)) (l.tracked ∷ others id ts) (others id ts))) (sym (same_of id test change keeps l))
    (elim (not (l.tracked.block.id == id)) as (λ b. total f (cond b (u ∷ others id us) (others id us)) ≤ total f (cond b (l.tracked ∷ others id ts) (others id ts))) [ true ↦ omega (arith, here, rest) | false ↦ rest ])

scan_changed : (c : Scanning) (test : Live → Bool) (change : Tracked → Tracked) (t : Tracker) (tasks : List Task) → KeepsPlaces change → scan_left c (tracked_in (changed test change t)) tasks ≤ scan_left c (tracked_in t) tasks
scan_changed c test change t tasks keeps =
    fewer_left c c (tracked_in t) (tracked_in (changed test change t)) tasks (stays c.cursor)
    (total_changed (grey_left c) test change (kept_grey change keeps c) t.live, total_changed (sum_left c.cursor) test change (kept_sums change keeps c.cursor) t.live)

without_changed : (at : At) (c : Scanning) (test : Live → Bool) (change : Tracked → Tracked) (t : Tracker) (tasks : List Task) → KeepsPlaces change → left_without at c (tracked_in (changed test change t)) tasks ≤ left_without at c (tracked_in t) tasks
without_changed (Stack task word) c test change t tasks keeps = omega arith
without_changed (InBlock pass id word) c test change t tasks keeps =
    fewer_left c c (others id.generation (tracked_in t)) (others id.generation (tracked_in (changed test change t))) tasks (stays c.cursor)
    (total_others (grey_left c) id.generation test change keeps (kept_grey change keeps c) t.live, total_others (sum_left c.cursor) id.generation test change keeps (kept_sums change keeps c.cursor) t.live)

with_changed : (o : Option At) (c : Scanning) (test : Live → Bool) (change : Tracked → Tracked) (t : Tracker) (tasks : List Task) → KeepsPlaces change → left_with c o (tracked_in (changed test change t)) tasks ≤ left_with c o (tracked_in t) tasks
with_changed None c test change t tasks keeps = scan_changed c test change t tasks keeps
with_changed (Some at) c test change t tasks keeps =
    let there = scan_changed (loaded_at at c) test change t tasks keeps in
    let gone = without_changed at c test change t tasks keeps in
    omega (arith, there, gone)

pub changes : (s : Stand) (t : Tracker) (roll : Roll) (test : Live → Bool) (change : Tracked → Tracked) → KeepsPlaces change → scanner_left s (changed test change t) roll ≤ scanner_left s t roll
changes s t roll test change keeps = running s.sweep where
  running : (o : Option Sweep) → (elim o as (λ _. ℕ) [ None ↦ 0 | Some w ↦ sweep_left w (changed test change t) roll ]) ≤ (elim o as (λ _. ℕ) [ None ↦ 0 | Some w ↦ sweep_left w t roll ])
  running None = omega arith
  running (Some w) = with_changed w.ready (scanning_of t w) test change t roll.tasks keeps

-- no blocks at all
same_cursor : (c d : Scanning) → d.cursor ≡ c.cursor → Passes c.cursor d.cursor
same_cursor c d e = subst (Passes c.cursor) (sym e) (stays c.cursor)

with_dropped : (o : Option At) (c d : Scanning) (ts : List Tracked) (tasks : List Task) → d.cursor ≡ c.cursor → left_with d o [] tasks ≤ left_with c o ts tasks
with_dropped None c d ts tasks e = fewer_left c d ts [] tasks (same_cursor c d e) (omega arith, omega arith)
with_dropped (Some (Stack task word)) c d ts tasks e = omega arith
with_dropped (Some (InBlock pass id word)) c d ts tasks e =
    let gone = fewer_left c d (others id.generation ts) [] tasks (same_cursor c d e) (omega arith, omega arith) in
    omega (arith, gone)

pub drops : (s : Stand) (t dropped : Tracker) (roll : Roll) → dropped.live ≡ [] → scanner_left s dropped roll ≤ scanner_left s t roll
drops s t dropped roll e = running s.sweep where
  running : (o : Option Sweep) → (elim o as (λ _. ℕ) [ None ↦ 0 | Some w ↦ sweep_left w dropped roll ]) ≤ (elim o as (λ _. ℕ) [ None ↦ 0 | Some w ↦ sweep_left w t roll ])
  running None = omega arith
  running (Some w) =
      subst (λ ls. left_with (scanning_of dropped w) w.ready (map (λ (l : Live). l.tracked) ls) roll.tasks ≤ sweep_left w t roll) (sym e)
      (with_dropped w.ready (scanning_of t w) (scanning_of dropped w) (tracked_in t) roll.tasks refl)

-- fewer stacks
abbrev FewerStacks : List Task → List Task → Type 0
FewerStacks tasks less = (k : Cursor) → total (stack_left k) less ≤ total (stack_left k) tasks

without_stacks : (at : At) (c : Scanning) (ts : List Tracked) (tasks less : List Task) → FewerStacks tasks less → left_without at c ts less ≤ left_without at c ts tasks
without_stacks (Stack task word) c ts tasks less f = omega arith
without_stacks (InBlock pass id word) c ts tasks less f = let stacks = f c.cursor in omega (arith, stacks)

with_stacks : (o : Option At) (c : Scanning) (ts : List Tracked) (tasks less : List Task) → FewerStacks tasks less → left_with c o ts less ≤ left_with c o ts tasks
with_stacks None c ts tasks less f = let stacks = f c.cursor in omega (arith, stacks)
with_stacks (Some at) c ts tasks less f =
    let there : scan_left (loaded_at at c) ts less ≤ scan_left (loaded_at at c) ts tasks = (let stacks = f (loaded_at at c).cursor in omega (arith, stacks)) in
    let gone = without_stacks at c ts tasks less f in
    omega (arith, there, gone)

fewer_stacks : (s : Stand) (t : Tracker) (roll now : Roll) → FewerStacks roll.tasks now.tasks → scanner_left s t now ≤ scanner_left s t roll
fewer_stacks s t roll now f = running s.sweep where
  running : (o : Option Sweep) → (elim o as (λ _. ℕ) [ None ↦ 0 | Some w ↦ sweep_left w t now ]) ≤ (elim o as (λ _. ℕ) [ None ↦ 0 | Some w ↦ sweep_left w t roll ])
  running None = omega arith
  running (Some w) = with_stacks w.ready (scanning_of t w) (tracked_in t) roll.tasks now.tasks f

pub exits : (s : Stand) (t : Tracker) (roll : Roll) (name : List ℕ) → scanner_left s t (without roll name) ≤ scanner_left s t roll
exits s t roll name = fewer_stacks s t roll (without roll name) (λ k. total_filter (stack_left k) (λ (u : Task). not (bytes_eq u.name name)) roll.tasks)

pub sets : (s : Stand) (t : Tracker) (roll : Roll) (name : List ℕ) (reg : Reg) (value : ℕ) → scanner_left s t (with_value roll name reg value) ≤ scanner_left s t roll
sets s t roll name reg value =
    fewer_stacks s t roll (with_value roll name reg value) (λ k.
    total_map_le (stack_left k) (λ (u : Task). if bytes_eq u.name name then record u { registers = slice_set u.registers (place_of reg) value } else u)
    (λ u. elim (bytes_eq u.name name) as (λ q. stack_left k (if q then record u { registers = slice_set u.registers (place_of reg) value } else u) ≤ stack_left k u) [ true ↦ omega arith | false ↦ omega arith ]) roll.tasks)
