-- What moves leave.
use Rattle.std.proofs.Common.{◌≡◌, ℕ, suc, ◌+◌, ◌/◌, ◌≤◌, Bool, true, false, ◌||◌, List, ◌∷◌, refl, sym, subst, arith, inl, inr}
use Rattle.std.proofs.lemmas.Bool.{or_cases, or_right}
use Rattle.km_model.specs.Blocks.{is_among}
use Rattle.km_model.specs.Tasks.{Task}
use Rattle.km_model.proofs.Cases.{elim_false}
use Rattle.km_model.proofs.Lists.{among_in, in_among, not_among}
use Rattle.km_state.specs.State.{Tracked, Cursor, Behind, Scanning, is_white_now}
use Rattle.km_state.specs.StateNext.{phase_at, is_at}
use Rattle.km_laws.specs.Left.{total}
use Rattle.km_laws.proofs.Lists.{In, total_le_in, total_falls_in}
use Rattle.km_left.specs.LeftIn.{word_at, run_left, is_ahead, phase_left, stack_left, sum_left, grey_left, scan_left}
use Rattle.km_left.specs.Laws.{AllMovesLowerIn}
use Rattle.km_left.proofs.Runs.{run_most, ahead_low, ahead_more, later_ahead, behind_passed, Numbered, runs_left}
use Rattle.km_left.proofs.Loads.{blocks_numbered, stacks_numbered}

-- another cursor comes to no more, and goes on with nothing else
pub record Passes (c d : Cursor) : Type 0 where
  pub phase : phase_at c ≤ phase_at d
  pub ahead : (q n : ℕ) → is_ahead q n d ≡ true → is_ahead q n c ≡ true
  pub held : (q n : ℕ) → is_at q n d ≡ true → (is_at q n c ≡ true) × (word_at d ≡ word_at c)

pub stays : (c : Cursor) → Passes c c
stays c = record { phase = omega arith; ahead = λ q n h. h; held = λ q n h. (h, refl) }

pub passes_behind : (q n : ℕ) (c : Cursor) → phase_at c ≤ q → is_ahead q n c ≡ true → Passes c (Behind q n)
passes_behind q n c le on = record {
  phase = le;
  ahead = λ p m h. elim (later_ahead p m q n h) [
    | inl lt ↦ ahead_low p m c (omega (arith, le, lt))
    | inr k ↦ let lt = k.1 in subst (λ x. is_ahead x m c ≡ true) k.0 (ahead_more q n m c (omega (arith, lt)) on)
  ];
  held = λ p m h. absurd (elim_false h);
}

pub run_fewer : (ahead held ahead' held' : Bool) (c d : Cursor) (start words : ℕ) → (ahead' ≡ true → ahead ≡ true) → (held' ≡ true → (held ≡ true) × (word_at d ≡ word_at c))
    → run_left ahead' held' d start words ≤ run_left ahead held c start words
run_fewer ahead held true held' c d start words f g = subst (λ q. suc words ≤ run_left q held c start words) (sym (f refl)) (omega arith)
run_fewer ahead held false false c d start words f g = omega arith
run_fewer true held false true c d start words f g = run_most false true d start words
run_fewer false held false true c d start words f g =
    let k = g refl in
    subst (λ q. run_left false true d start words ≤ run_left false q c start words) (sym k.0) (let same = k.1 in omega (arith, same))

pub phase_fewer : (q number start words : ℕ) (c d : Cursor) → Passes c d → phase_left q d number start words ≤ phase_left q c number start words
phase_fewer q number start words c d p =
    run_fewer (is_ahead q number c) (is_at q number c) (is_ahead q number d) (is_at q number d) c d start words (p.ahead q number) (p.held q number)

pub grey_fewer : (c d : Scanning) (t : Tracked) → Passes c.cursor d.cursor → (In t.block.id d.queue → In t.block.id c.queue) → grey_left d t ≤ grey_left c t
grey_fewer c d t p f =
    run_fewer (is_white_now t || is_among t.block.id c.queue) (is_at 2 t.block.id c.cursor || is_at 4 t.block.id c.cursor)
    (is_white_now t || is_among t.block.id d.queue) (is_at 2 t.block.id d.cursor || is_at 4 t.block.id d.cursor) c.cursor d.cursor t.block.start (t.block.size / 8)
    (λ h. elim (or_cases (is_white_now t) (is_among t.block.id d.queue) h) [
      | inl w ↦ subst (λ q. (q || is_among t.block.id c.queue) ≡ true) (sym w) refl
      | inr a ↦ or_right (is_white_now t) (is_among t.block.id c.queue) (in_among t.block.id c.queue (f (among_in t.block.id d.queue a)))
    ])
    (λ h. elim (or_cases (is_at 2 t.block.id d.cursor) (is_at 4 t.block.id d.cursor) h) [
      | inl two ↦ let k = p.held 2 t.block.id two in (subst (λ q. (q || is_at 4 t.block.id c.cursor) ≡ true) (sym k.0) refl, k.1)
      | inr four ↦ let k = p.held 4 t.block.id four in (or_right (is_at 2 t.block.id c.cursor) (is_at 4 t.block.id c.cursor) k.0, k.1)
    ])

abbrev pub Fewer : Scanning → Scanning → List Tracked → Type 0
Fewer c d ts = (t : Tracked) → In t ts → In t.block.id d.queue → In t.block.id c.queue

greys_fewer : (c d : Scanning) (ts : List Tracked) → Passes c.cursor d.cursor → Fewer c d ts → total (grey_left d) ts ≤ total (grey_left c) ts
greys_fewer c d ts p f = total_le_in (grey_left d) (grey_left c) ts (λ t i. grey_fewer c d t p (f t i))

sums_fewer : (c d : Cursor) (ts : List Tracked) → Passes c d → total (sum_left d) ts ≤ total (sum_left c) ts
sums_fewer c d ts p = total_le_in (sum_left d) (sum_left c) ts (λ t i. phase_fewer 3 t.block.id t.block.start (t.block.size / 8) c d p)

pub stacks_fewer : (c d : Cursor) (tasks : List Task) → Passes c d → total (stack_left d) tasks ≤ total (stack_left c) tasks
stacks_fewer c d tasks p = total_le_in (stack_left d) (stack_left c) tasks (λ t i. phase_fewer 1 t.number t.stack 512 c d p)

-- what is left there
pub left_fewer : (c d : Scanning) (ts : List Tracked) (tasks : List Task) → Passes c.cursor d.cursor → Fewer c d ts → scan_left d ts tasks ≤ scan_left c ts tasks
left_fewer c d ts tasks p f =
    let grey = greys_fewer c d ts p f in
    let sums = sums_fewer c.cursor d.cursor ts p in
    let stacks = stacks_fewer c.cursor d.cursor tasks p in
    let le = p.phase in
    omega (arith, grey, sums, stacks, le)

-- a run is passed
runs_pass : {X : Type 0} (n : Numbered X) (xs : List X) (q : ℕ) (c : Cursor) (x : X) → phase_at c ≤ q → is_ahead q (n.number x) c ≡ true → In x xs
    → runs_left n q (Behind q (n.number x)) xs + 1 ≤ runs_left n q c xs
runs_pass {X} n xs q c x le on i =
    let d = Behind q (n.number x) in
    total_falls_in (λ y. phase_left q (Behind q (n.number x)) (n.number y) (n.start y) (n.words y)) (λ y. phase_left q c (n.number y) (n.start y) (n.words y)) 1 xs
    (λ y j. phase_fewer q (n.number y) (n.start y) (n.words y) c d (passes_behind q (n.number x) c le on)) x i
    (subst (λ r. run_left r false (Behind q (n.number x)) (n.start x) (n.words x) + 1 ≤ phase_left q c (n.number x) (n.start x) (n.words x)) (sym (behind_passed q (n.number x)))
    (subst (λ r. 1 ≤ run_left r (is_at q (n.number x) c) c (n.start x) (n.words x)) (sym on) (omega arith)))

pub all_moves_lower_in : AllMovesLowerIn
all_moves_lower_in c ts tasks = record {
  pop = λ t queue i grey out two four.
      let before = record c { queue = t.block.id ∷ queue } in
      let after = record c { queue = queue } in
      let on : (is_white_now t || is_among t.block.id (t.block.id ∷ queue)) ≡ true = or_right (is_white_now t) (is_among t.block.id (t.block.id ∷ queue)) (in_among t.block.id (t.block.id ∷ queue) (inl refl)) in
      let had : 1 ≤ grey_left (record c { queue = t.block.id ∷ queue }) t =
      subst (λ q. 1 ≤ run_left q (is_at 2 t.block.id c.cursor || is_at 4 t.block.id c.cursor) c.cursor t.block.start (t.block.size / 8)) (sym on) (omega arith) in
      let none : grey_left (record c { queue = queue }) t ≡ 0 = rw (grey, not_among t.block.id queue out, two, four) refl in
      let falls = total_falls_in (grey_left (record c { queue = queue })) (grey_left (record c { queue = t.block.id ∷ queue })) 1 ts
      (λ u j. grey_fewer before after u (stays c.cursor) (λ k. inr k)) t i (omega (arith, had, none)) in
      omega (arith, falls);
  skip = λ queue fewer f. left_fewer (record c { queue = queue }) (record c { queue = fewer }) ts tasks (stays c.cursor) f;
  pass_stack = λ t i le on.
      let d = record c { cursor = Behind 1 t.number } in
      let p = passes_behind 1 t.number c.cursor le on in
      let grey = greys_fewer c (record c { cursor = Behind 1 t.number }) ts p (λ u j k. k) in
      let sums = sums_fewer c.cursor (Behind 1 t.number) ts p in
      let falls : total (stack_left (Behind 1 t.number)) tasks + 1 ≤ total (stack_left c.cursor) tasks = runs_pass stacks_numbered tasks 1 c.cursor t le on i in
      omega (arith, grey, sums, falls, le);
  pass_block = λ t i le on.
      let p = passes_behind 3 t.block.id c.cursor le on in
      let grey = greys_fewer c (record c { cursor = Behind 3 t.block.id }) ts p (λ u j k. k) in
      let stacks = stacks_fewer c.cursor (Behind 3 t.block.id) tasks p in
      let falls : total (sum_left (Behind 3 t.block.id)) ts + 1 ≤ total (sum_left c.cursor) ts = runs_pass blocks_numbered ts 3 c.cursor t le on i in
      omega (arith, grey, stacks, falls, le);
  to_phase = λ phase id lt most.
      let p = passes_behind phase id c.cursor (omega (arith, lt)) (ahead_low phase id c.cursor lt) in
      let grey = greys_fewer c (record c { cursor = Behind phase id }) ts p (λ u j k. k) in
      let sums = sums_fewer c.cursor (Behind phase id) ts p in
      let stacks = stacks_fewer c.cursor (Behind phase id) tasks p in
      omega (arith, grey, sums, stacks, lt, most);
}
