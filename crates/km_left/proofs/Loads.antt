-- A load of the scan lowers what is left, by what is known of where it is made.
use Rattle.std.proofs.Common.{◌≡◌, ℕ, ◌+◌, ◌/◌, ◌≤◌, Bool, true, false, ◌||◌, ◌==◌, nat_le, nat_lt, List, [], ◌∷◌, map, Option, Some, None, if◌then◌else◌, refl, sym, ap, subst, arith, ◌⊎◌, inl, inr, ltb-true, lt-ltb}
use Rattle.std.proofs.lemmas.Bool.{or_cases, or_right}
use Rattle.km_model.specs.Blocks.{Minimum, Black, AtLeast, option_is, is_among}
use Rattle.km_model.specs.Tasks.{Task}
use Rattle.km_model.specs.Past.{Place, ScanLoad}
use Rattle.km_model.specs.Scan.{behind}
use Rattle.km_model.proofs.Lists.{among_in, in_among}
use Rattle.km_state.specs.State.{Tracked, Last, Scanning, is_white_now}
use Rattle.km_state.specs.StateNext.{phase_at, is_at, told, queue_at, with_last, scan_told}
use Rattle.km_laws.specs.Left.{total}
use Rattle.km_laws.proofs.Lists.{In, in_push_cases, total_le_in, total_falls_in}
use Rattle.km_laws.proofs.Queues.{in_behind}
use Rattle.km_left.specs.LeftIn.{run_left, stack_left, sum_left, grey_left, scan_left}
use Rattle.km_left.proofs.Runs.{Numbered, runs_less, runs_fall, run_less, run_falls, Comes, ComesTo, IsWordIn, at_parts, at_from}

-- the blocks and the stacks as runs of words
abbrev pub blocks_numbered : Numbered Tracked
blocks_numbered = record { number = λ t. t.block.id; start = λ t. t.block.start; words = λ t. t.block.size / 8 }

abbrev pub stacks_numbered : Numbered Task
stacks_numbered = record { number = λ t. t.number; start = λ t. t.stack; words = λ t. 512 }

-- whether a place is in a grey pass
abbrev pub IsGrey : Place → Type 0
IsGrey place = (place.phase ≡ 2) ⊎ (place.phase ≡ 4)

-- a place of a grey pass
abbrev pub ComesGrey : Scanning → Place → ℕ → Type 0
ComesGrey c place d = Comes (is_among place.holder c.queue) (is_at place.phase place.holder c.cursor) c.cursor place d

-- the holder is one of these
abbrev pub Holds : {X : Type 0} → Numbered X → List X → Place → Type 0
Holds {X} n xs place = IsWordIn n xs place × (x : X) × In x xs × (n.number x ≡ place.holder)

-- where the load is made
abbrev pub Way : Scanning → List Tracked → List Task → Place → ℕ → Type 0
Way c ts tasks place d =
    ((place.phase ≡ 1) × ComesTo 1 c.cursor place d × Holds stacks_numbered tasks place)
    ⊎ (((place.phase ≡ 3) × ComesTo 3 c.cursor place d × Holds blocks_numbered ts place)
    ⊎ (IsGrey place × ComesGrey c place d × Holds blocks_numbered ts place))

-- what is known of a load: the scan never goes back, what it makes ripe was white, and the holder of a grey pass
-- is neither white nor queued after it
pub record FitsLoad (c : Scanning) (ts : List Tracked) (tasks : List Task) (l : ScanLoad) (sum d : ℕ) : Type 0 where
  pub phase : phase_at c.cursor ≤ l.place.phase
  pub way : Way c ts tasks l.place d
  pub ripe : (t : Tracked) → In t ts → l.ripe ≡ Some t.block.id → is_white_now t ≡ true
  pub held : (t : Tracked) → In t ts → (is_at 2 t.block.id (Last l.place) || is_at 4 t.block.id (Last l.place)) ≡ true
      → (is_white_now (told l sum t) || is_among t.block.id (with_last (queue_at c l.place) l.ripe)) ≡ false

-- no load makes a block white
abbrev pub WhiteBy : Minimum → ℕ → Bool
WhiteBy m count = elim m [ Black ↦ false | AtLeast n ↦ nat_lt count n ]

white_by_less : (m : Minimum) (count : ℕ) (changed hit : Bool)
    → WhiteBy m (if changed then (elim m as (λ _. ℕ) [ Black ↦ 0 | AtLeast n ↦ n ]) else (if hit then count + 1 else count)) ≡ true → WhiteBy m count ≡ true
white_by_less Black count changed hit w = w
white_by_less (AtLeast n) count true hit w = absurd (let lt = ltb-true n n w in omega (arith, lt))
white_by_less (AtLeast n) count false true w = lt-ltb count n (let lt = ltb-true (count + 1) n w in omega (arith, lt))
white_by_less (AtLeast n) count false false w = w

pub white_told : (l : ScanLoad) (sum : ℕ) (t : Tracked) → is_white_now (told l sum t) ≡ true → is_white_now t ≡ true
white_told l sum t w = white_by_less t.block.minimum t.count (option_is l.changed t.block.id) (option_is l.hit t.block.id) w

-- a load takes entries out of the queue, and puts in what it makes ripe
in_if : (q : Bool) (x : ℕ) (xs ys zs : List ℕ) → (In x xs → In x zs) → (In x ys → In x zs) → In x (if q then xs else ys) → In x zs
in_if true x xs ys zs f g i = f i
in_if false x xs ys zs f g i = g i

pub in_rest : (c : Scanning) (place : Place) (x : ℕ) → In x (queue_at c place) → In x c.queue
in_rest c place x i =
    in_if (place.phase == 1) x c.queue _ c.queue (λ j. j)
    (in_if (place.phase == 3) x (if nat_le (phase_at c.cursor) 2 then [] else c.queue) _ c.queue
    (in_if (nat_le (phase_at c.cursor) 2) x [] c.queue c.queue (λ j. absurd j) (λ j. j))
    (in_if (is_at place.phase place.holder c.cursor) x c.queue (behind place.holder c.queue) c.queue (λ j. j) (in_behind place.holder x c.queue))) i

pub in_with_last : (ns : List ℕ) (o : Option ℕ) (x : ℕ) → In x (with_last ns o) → In x ns ⊎ (o ≡ Some x)
in_with_last ns None x i = inl i
in_with_last ns (Some n) x i = elim (in_push_cases ns x n i) [ inl j ↦ inl j | inr same ↦ inr (ap Some (sym same)) ]

awaited : (c : Scanning) (ts : List Tracked) (tasks : List Task) (l : ScanLoad) (sum d : ℕ) → FitsLoad c ts tasks l sum d → (t : Tracked) → In t ts
    → (is_white_now (told l sum t) || is_among t.block.id (with_last (queue_at c l.place) l.ripe)) ≡ true → (is_white_now t || is_among t.block.id c.queue) ≡ true
awaited c ts tasks l sum d f t i h =
    elim (or_cases (is_white_now (told l sum t)) (is_among t.block.id (with_last (queue_at c l.place) l.ripe)) h) [
      | inl w ↦ if_white (white_told l sum t w)
      | inr a ↦ elim (in_with_last (queue_at c l.place) l.ripe t.block.id (among_in t.block.id (with_last (queue_at c l.place) l.ripe) a)) [
        | inl j ↦ or_right (is_white_now t) (is_among t.block.id c.queue) (in_among t.block.id c.queue (in_rest c l.place t.block.id j))
        | inr r ↦ if_white (f.ripe t i r)
      ]
    ] where
      if_white : is_white_now t ≡ true → (is_white_now t || is_among t.block.id c.queue) ≡ true
      if_white e = subst (λ q. (q || is_among t.block.id c.queue) ≡ true) (sym e) refl

-- the holder of a grey pass
pub holder_of : (place : Place) (n : ℕ) → (is_at 2 n (Last place) || is_at 4 n (Last place)) ≡ true → IsGrey place × (place.holder ≡ n)
holder_of place n h =
    elim (or_cases (is_at 2 n (Last place)) (is_at 4 n (Last place)) h) [
      | inl two ↦ let k = at_parts 2 n place two in (inl k.0, k.1)
      | inr four ↦ let k = at_parts 4 n place four in (inr k.0, k.1)
    ]

either_at : (n : ℕ) (place : Place) (at : ℕ → Bool) → IsGrey place → at place.phase ≡ true → (at 2 || at 4) ≡ true
either_at n place at (inl two) h = subst (λ q. (q || at 4) ≡ true) (sym (subst (λ p. at p ≡ true) two h)) refl
either_at n place at (inr four) h = or_right (at 2) (at 4) (subst (λ p. at p ≡ true) four h)

comes_grey : (c : Scanning) (place : Place) (t : Tracked) (d : ℕ) → IsGrey place → place.holder ≡ t.block.id → ComesGrey c place d
    → Comes (is_white_now t || is_among t.block.id c.queue) (is_at 2 t.block.id c.cursor || is_at 4 t.block.id c.cursor) c.cursor place d
comes_grey c place t d grey same (inl k) = inl (or_right (is_white_now t) (is_among t.block.id c.queue) (subst (λ n. is_among n c.queue ≡ true) same k.0), k.1)
comes_grey c place t d grey same (inr k) =
    inr (either_at t.block.id place (λ p. is_at p t.block.id c.cursor) grey (subst (λ n. is_at place.phase n c.cursor ≡ true) same k.0), k.1, k.2)

pub total_of_map : {X Y : Type 0} (f : Y → ℕ) (g : X → Y) (xs : List X) → total f (map g xs) ≡ total (λ x. f (g x)) xs
total_of_map f g [] = refl
total_of_map f g (x ∷ xs) = omega (arith, total_of_map f g xs)

-- no load raises what the grey passes have left
abbrev MayBeGrey : Scanning → List Tracked → Place → ℕ → Type 0
MayBeGrey c ts place d = IsGrey place → ComesGrey c place d × IsWordIn blocks_numbered ts place

grey_one : (c : Scanning) (ts : List Tracked) (tasks : List Task) (l : ScanLoad) (sum d : ℕ) → FitsLoad c ts tasks l sum d → MayBeGrey c ts l.place d → (t : Tracked) → In t ts
    → grey_left (scan_told c l) (told l sum t) ≤ grey_left c t
grey_one c ts tasks l sum d f may t i =
    run_less (is_white_now t || is_among t.block.id c.queue) (is_at 2 t.block.id c.cursor || is_at 4 t.block.id c.cursor)
    (is_white_now (told l sum t) || is_among t.block.id (with_last (queue_at c l.place) l.ripe)) (is_at 2 t.block.id (Last l.place) || is_at 4 t.block.id (Last l.place))
    c.cursor l.place t.block.start (t.block.size / 8) d (awaited c ts tasks l sum d f t i)
    (λ h. let k = holder_of l.place t.block.id h in let w = may k.0 in
    (w.1 t i (sym k.1), comes_grey c l.place t d k.0 k.1 w.0))

grey_less : (c : Scanning) (ts : List Tracked) (tasks : List Task) (l : ScanLoad) (sum d : ℕ) → FitsLoad c ts tasks l sum d → MayBeGrey c ts l.place d
    → total (grey_left (scan_told c l)) (map (told l sum) ts) ≤ total (grey_left c) ts
grey_less c ts tasks l sum d f may =
    let e = total_of_map (grey_left (scan_told c l)) (told l sum) ts in
    let k = total_le_in (λ t. grey_left (scan_told c l) (told l sum t)) (grey_left c) ts (grey_one c ts tasks l sum d f may) in
    omega (arith, e, k)

grey_falls : (c : Scanning) (ts : List Tracked) (tasks : List Task) (l : ScanLoad) (sum d : ℕ) → FitsLoad c ts tasks l sum d → IsGrey l.place → ComesGrey c l.place d
    → Holds blocks_numbered ts l.place → total (grey_left (scan_told c l)) (map (told l sum) ts) + d ≤ total (grey_left c) ts
grey_falls c ts tasks l sum d f grey comes holds =
    let t = holds.1 in
    let held = either_at t.block.id l.place (λ p. is_at p t.block.id (Last l.place)) grey (at_from l.place.phase t.block.id l.place refl (sym holds.3)) in
    let e = total_of_map (grey_left (scan_told c l)) (told l sum) ts in
    let k = total_falls_in (λ t. grey_left (scan_told c l) (told l sum t)) (grey_left c) d ts (grey_one c ts tasks l sum d f (λ _. (comes, holds.0))) t holds.2
    (subst (λ q. run_left q (is_at 2 t.block.id (Last l.place) || is_at 4 t.block.id (Last l.place)) (Last l.place) t.block.start (t.block.size / 8) + d ≤ grey_left c t)
    (sym (f.held t holds.2 held))
    (run_falls (is_white_now t || is_among t.block.id c.queue) (is_at 2 t.block.id c.cursor || is_at 4 t.block.id c.cursor) (is_at 2 t.block.id (Last l.place) || is_at 4 t.block.id (Last l.place))
    c.cursor l.place t.block.start (t.block.size / 8) d (holds.0 t holds.2 holds.3) (comes_grey c l.place t d grey (sym holds.3) comes))) in
    omega (arith, e, k)

-- a load lowers what is left
pub load_lowers : (c : Scanning) (ts : List Tracked) (tasks : List Task) (l : ScanLoad) (sum d : ℕ) → FitsLoad c ts tasks l sum d
    → scan_left (scan_told c l) (map (told l sum) ts) tasks + d ≤ scan_left c ts tasks
load_lowers c ts tasks l sum d f =
    let le = f.phase in
    let same = total_of_map (sum_left (Last l.place)) (told l sum) ts in
    elim f.way [
      | inl k ↦
          let one = k.0 in
          let grey = grey_less c ts tasks l sum d f (λ g. absurd (elim g [ inl two ↦ omega (arith, one, two) | inr four ↦ omega (arith, one, four) ])) in
          let sums : total (sum_left (Last l.place)) ts ≤ total (sum_left c.cursor) ts = runs_less blocks_numbered ts 3 d c.cursor l.place le (λ three. absurd (omega (arith, one, three))) in
          let stacks : total (stack_left (Last l.place)) tasks + d ≤ total (stack_left c.cursor) tasks = runs_fall stacks_numbered tasks 1 d c.cursor l.place le one k.1 k.2.0 k.2.1 k.2.2 k.2.3 in
          omega (arith, le, same, grey, sums, stacks)
      | inr (inl k) ↦
          let three = k.0 in
          let grey = grey_less c ts tasks l sum d f (λ g. absurd (elim g [ inl two ↦ omega (arith, three, two) | inr four ↦ omega (arith, three, four) ])) in
          let sums : total (sum_left (Last l.place)) ts + d ≤ total (sum_left c.cursor) ts = runs_fall blocks_numbered ts 3 d c.cursor l.place le three k.1 k.2.0 k.2.1 k.2.2 k.2.3 in
          let stacks : total (stack_left (Last l.place)) tasks ≤ total (stack_left c.cursor) tasks = runs_less stacks_numbered tasks 1 d c.cursor l.place le (λ one. absurd (omega (arith, one, three))) in
          omega (arith, le, same, grey, sums, stacks)
      | inr (inr k) ↦
          let grey = grey_falls c ts tasks l sum d f k.0 k.1 k.2 in
          let sums : total (sum_left (Last l.place)) ts ≤ total (sum_left c.cursor) ts = runs_less blocks_numbered ts 3 d c.cursor l.place le (λ three. absurd (elim k.0 [ inl two ↦ omega (arith, three, two) | inr four ↦ omega (arith, three, four) ])) in
          let stacks : total (stack_left (Last l.place)) tasks ≤ total (stack_left c.cursor) tasks = runs_less stacks_numbered tasks 1 d c.cursor l.place le (λ one. absurd (elim k.0 [ inl two ↦ omega (arith, one, two) | inr four ↦ omega (arith, one, four) ])) in
          omega (arith, le, same, grey, sums, stacks)
    ]
