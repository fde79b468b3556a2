-- A scan comes to a place: that lowers what it has left.
use Rattle.std.proofs.Common.{◌≡◌, ℕ, ◌+◌, ◌/◌, ◌≤◌, true, false, ◌||◌, List, map, Some, None, refl, sym, subst, arith, inl, inr}
use Rattle.std.proofs.lemmas.Bool.{or_cases, or_right}
use Rattle.km_model.specs.Blocks.{is_among}
use Rattle.km_model.specs.Tasks.{Task}
use Rattle.km_model.specs.Past.{Place, ScanLoad}
use Rattle.km_model.proofs.Cases.{none_some}
use Rattle.km_model.proofs.Lists.{among_in, in_among}
use Rattle.km_state.specs.State.{Last, Scanning, Tracked, is_white_now}
use Rattle.km_state.specs.StateNext.{is_at, phase_at, queue_at, scan_told, told, with_last}
use Rattle.km_laws.specs.Left.{total}
use Rattle.km_laws.proofs.Lists.{In, total_le_in}
use Rattle.km_left.specs.LeftIn.{grey_left, scan_left, sum_left}
use Rattle.km_left.proofs.Moves.{run_fewer}
use Rattle.km_left.proofs.Loads.{Way, in_with_last, load_lowers, total_of_map, white_told}

-- a load that refers to nothing
abbrev quiet : Place → ScanLoad
quiet p = record { place = p; value = 0; hit = None; changed = None; ripe = None }

-- the holder of a grey pass is neither white nor queued
abbrev pub IsHeld : List Tracked → Place → List ℕ → Type 0
IsHeld ts p queue = (u : Tracked) → In u ts → (is_at 2 u.block.id (Last p) || is_at 4 u.block.id (Last p)) ≡ true → (is_white_now u || is_among u.block.id queue) ≡ false

-- the scan at a place
abbrev pub scan_at : Place → Scanning → Scanning
scan_at p c = record { queue = queue_at c p; cursor = Last p; sum = c.sum }

pub comes_to : (c : Scanning) (ts : List Tracked) (tasks : List Task) (p : Place) (d : ℕ) → phase_at c.cursor ≤ p.phase → Way c ts tasks p d → IsHeld ts p (queue_at c p)
    → scan_left (scan_at p c) ts tasks + d ≤ scan_left c ts tasks
comes_to c ts tasks p d le way held =
    let k = load_lowers c ts tasks (quiet p) 0 d (record { phase = le; way = way; ripe = λ u i e. absurd (none_some u.block.id e); held = held }) in
    let grey : total (grey_left (scan_told c (quiet p))) (map (told (quiet p) 0) ts) ≡ total (grey_left (scan_at p c)) ts = total_of_map (grey_left (scan_told c (quiet p))) (told (quiet p) 0) ts in
    let sums : total (sum_left (Last p)) (map (told (quiet p) 0) ts) ≡ total (sum_left (Last p)) ts = total_of_map (sum_left (Last p)) (told (quiet p) 0) ts in
    omega (arith, k, grey, sums)

-- what a load tells raises nothing
told_one : (c : Scanning) (l : ScanLoad) (sum : ℕ) (u : Tracked) → (l.ripe ≡ Some u.block.id → is_white_now u ≡ true) → grey_left (record c { queue = with_last c.queue l.ripe }) (told l sum u) ≤ grey_left c u
told_one c l sum u ripe =
    run_fewer (is_white_now u || is_among u.block.id c.queue) (is_at 2 u.block.id c.cursor || is_at 4 u.block.id c.cursor)
    (is_white_now (told l sum u) || is_among u.block.id (with_last c.queue l.ripe)) (is_at 2 u.block.id c.cursor || is_at 4 u.block.id c.cursor)
    c.cursor c.cursor u.block.start (u.block.size / 8)
    (λ h. elim (or_cases (is_white_now (told l sum u)) (is_among u.block.id (with_last c.queue l.ripe)) h) [
      | inl w ↦ if_white (white_told l sum u w)
      | inr a ↦ elim (in_with_last c.queue l.ripe u.block.id (among_in u.block.id (with_last c.queue l.ripe) a)) [
        | inl j ↦ or_right (is_white_now u) (is_among u.block.id c.queue) (in_among u.block.id c.queue j)
        | inr r ↦ if_white (ripe r)
      ]
    ])
    (λ h. (h, refl)) where
      if_white : is_white_now u ≡ true → (is_white_now u || is_among u.block.id c.queue) ≡ true
      if_white e = subst (λ q. (q || is_among u.block.id c.queue) ≡ true) (sym e) refl

pub told_less : (c : Scanning) (ts : List Tracked) (tasks : List Task) (l : ScanLoad) (sum : ℕ) → ((u : Tracked) → In u ts → l.ripe ≡ Some u.block.id → is_white_now u ≡ true)
    → scan_left (record c { queue = with_last c.queue l.ripe }) (map (told l sum) ts) tasks ≤ scan_left c ts tasks
told_less c ts tasks l sum ripe =
    let grey = total_of_map (grey_left (record c { queue = with_last c.queue l.ripe })) (told l sum) ts in
    let less = total_le_in (λ u. grey_left (record c { queue = with_last c.queue l.ripe }) (told l sum u)) (grey_left c) ts (λ u i. told_one c l sum u (ripe u i)) in
    let sums : total (sum_left c.cursor) (map (told l sum) ts) ≡ total (sum_left c.cursor) ts = total_of_map (sum_left c.cursor) (told l sum) ts in
    omega (arith, grey, less, sums)
