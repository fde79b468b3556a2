-- What is left without a block.
use Rattle.std.proofs.Common.{◌≡◌, ℕ, ◌+◌, ◌/◌, ◌≤◌, Bool, true, false, ◌||◌, not, ◌==◌, cond, List, [], ◌∷◌, filter, refl, sym, ap, ◌∙◌, subst, arith, inl, inr, eq-eqb}
use Rattle.std.proofs.lemmas.Bool.{or_right}
use Rattle.km_model.specs.Blocks.{is_among}
use Rattle.km_model.specs.Tasks.{Task}
use Rattle.km_state.specs.State.{Scanning, Tracked, is_white_now}
use Rattle.km_state.specs.StateNext.{is_at}
use Rattle.km_laws.specs.Left.{total}
use Rattle.km_laws.proofs.Lists.{In, total_filter, total_le_in}
use Rattle.km_left.specs.LeftIn.{grey_left, is_ahead, run_left, scan_left, sum_left}
use Rattle.km_left.proofs.Moves.{Fewer, grey_fewer, stays}
use Rattle.km_scan_left.specs.Left.{others}

-- a member is left out, and no other rises
dropped : {X : Type 0} (f g : X → ℕ) (test : X → Bool) (xs : List X) (x : X) → In x xs → test x ≡ false → ((y : X) → In y xs → f y ≤ g y) → total f (filter test xs) + g x ≤ total g xs
dropped f g test [] x i e le = absurd i
dropped f g test (y ∷ ys) x (inl same) e le =
    let less = total_filter f test ys in
    let most = total_le_in f g ys (λ z j. le z (inr j)) in
    let it : g x ≡ g y = ap g same in
    rw (ap test (sym same) ∙ e) (omega (arith, less, most, it))
dropped f g test (y ∷ ys) x (inr i) e le =
    let rest = dropped f g test ys x i e (λ z j. le z (inr j)) in
    let here = le y (inl refl) in
    elim (test y) as (λ q. total f (cond q (y ∷ filter test ys) (filter test ys)) + g x ≤ g y + total g ys) [ true ↦ omega (arith, rest, here) | false ↦ omega (arith, rest) ]

-- something is left of a block to which a scan still comes
abbrev pub IsLeft : Scanning → Tracked → Type 0
IsLeft c u = 1 ≤ grey_left c u + sum_left c.cursor u

pub queued_left : (c : Scanning) (u : Tracked) → is_among u.block.id c.queue ≡ true → IsLeft c u
queued_left c u e =
    let one : 1 ≤ grey_left c u = subst (λ q. 1 ≤ run_left q (is_at 2 u.block.id c.cursor || is_at 4 u.block.id c.cursor) c.cursor u.block.start (u.block.size / 8))
    (sym (or_right (is_white_now u) (is_among u.block.id c.queue) e)) (omega arith) in
    omega (arith, one)

pub ahead_left : (c : Scanning) (u : Tracked) → is_ahead 3 u.block.id c.cursor ≡ true → IsLeft c u
ahead_left c u e =
    let one : 1 ≤ sum_left c.cursor u = subst (λ q. 1 ≤ run_left q (is_at 3 u.block.id c.cursor) c.cursor u.block.start (u.block.size / 8)) (sym e) (omega arith) in
    omega (arith, one)

-- without it less is left, and the queue may lose more
pub falls_without : (c d : Scanning) (ts : List Tracked) (tasks : List Task) (id : ℕ) (u : Tracked) → In u ts → u.block.id ≡ id → IsLeft c u → d.cursor ≡ c.cursor → Fewer c d ts
    → scan_left d (others id ts) tasks + 1 ≤ scan_left c ts tasks
falls_without c d ts tasks id u i same left cursor fewer =
    let e : Scanning = record { queue = d.queue; cursor = c.cursor; sum = d.sum } in
    let out : not (u.block.id == id) ≡ false = ap not (eq-eqb u.block.id id same) in
    let grey = dropped (grey_left e) (grey_left c) (λ (x : Tracked). not (x.block.id == id)) ts u i out (λ x j. grey_fewer c e x (stays c.cursor) (fewer x j)) in
    let sums = dropped (sum_left c.cursor) (sum_left c.cursor) (λ (x : Tracked). not (x.block.id == id)) ts u i out (λ x j. omega arith) in
    subst (λ k. scan_left (record { queue = d.queue; cursor = k; sum = d.sum }) (others id ts) tasks + 1 ≤ scan_left c ts tasks) (sym cursor) (omega (arith, grey, sums, left))

pub less_without : (c : Scanning) (ts : List Tracked) (tasks : List Task) (id : ℕ) → scan_left c (others id ts) tasks ≤ scan_left c ts tasks
less_without c ts tasks id =
    let grey = total_filter (grey_left c) (λ (x : Tracked). not (x.block.id == id)) ts in
    let sums = total_filter (sum_left c.cursor) (λ (x : Tracked). not (x.block.id == id)) ts in
    omega (arith, grey, sums)
