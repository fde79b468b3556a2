-- How much is left of a scan at most, and at least.
use Rattle.std.proofs.Common.{◌≡◌, ℕ, suc, ◌+◌, ◌*◌, ◌/◌, ◌≤◌, ◌||◌, List, [], ◌∷◌, length, Option, Some, None, refl, sym, ap, ◌∙◌, subst, arith}
use Rattle.km_model.specs.History.{History}
use Rattle.km_model.specs.Blocks.{Block, is_among}
use Rattle.km_model.specs.Tasks.{Task}
use Rattle.km_model.specs.Past.{world, last_load}
use Rattle.km_model.specs.Scan.{phase_of}
use Rattle.km_model.specs.Follows.{Follows, past_of}
use Rattle.km_model.specs.Headline.{IsMemorySize}
use Rattle.km_state.specs.State.{State, Tracked, Scanning, blocks_in, is_white_now}
use Rattle.km_state.specs.StateNext.{phase_at, is_at}
use Rattle.km_state.specs.StandsFor.{StandsFor}
use Rattle.km_laws.specs.Left.{total}
use Rattle.km_laws.proofs.Apart.{history_placed}
use Rattle.km_laws.proofs.Room.{room}
use Rattle.km_laws.proofs.Steps.{fits, last_is}
use Rattle.km_left.specs.LeftIn.{is_ahead, stack_left, sum_left, grey_left, scan_left}
use Rattle.km_left.specs.Laws.{LeftInIsBounded, SomeIsLeft}
use Rattle.km_left.proofs.Runs.{run_most}
use Rattle.km_left.proofs.Ways.{phase_is}

pub blocks_most : (c : Scanning) (ts : List Tracked) → 4 * (total (grey_left c) ts + total (sum_left c.cursor) ts) ≤ total (λ (b : Block). b.size) (blocks_in ts) + 8 * length ts
blocks_most c [] = omega arith
blocks_most c (t ∷ ts) =
    let rest = blocks_most c ts in
    let grey : grey_left c t ≤ suc (t.block.size / 8) = run_most (is_white_now t || is_among t.block.id c.queue) (is_at 2 t.block.id c.cursor || is_at 4 t.block.id c.cursor) c.cursor t.block.start (t.block.size / 8) in
    let sums : sum_left c.cursor t ≤ suc (t.block.size / 8) = run_most (is_ahead 3 t.block.id c.cursor) (is_at 3 t.block.id c.cursor) c.cursor t.block.start (t.block.size / 8) in
    omega (arith, rest, grey, sums)

pub stacks_most : (c : Scanning) (tasks : List Task) → 4 * total (stack_left c.cursor) tasks ≤ total (λ (t : Task). 4096) tasks
stacks_most c [] = omega arith
stacks_most c (t ∷ ts) =
    let rest = stacks_most c ts in
    let one : stack_left c.cursor t ≤ suc 512 = run_most (is_ahead 1 t.number c.cursor) (is_at 1 t.number c.cursor) c.cursor t.stack 512 in
    omega (arith, rest, one)

-- a scan that runs is in one of four phases
abbrev InPhase : Scanning → Type 0
InPhase c = (1 ≤ phase_at c.cursor) × (phase_at c.cursor ≤ 4)

in_phase : (words : ℕ) (h : History) (s : State) (c : Scanning) → StandsFor words h s → s.scan ≡ Some c → InPhase c
in_phase words h s c r e =
    let o = (fits h).0 in
    let low = o.low in let high = o.high in
    let same : phase_at c.cursor ≡ phase_of (last_load (past_of h)) = ap phase_at (r.cursor c e) ∙ phase_is (world (past_of h)).blocks (last_load (past_of h)) in
    let last = ap phase_of (last_is (past_of h)) in
    (omega (arith, low, same, last), omega (arith, high, same, last))

scan_most : (words : ℕ) (h : History) (s : State) (o : Option Scanning) → s.scan ≡ o → IsMemorySize words → Follows words h → StandsFor words h s
    → (elim o as (λ _. ℕ) [ None ↦ 0 | Some c ↦ scan_left c s.tracked s.tasks ]) ≤ 2 * words + 2 * length s.tracked + 4
scan_most words h s None e size f r = omega arith
scan_most words h s (Some c) e size f r =
    let most = room words (world (past_of h)).used (world (past_of h)).blocks (world (past_of h)).tasks (history_placed words h size.0 f) in
    let most' : total (λ (b : Block). b.size) (blocks_in s.tracked) + total (λ (t : Task). 4096) s.tasks ≤ 8 * words =
    subst (λ bs. total (λ (b : Block). b.size) bs + total (λ (t : Task). 4096) s.tasks ≤ 8 * words) (sym r.blocks)
    (subst (λ ts. total (λ (b : Block). b.size) (world (past_of h)).blocks + total (λ (t : Task). 4096) ts ≤ 8 * words) (sym r.tasks) most) in
    let blocks = blocks_most c s.tracked in
    let stacks = stacks_most c s.tasks in
    let low = (in_phase words h s c r e).0 in
    omega (arith, most', blocks, stacks, low)

pub left_in_is_bounded : LeftInIsBounded
left_in_is_bounded words h s size f r = scan_most words h s s.scan refl size f r

pub some_is_left : SomeIsLeft
some_is_left words h s c r e =
    let high = (in_phase words h s c r e).1 in
    subst (λ o. 1 ≤ elim o as (λ _. ℕ) [ None ↦ 0 | Some x ↦ scan_left x s.tracked s.tasks ]) (sym e) (omega (arith, high))
