use Rattle.std.proofs.Common.{◌≡◌, ℕ, zero, suc, ◌+◌, ◌/◌, ◌<◌, ◌≤◌, List, ◌∷◌, refl, sym, ◌∙◌, subst, arith, ◌⊎◌, inl, inr}
use Rattle.km_model.specs.Blocks.{Block}
use Rattle.km_model.specs.Tasks.{Task}
use Rattle.km_model.specs.Past.{Place, ScanLoad}
use Rattle.km_laws.specs.Left.{made, remaining, block_left, task_left, left_of}
use Rattle.km_laws.proofs.Lists.{In, total_falls, total_le}
use Rattle.km_laws.proofs.Runs.{made_same, made_phase, made_more}
use Rattle.km_laws.proofs.Loads.{GoodStack, GoodGrey, GoodSum, Good, GoesOn}

pub remaining_less : (n c d : ℕ) → c ≤ d → remaining n d ≤ remaining n c
remaining_less n zero zero le = omega arith
remaining_less n zero (suc d) le = omega arith
remaining_less n (suc c) zero le = absurd (omega (arith, le))
remaining_less n (suc c) (suc d) le = omega (arith, le)

-- a load takes one away, and the first of a holder two
abbrev Drop : ℕ → ℕ → Type 0
Drop c d = (d ≡ 1) ⊎ ((d ≡ 2) × (c ≡ 0))

remaining_falls : (n c d : ℕ) → c < n → Drop c d → remaining n (suc c) + d ≤ remaining n c
remaining_falls n zero d lt (inl one) = omega (arith, lt, one)
remaining_falls n (suc c) d lt (inl one) = omega (arith, lt, one)
remaining_falls n zero d lt (inr two) = let e = two.0 in omega (arith, lt, e)
remaining_falls n (suc c) d lt (inr two) = absurd (let e = two.1 in omega (arith, e))

pub made_le : (p x : ℕ) (l : ScanLoad) (ls : List ScanLoad) → made p x ls ≤ made p x (l ∷ ls)
made_le p x l ls = elim (made_more p x l ls) [ inl same ↦ omega (arith, same) | inr more ↦ omega (arith, more) ]

grey_le : (b : Block) (l : ScanLoad) (ls : List ScanLoad) → remaining (b.size / 8) (made 2 b.id (l ∷ ls) + made 4 b.id (l ∷ ls)) ≤ remaining (b.size / 8) (made 2 b.id ls + made 4 b.id ls)
grey_le b l ls =
    remaining_less (b.size / 8) (made 2 b.id ls + made 4 b.id ls) (made 2 b.id (l ∷ ls) + made 4 b.id (l ∷ ls))
    (let two = made_le 2 b.id l ls in let four = made_le 4 b.id l ls in omega (arith, two, four))

sum_le : (b : Block) (l : ScanLoad) (ls : List ScanLoad) → remaining (suc (b.size / 8)) (made 3 b.id (l ∷ ls)) ≤ remaining (suc (b.size / 8)) (made 3 b.id ls)
sum_le b l ls = remaining_less (suc (b.size / 8)) (made 3 b.id ls) (made 3 b.id (l ∷ ls)) (made_le 3 b.id l ls)

-- no load raises what is left of a block or a stack
pub block_le : (l : ScanLoad) (ls : List ScanLoad) (b : Block) → block_left (l ∷ ls) b ≤ block_left ls b
block_le l ls b = let g = grey_le b l ls in let s = sum_le b l ls in omega (arith, g, s)

pub task_le : (l : ScanLoad) (ls : List ScanLoad) (t : Task) → task_left (l ∷ ls) t ≤ task_left ls t
task_le l ls t = remaining_less 512 (made 1 t.number ls) (made 1 t.number (l ∷ ls)) (made_le 1 t.number l ls)

stack_falls : (l : ScanLoad) (ls : List ScanLoad) (bs : List Block) (ts : List Task) (d : ℕ) → (g : GoodStack ls ts l.place) → Drop (made 1 l.place.holder ls) d
    → left_of (l ∷ ls) bs ts + d ≤ left_of ls bs ts
stack_falls l ls bs ts d g drop =
    let t = g.1 in
    let same = made_same 1 t.number l ls g.0 (sym g.3) in
    let few : made 1 t.number ls < 512 = (let k : made 1 t.number ls ≤ g.4 = subst (λ n. made 1 n ls ≤ g.4) (sym g.3) g.7 in let m = g.5 in omega (arith, k, m)) in
    let falls : task_left (l ∷ ls) t + d ≤ task_left ls t =
    subst (λ n. remaining 512 n + d ≤ remaining 512 (made 1 t.number ls)) (sym same)
    (remaining_falls 512 (made 1 t.number ls) d few (subst (λ n. Drop (made 1 n ls) d) (sym g.3) drop)) in
    let tasks = total_falls (task_left (l ∷ ls)) (task_left ls) (task_le l ls) d ts t g.2 falls in
    let blocks = total_le (block_left (l ∷ ls)) (block_left ls) (block_le l ls) bs in
    omega (arith, tasks, blocks)

block_falls : (l : ScanLoad) (ls : List ScanLoad) (bs : List Block) (ts : List Task) (d : ℕ) (b : Block) → In b bs → block_left (l ∷ ls) b + d ≤ block_left ls b
    → left_of (l ∷ ls) bs ts + d ≤ left_of ls bs ts
block_falls l ls bs ts d b i falls =
    let blocks = total_falls (block_left (l ∷ ls)) (block_left ls) (block_le l ls) d bs b i falls in
    let tasks = total_le (task_left (l ∷ ls)) (task_left ls) (task_le l ls) ts in
    omega (arith, tasks, blocks)

-- a load of one grey phase is none of the other
pub grey_count : (p x : ℕ) (l : ScanLoad) (ls : List ScanLoad) → (p ≡ 2) ⊎ (p ≡ 4) → l.place.phase ≡ p → l.place.holder ≡ x
    → made 2 x (l ∷ ls) + made 4 x (l ∷ ls) ≡ suc (made 2 x ls + made 4 x ls)
grey_count p x l ls (inl two) e f =
    let same = made_same 2 x l ls (e ∙ two) f in
    let other = made_phase 4 x l ls (λ k. omega (arith, e, two, k)) in
    omega (arith, same, other)
grey_count p x l ls (inr four) e f =
    let same = made_same 4 x l ls (e ∙ four) f in
    let other = made_phase 2 x l ls (λ k. omega (arith, e, four, k)) in
    omega (arith, same, other)

grey_falls : (p : ℕ) (q : List ℕ) (l : ScanLoad) (ls : List ScanLoad) (bs : List Block) (ts : List Task) (d : ℕ) → (p ≡ 2) ⊎ (p ≡ 4) → (g : GoodGrey p q ls bs l.place)
    → Drop (made 2 l.place.holder ls + made 4 l.place.holder ls) d → left_of (l ∷ ls) bs ts + d ≤ left_of ls bs ts
grey_falls p q l ls bs ts d grey g drop =
    let b = g.1 in
    let n = b.size / 8 in
    let c = made 2 b.id ls + made 4 b.id ls in
    let few : made 2 b.id ls + made 4 b.id ls < b.size / 8 = (let k : made 2 b.id ls + made 4 b.id ls ≤ g.4 = subst (λ n. made 2 n ls + made 4 n ls ≤ g.4) (sym g.3) g.7 in let m = g.5 in omega (arith, k, m)) in
    let falls : remaining (b.size / 8) (made 2 b.id (l ∷ ls) + made 4 b.id (l ∷ ls)) + d ≤ remaining (b.size / 8) (made 2 b.id ls + made 4 b.id ls) =
    subst (λ k. remaining (b.size / 8) k + d ≤ remaining (b.size / 8) (made 2 b.id ls + made 4 b.id ls)) (sym (grey_count p b.id l ls grey g.0 (sym g.3)))
    (remaining_falls (b.size / 8) (made 2 b.id ls + made 4 b.id ls) d few (subst (λ n. Drop (made 2 n ls + made 4 n ls) d) (sym g.3) drop)) in
    block_falls l ls bs ts d b g.2 (let s = sum_le b l ls in omega (arith, falls, s))

sum_falls : (l : ScanLoad) (ls : List ScanLoad) (bs : List Block) (ts : List Task) (d : ℕ) → (g : GoodSum ls bs l.place)
    → Drop (made 3 l.place.holder ls) d → left_of (l ∷ ls) bs ts + d ≤ left_of ls bs ts
sum_falls l ls bs ts d g drop =
    let b = g.1 in
    let few : made 3 b.id ls < suc (b.size / 8) = (let k : made 3 b.id ls ≤ g.4 = subst (λ n. made 3 n ls ≤ g.4) (sym g.3) g.7 in let m = g.5 in omega (arith, k, m)) in
    let falls : remaining (suc (b.size / 8)) (made 3 b.id (l ∷ ls)) + d ≤ remaining (suc (b.size / 8)) (made 3 b.id ls) =
    subst (λ k. remaining (suc (b.size / 8)) k + d ≤ remaining (suc (b.size / 8)) (made 3 b.id ls)) (sym (made_same 3 b.id l ls g.0 (sym g.3)))
    (remaining_falls (suc (b.size / 8)) (made 3 b.id ls) d few (subst (λ n. Drop (made 3 n ls) d) (sym g.3) drop)) in
    block_falls l ls bs ts d b g.2 (let s = grey_le b l ls in omega (arith, falls, s))

-- each load lowers what is left
pub load_falls : (q1 q2 : List ℕ) (l : ScanLoad) (ls : List ScanLoad) (bs : List Block) (ts : List Task) → Good q1 q2 ls bs ts l.place
    → left_of (l ∷ ls) bs ts + 1 ≤ left_of ls bs ts
load_falls q1 q2 l ls bs ts (inl g) = stack_falls l ls bs ts 1 g (inl refl)
load_falls q1 q2 l ls bs ts (inr (inl g)) = grey_falls 2 q1 l ls bs ts 1 (inl refl) g (inl refl)
load_falls q1 q2 l ls bs ts (inr (inr (inl g))) = sum_falls l ls bs ts 1 g (inl refl)
load_falls q1 q2 l ls bs ts (inr (inr (inr g))) = grey_falls 4 q2 l ls bs ts 1 (inr refl) g (inl refl)

or_two : {P : Type 0} (ls : List ScanLoad) (place : Place) (c : ℕ) → GoesOn ls place ⊎ (c ≡ 0) → (Drop c 2 → P) → GoesOn ls place ⊎ P
or_two ls place c (inl on) f = inl on
or_two ls place c (inr none) f = inr (f (inr (refl, none)))

-- and one that doesn't go on with the holder of the last lowers it by two
pub move_falls : (q1 q2 : List ℕ) (l : ScanLoad) (ls : List ScanLoad) (bs : List Block) (ts : List Task) → Good q1 q2 ls bs ts l.place
    → GoesOn ls l.place ⊎ (left_of (l ∷ ls) bs ts + 2 ≤ left_of ls bs ts)
move_falls q1 q2 l ls bs ts (inl g) = or_two ls l.place (made 1 l.place.holder ls) g.10 (stack_falls l ls bs ts 2 g)
move_falls q1 q2 l ls bs ts (inr (inl g)) = or_two ls l.place (made 2 l.place.holder ls + made 4 l.place.holder ls) g.11 (grey_falls 2 q1 l ls bs ts 2 (inl refl) g)
move_falls q1 q2 l ls bs ts (inr (inr (inl g))) = or_two ls l.place (made 3 l.place.holder ls) g.11 (sum_falls l ls bs ts 2 g)
move_falls q1 q2 l ls bs ts (inr (inr (inr g))) = or_two ls l.place (made 2 l.place.holder ls + made 4 l.place.holder ls) g.11 (grey_falls 4 q2 l ls bs ts 2 (inr refl) g)
