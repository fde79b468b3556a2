use Rattle.std.proofs.Common.{◌≡◌, ℕ, zero, suc, ◌+◌, ◌-◌, ◌*◌, ◌/◌, ◌≤◌, min, Bool, true, false, ◌&&◌, ◌||◌, nat_le, nat_lt, length, List, [], ◌∷◌, ◌++◌, if◌then◌else◌, refl, sym, ap, ◌∙◌, subst, arith, inl, inr, ltb-true, leb-true}
use Rattle.std.proofs.lemmas.Bool.{or_cases, ltb-false, leb-false}
use Rattle.km_model.specs.History.{History}
use Rattle.km_model.specs.Memory.{base}
use Rattle.km_model.specs.Blocks.{Block, is_within}
use Rattle.km_model.specs.Tasks.{Task}
use Rattle.km_model.specs.Past.{ScanLoad, world, loads}
use Rattle.km_model.specs.Follows.{past_of, Follows}
use Rattle.km_model.specs.Headline.{IsMemorySize, ScansEnd}
use Rattle.km_laws.specs.Left.{made, block_left, task_left, left, total}
use Rattle.km_laws.specs.Placed.{Apart, BlockPlaced, StackPlaced, is_stack}
use Rattle.km_laws.proofs.Lists.{Each, Pairs, In, each_in, in_each}
use Rattle.km_laws.proofs.Pages.{Sound}
use Rattle.km_laws.proofs.Placings.{Placed, StacksApart, one_or_apart, apart_parts, no_byte}
use Rattle.km_laws.proofs.Apart.{history_placed, stack_kind}
use Rattle.km_laws.proofs.Falls.{remaining_less}
use Rattle.km_laws.proofs.Ends.{loads_end}

-- how many of so many numbers from `low` on pass
abbrev cover : (ℕ → Bool) → ℕ → ℕ → ℕ
cover test zero low = 0
cover test (suc n) low = if test (low + n) then suc (cover test n low) else cover test n low

cover_le : (test : ℕ → Bool) (n low : ℕ) → cover test n low ≤ n
cover_le test zero low = omega arith
cover_le test (suc n) low =
    let k = cover_le test n low in
    elim (test (low + n)) as (λ q. (if q then suc (cover test n low) else cover test n low) ≤ suc n) [ true ↦ omega (arith, k) | false ↦ omega (arith, k) ]

-- what passes one of two tests, of which no number passes both
cover_or : (t u : ℕ → Bool) (n low : ℕ) → ((a : ℕ) → t a ≡ true → u a ≡ true → ⊥) → cover (λ a. t a || u a) n low ≡ cover t n low + cover u n low
cover_or t u zero low never = refl
cover_or t u (suc n) low never =
    let k = cover_or t u n low never in
    let P = λ (q r : Bool). t (low + n) ≡ q → u (low + n) ≡ r
    → (if q || r then suc (cover (λ a. t a || u a) n low) else cover (λ a. t a || u a) n low)
    ≡ (if q then suc (cover t n low) else cover t n low) + (if r then suc (cover u n low) else cover u n low) in
    elim (t (low + n)) as (λ q. P q (u (low + n))) [
      | true ↦ elim (u (low + n)) as (λ r. P true r) [ true ↦ λ a b. absurd (never (low + n) a b) | false ↦ λ a b. omega (arith, k) ]
      | false ↦ elim (u (low + n)) as (λ r. P false r) [ true ↦ λ a b. omega (arith, k) | false ↦ λ a b. omega (arith, k) ]
    ] refl refl

-- a span covers its bytes
cover_span : (start size n low : ℕ) → low ≤ start → cover (is_within start size) n low ≡ min (start + size) (low + n) - start
cover_span start size zero low le = omega (arith, le)
cover_span start size (suc n) low le =
    let k = cover_span start size n low le in
    let a = low + n in
    let P = λ (q r : Bool). nat_le start (low + n) ≡ q → nat_lt (low + n) (start + size) ≡ r
    → (if q && r then suc (cover (is_within start size) n low) else cover (is_within start size) n low) ≡ min (start + size) (low + suc n) - start in
    elim (nat_le start (low + n)) as (λ q. P q (nat_lt (low + n) (start + size))) [
      | true ↦ elim (nat_lt (low + n) (start + size)) as (λ r. P true r) [
        | true ↦ λ e f. omega (arith, k, leb-true start (low + n) e, ltb-true (low + n) (start + size) f)
        | false ↦ λ e f. omega (arith, k, leb-true start (low + n) e, ltb-false (low + n) (start + size) f)
      ]
      | false ↦ elim (nat_lt (low + n) (start + size)) as (λ r. P false r) [
        | true ↦ λ e f. omega (arith, k, le, leb-false start (low + n) e)
        | false ↦ λ e f. omega (arith, k, le, leb-false start (low + n) e)
      ]
    ] refl refl

whole_span : (start size n low : ℕ) → low ≤ start → start + size ≤ low + n → cover (is_within start size) n low ≡ size
whole_span start size n low le end = let k = cover_span start size n low le in omega (arith, k, le, end)

-- whether a byte is in one of these
abbrev hit : {X : Type 0} → (X → ℕ) → (X → ℕ) → List X → ℕ → Bool
hit start size [] a = false
hit start size (x ∷ xs) a = is_within (start x) (size x) a || hit start size xs a

hit_in : {X : Type 0} (start size : X → ℕ) (xs : List X) (a : ℕ) → hit start size xs a ≡ true → (x : X) × In x xs × (is_within (start x) (size x) a ≡ true)
hit_in start size [] a h = absurd cc
hit_in start size (x ∷ xs) a h =
    elim (or_cases (is_within (start x) (size x) a) (hit start size xs a) h) [
      | inl here ↦ (x, inl refl, here)
      | inr later ↦ let y = hit_in start size xs a later in (y.0, inr y.1, y.2)
    ]

-- spans of the memory that are apart cover as many bytes as they have
abbrev Within : {X : Type 0} → (X → ℕ) → (X → ℕ) → ℕ → ℕ → X → Type 0
Within start size n low x = (low ≤ start x) × (start x + size x ≤ low + n)

covered : {X : Type 0} (start size : X → ℕ) (xs : List X) (n low : ℕ) → Pairs (λ x y. Apart (start x) (size x) (start y) (size y)) xs → Each (Within start size n low) xs
    → total size xs ≤ cover (hit start size xs) n low
covered start size [] n low p e = omega arith
covered start size (x ∷ xs) n low p e =
    let rest = covered start size xs n low p.1 e.1 in
    let this = whole_span (start x) (size x) n low e.0.0 e.0.1 in
    let both = cover_or (is_within (start x) (size x)) (hit start size xs) n low (λ a h g.
    let y = hit_in start size xs a g in
    no_byte (start x) (size x) (start y.0) (size y.0) a (each_in (λ z. Apart (start x) (size x) (start z) (size z)) xs y.0 p.0 y.1) h y.2) in
    omega (arith, rest, this, both)

-- the blocks and the stacks have no more bytes than the memory
pub room : (words : ℕ) (used : List _) (bs : List Block) (ts : List Task) → Placed words used bs ts
    → total (λ (b : Block). b.size) bs + total (λ (t : Task). 4096) ts ≤ 8 * words
room words used bs ts p =
    let blocks = covered (λ (b : Block). b.start) (λ (b : Block). b.size) bs (8 * words) base p.blocks_apart
    (in_each (Within (λ (b : Block). b.start) (λ (b : Block). b.size) (8 * words) base) bs (λ b i.
    let h = each_in (BlockPlaced used) bs b p.blocks_in i in
    let s = (each_in (Sound words) used h.0 p.sound h.1).1 in
    let lo = s.0 in let hi = s.1 in let a = h.3 in let c = h.4 in
    (omega (arith, lo, a), omega (arith, hi, c)))) in
    let stacks = covered (λ (t : Task). t.stack) (λ (t : Task). 4096) ts (8 * words) base (stacks_pairs ts (λ t i. i) p.stacks_apart)
    (in_each (Within (λ (t : Task). t.stack) (λ (t : Task). 4096) (8 * words) base) ts (λ t i.
    let h = each_in (StackPlaced used) ts t p.stacks_in i in
    let s = (each_in (Sound words) used h.0 p.sound h.1).1 in
    let lo = s.0 in let hi = s.1 in let a = h.3 in let c = h.4 in
    (omega (arith, lo, a), omega (arith, hi, a, c)))) in
    let both = cover_or (hit (λ (b : Block). b.start) (λ (b : Block). b.size) bs) (hit (λ (t : Task). t.stack) (λ (t : Task). 4096) ts) (8 * words) base (λ a h g.
    let b = hit_in (λ (b : Block). b.start) (λ (b : Block). b.size) bs a h in
    let t = hit_in (λ (t : Task). t.stack) (λ (t : Task). 4096) ts a g in
    no_byte b.0.start b.0.size t.0.stack 4096 a (block_and_stack b.0 t.0 b.1 t.1) b.2 t.2) in
    let most = cover_le (λ a. hit (λ (b : Block). b.start) (λ (b : Block). b.size) bs a || hit (λ (t : Task). t.stack) (λ (t : Task). 4096) ts a) (8 * words) base in
    omega (arith, blocks, stacks, both, most) where
      stack_cases : (t u : Task) → In t ts → In u ts → StacksApart t u → Apart t.stack 4096 u.stack 4096
      stack_cases t u i j differ =
          let x = each_in (StackPlaced used) ts t p.stacks_in i in
          let y = each_in (StackPlaced used) ts u p.stacks_in j in
          elim (one_or_apart words used bs ts x.0 y.0 p x.1 y.1) [
            | inl same ↦ absurd (differ (sym x.3 ∙ ap (λ z. z.start) same ∙ y.3))
            | inr apart ↦ apart_parts x.0.start x.0.size y.0.start y.0.size t.stack 4096 u.stack 4096 apart
                (let a = x.3 in omega (arith, a)) (let a = x.3 in let c = x.4 in omega (arith, a, c)) (let a = y.3 in omega (arith, a)) (let a = y.3 in let c = y.4 in omega (arith, a, c))
          ]

      stacks_pairs : (us : List Task) → ((u : Task) → In u us → In u ts) → Pairs StacksApart us → Pairs (λ t u. Apart t.stack 4096 u.stack 4096) us
      stacks_pairs [] f q = tt
      stacks_pairs (u ∷ us) f q = (
        in_each (λ v. Apart u.stack 4096 v.stack 4096) us (λ v i. stack_cases u v (f u (inl refl)) (f v (inr i)) (each_in (StacksApart u) us v q.0 i)),
        stacks_pairs us (λ v i. f v (inr i)) q.1,
      )

      block_and_stack : (b : Block) (t : Task) → In b bs → In t ts → Apart b.start b.size t.stack 4096
      block_and_stack b t i j =
          let x = each_in (BlockPlaced used) bs b p.blocks_in i in
          let y = each_in (StackPlaced used) ts t p.stacks_in j in
          elim (one_or_apart words used bs ts x.0 y.0 p x.1 y.1) [
            | inl same ↦ absurd (stack_kind x.0.«use» (subst (λ z. is_stack z ≡ true) (sym same) y.2) x.2)
            | inr apart ↦ apart_parts x.0.start x.0.size y.0.start y.0.size b.start b.size t.stack 4096 apart
                x.3 x.4 (let a = y.3 in omega (arith, a)) (let a = y.3 in let c = y.4 in omega (arith, a, c))
          ]

-- at most so much is left of blocks and stacks
blocks_most : (ls : List ScanLoad) (bs : List Block) → 4 * total (block_left ls) bs ≤ total (λ (b : Block). b.size) bs + 12 * length bs
blocks_most ls [] = omega arith
blocks_most ls (b ∷ bs) =
    let rest = blocks_most ls bs in
    let grey = remaining_less (b.size / 8) 0 (made 2 b.id ls + made 4 b.id ls) (omega arith) in
    let sums = remaining_less (suc (b.size / 8)) 0 (made 3 b.id ls) (omega arith) in
    omega (arith, rest, grey, sums)

tasks_most : (ls : List ScanLoad) (ts : List Task) → 4 * total (task_left ls) ts ≤ total (λ (t : Task). 4096) ts
tasks_most ls [] = omega arith
tasks_most ls (t ∷ ts) =
    let rest = tasks_most ls ts in
    let one = remaining_less 512 0 (made 1 t.number ls) (omega arith) in
    omega (arith, rest, one)

-- what is left is bounded at each moment
pub left_bounded : (words : ℕ) (h : History) → IsMemorySize words → Follows words h → left (past_of h) ≤ 2 * words + 3 * length (world (past_of h)).blocks + 1
left_bounded words h size f =
    let w = world (past_of h) in
    let p = history_placed words h size.0 f in
    let most = room words (world (past_of h)).used (world (past_of h)).blocks (world (past_of h)).tasks p in
    let blocks = blocks_most (loads (past_of h)) (world (past_of h)).blocks in
    let tasks = tasks_most (loads (past_of h)) (world (past_of h)).tasks in
    omega (arith, most, blocks, tasks)

pub scans_end : ScansEnd
scans_end words h later k size f before after registered started =
    let ends = loads_end words h later k f before after registered started in
    let most = left_bounded words h size (follows_of later f) in
    omega (arith, ends, most) where
      follows_of : (ls : History) → Follows words (ls ++ h) → Follows words h
      follows_of [] g = g
      follows_of (e ∷ ls) g = follows_of ls g.2
