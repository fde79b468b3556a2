use Rattle.std.proofs.Common.{◌≡◌, ℕ, ◌+◌, ◌-◌, ◌≤◌, ◌<◌, ◌==◌, ◌⊎◌, inl, inr, Bool, true, false, ◌&&◌, not, cond, List, [], ◌∷◌, Option, Some, None, refl, sym, ap, subst, arith}
use Rattle.std.proofs.lemmas.Bool.{and_parts, and_from, not-true, cases_Bool, cases_lt}
use Rattle.km_laws.proofs.Lists.{In, Pairs, each_in, count, total_grows, count_none}
use Rattle.km_laws.specs.Left.{total}
use Rattle.km_model.proofs.Cases.{elim_false}
use Rattle.km_laws.proofs.Hits.{early, hits, IsPure, early_pure, white_if, white_then, IsApart, same_pointed, hit_into, hit_passed, hit_was_white, option_here, here_option}
use Rattle.km_model.specs.Blocks.{Block, AtLeast, is_black, points_into, block_at, option_is}
use Rattle.km_model.specs.Past.{Past, Place, ScanLoad, world, loads}
use Rattle.km_model.specs.Scan.{is_white, is_holder, scan_load}

-- a load from outside a block has a value that points into it
abbrev pub into : Block → ScanLoad → Bool
into b l = points_into l.value b && not (is_holder l.place b)

-- a load from outside a head and a block has a value that points into the head
abbrev pub into_head : Block → Block → ScanLoad → Bool
into_head b a l = into a l && not (is_holder l.place b)

-- whether a block's references are passed on to another
abbrev pub passes_on : Block → Block → Bool
passes_on b a = option_is a.excess b.start && not (is_black a)

-- the references of a head beyond its own hits
abbrev pub passed : Block → List ScanLoad → Block → ℕ
passed b ls a = cond (passes_on b a) (count (into_head b a) ls - hits a.id ls) 0

-- the ids of these blocks rise
abbrev pub IdsRise : List Block → Type 0
IdsRise bs = Pairs (λ (b c : Block). b.id < c.id) bs

-- of the loads so far: no block is hit more often than its minimum, and each block is hit by each pointer into it
-- and by what heads pass on, or often enough
pub record IsCounted (Stands : Block → Type 0) (ls : List ScanLoad) : Type 0 where
  pub capped : (a : Block) (m : ℕ) → Stands a → a.minimum ≡ AtLeast m → hits a.id ls ≤ m
  pub hit : (b : Block) (m : ℕ) (heads : List Block) → Stands b → b.minimum ≡ AtLeast m → ((a : Block) → In a heads → Stands a) → IdsRise heads
      → (m ≤ hits b.id ls) ⊎ (count (into b) ls + total (passed b ls) heads ≤ hits b.id ls)

no_total : (f : Block → ℕ) (heads : List Block) → ((a : Block) → f a ≡ 0) → total f heads ≡ 0
no_total f [] none = refl
no_total f (a ∷ heads) none = let rest : total f heads ≡ 0 = no_total f heads none in omega (arith, none a, rest)

no_passed : (b a : Block) → passed b [] a ≡ 0
no_passed b a = elim (passes_on b a) as (λ q. ◌≡◌ {A = ℕ} (cond q 0 0) 0) [ true ↦ refl | false ↦ refl ]

pub counted_none : (Stands : Block → Type 0) → IsCounted Stands []
counted_none Stands = record {
  capped = λ a m s e. omega arith;
  hit = λ b m heads s e each rise. inr (let none : total (passed b []) heads ≡ 0 = no_total (passed b []) heads (no_passed b) in omega (arith, none));
}

pub counted_fewer : (Stands Fewer : Block → Type 0) (ls : List ScanLoad) → ((b : Block) → Fewer b → Stands b) → IsCounted Stands ls → IsCounted Fewer ls
counted_fewer Stands Fewer ls weaker c = record {
  capped = λ a m s e. c.capped a m (weaker a s) e;
  hit = λ b m heads s e each rise. c.hit b m heads (weaker b s) e (λ a i. weaker a (each a i)) rise;
}

-- at most one of these blocks passes, where each that passes is the same
at_most_one : (g : Bool) (q : Block → Bool) (heads : List Block) → IdsRise heads
    → ((a : Block) → In a heads → q a ≡ true → g ≡ true)
    → ((a c : Block) → In a heads → In c heads → q a ≡ true → q c ≡ true → a.id ≡ c.id)
    → count q heads ≤ cond g 1 0
at_most_one g q [] rise only same = omega arith
at_most_one g q (a ∷ heads) rise only same =
    elim (q a) as (λ r. q a ≡ r → cond r 1 0 + count q heads ≤ cond g 1 0) [
      | true ↦ λ e.
          let none : count q heads ≡ 0 = count_none q heads (λ c i f.
          let lt = each_in (λ (d : Block). a.id < d.id) heads c rise.0 i in
          let one = same a c (inl refl) (inr i) e f in
          omega (arith, lt, one)) in
          rw (only a (inl refl) e) (omega (arith, none))
      | false ↦ λ _.
          let rest : count q heads ≤ cond g 1 0 = at_most_one g q heads rise.1 (λ c i. only c (inr i)) (λ c d i j. same c d (inr i) (inr j)) in
          omega (arith, rest)
    ] refl

-- by a further load a head's difference grows only where the load hits the block to which it passes on
passed_grows : (t x y g : Bool) (outer own : ℕ)
    → (t ≡ true → x ≡ true → (y ≡ true) ⊎ (g ≡ true))
    → cond t ((cond x 1 0 + outer) - (cond y 1 0 + own)) 0 ≤ cond t (outer - own) 0 + cond g 1 0
passed_grows false x y g outer own h = omega arith
passed_grows true false y g outer own h = omega arith
passed_grows true true true g outer own h = omega arith
passed_grows true true false true outer own h = omega arith
passed_grows true true false false outer own h = elim (h refl refl) [ inl e ↦ absurd (elim_false e) | inr e ↦ absurd (elim_false e) ]

-- what a load of the first two phases adds
module _ (past : Past) (place : Place) (value : ℕ) (apart : IsApart (world past).blocks) (pure : IsPure (loads past)) (phase : (place.phase == 3) ≡ false) where
  abbrev l : ScanLoad
  l = scan_load past place value

  abbrev ls : List ScanLoad
  ls = loads past

  capped_more : (a : Block) (m : ℕ) → In a (world past).blocks → a.minimum ≡ AtLeast m → hits a.id ls ≤ m → hits a.id (l ∷ ls) ≤ m
  capped_more a m i e cap =
      elim (option_is l.hit a.id) as (λ q. option_is l.hit a.id ≡ q → cond q 1 0 + hits a.id ls ≤ m) [
        | true ↦ λ hit.
            let white : is_white past a ≡ true = hit_was_white past place value a apart i (option_here l.hit a.id hit) in
            let lt : hits a.id (early ls) < m = white_then past a m white e in
            let same : hits a.id (early ls) ≡ hits a.id ls = ap (hits a.id) (early_pure ls pure) in
            omega (arith, lt, same)
        | false ↦ λ _. omega (arith, cap)
      ] refl

  white_now : (b : Block) (m : ℕ) → b.minimum ≡ AtLeast m → hits b.id ls < m → is_white past b ≡ true
  white_now b m e lt =
      white_if past b m pure e (let same : hits b.id (early ls) ≡ hits b.id ls = ap (hits b.id) (early_pure ls pure) in omega (arith, lt, same))

  -- a pointer into a block that is hit less often than its minimum hits it
  into_hits : (b : Block) → In b (world past).blocks → is_white past b ≡ true → into b l ≡ true → option_is l.hit b.id ≡ true
  into_hits b i white e =
      let parts = and_parts (points_into value b) (not (is_holder place b)) e in
      here_option l.hit b.id (hit_into past place value b phase (apart.bytes value b i parts.0) (not-true (is_holder place b) parts.1) white)

  -- a pointer into a head hits it or what it passes on to
  head_hits : (b a : Block) → In b (world past).blocks → In a (world past).blocks → is_white past b ≡ true
      → passes_on b a ≡ true → into_head b a l ≡ true → (option_is l.hit a.id ≡ true) ⊎ (option_is l.hit b.id ≡ true)
  head_hits b a i j white passes e =
      let outer = and_parts (into a l) (not (is_holder place b)) e in
      let inner = and_parts (points_into value a) (not (is_holder place a)) outer.0 in
      let on = and_parts (option_is a.excess b.start) (not (is_black a)) passes in
      elim (cases_Bool (is_white past a)) [
        | inl w ↦ inl (into_hits a j w outer.0)
        | inr grey ↦ inr (here_option l.hit b.id
            (hit_passed past place value a b phase (apart.bytes value a j inner.0) (not-true (is_holder place a) inner.1) grey (not-true (is_black a) on.1)
            (subst (λ o. (elim o as (λ _. Option Block) [ None ↦ None | Some s ↦ block_at (world past).blocks s ]) ≡ Some b) (sym (option_here a.excess b.start on.0)) (apart.starts b i))
            (not-true (is_holder place b) outer.1) white))
      ]

  -- the further hit of a block, where no pointer into it is the cause
  abbrev gain : Block → Bool
  gain b = option_is l.hit b.id && not (into b l)

  abbrev gains_by : Block → Block → Bool
  gains_by b a = gain b && points_into value a

  head_grows : (b a : Block) → In b (world past).blocks → In a (world past).blocks → is_white past b ≡ true
      → passed b (l ∷ ls) a ≤ passed b ls a + cond (gains_by b a) 1 0
  head_grows b a i j white =
      passed_grows (passes_on b a) (into_head b a l) (option_is l.hit a.id) (gains_by b a) (count (into_head b a) ls) (hits a.id ls)
      (λ passes e.
      let outer = and_parts (into a l) (not (is_holder place b)) e in
      let inner = and_parts (points_into value a) (not (is_holder place a)) outer.0 in
      elim (head_hits b a i j white passes e) [
        | inl own ↦ inl own
        | inr other ↦ elim (cases_Bool (into b l)) [
          | inl pointed ↦
              let parts = and_parts (points_into value b) (not (is_holder place b)) pointed in
              let same : b ≡ a = same_pointed (world past).blocks value b a apart i j parts.0 inner.0 in
              inl (subst (λ (c : Block). option_is l.hit c.id ≡ true) same other)
          | inr away ↦ inr (and_from (gain b) (points_into value a) (and_from (option_is l.hit b.id) (not (into b l)) other (ap not away)) inner.0)
        ]
      ])

  hit_more : (b : Block) (heads : List Block) → In b (world past).blocks → ((a : Block) → In a heads → In a (world past).blocks) → IdsRise heads
      → is_white past b ≡ true → count (into b) ls + total (passed b ls) heads ≤ hits b.id ls
      → count (into b) (l ∷ ls) + total (passed b (l ∷ ls)) heads ≤ hits b.id (l ∷ ls)
  hit_more b heads i each rise white le =
      let grows : total (passed b (l ∷ ls)) heads ≤ total (passed b ls) heads + count (gains_by b) heads =
      total_grows (passed b (l ∷ ls)) (passed b ls) (gains_by b) heads (λ a j. head_grows b a i (each a j) white) in
      let one : count (gains_by b) heads ≤ cond (gain b) 1 0 =
      at_most_one (gain b) (gains_by b) heads rise (λ a j e. (and_parts (gain b) (points_into value a) e).0)
      (λ a c j k e f. ap (λ (x : Block). x.id) (same_pointed (world past).blocks value a c apart (each a j) (each c k)
      (and_parts (gain b) (points_into value a) e).1 (and_parts (gain b) (points_into value c) f).1)) in
      sums (into b l) (option_is l.hit b.id) (count (into b) ls) (total (passed b ls) heads) (total (passed b (l ∷ ls)) heads) (hits b.id ls)
      (into_hits b i white) le (omega (arith, grows, one))
    where
      sums : (x y : Bool) (p t t' n : ℕ) → (x ≡ true → y ≡ true) → p + t ≤ n → t' ≤ t + cond (y && not x) 1 0 → cond x 1 0 + p + t' ≤ cond y 1 0 + n
      sums true true p t t' n h le more = omega (arith, le, more)
      sums true false p t t' n h le more = absurd (elim_false (h refl))
      sums false true p t t' n h le more = omega (arith, le, more)
      sums false false p t t' n h le more = omega (arith, le, more)

  pub counted_more : (Stands : Block → Type 0) → ((b : Block) → Stands b → In b (world past).blocks) → IsCounted Stands ls → IsCounted Stands (l ∷ ls)
  counted_more Stands there c = record {
    capped = λ a m s e. capped_more a m (there a s) e (c.capped a m s e);
    hit = λ b m heads s e each rise. more b m heads s e each rise (cases_lt (hits b.id ls) m) (c.hit b m heads s e each rise);
  }
    where
      enough : (b : Block) (m : ℕ) → m ≤ hits b.id ls → m ≤ hits b.id (l ∷ ls)
      enough b m le = omega (arith, le)

      more : (b : Block) (m : ℕ) (heads : List Block) → Stands b → b.minimum ≡ AtLeast m → ((a : Block) → In a heads → Stands a) → IdsRise heads
          → (hits b.id ls < m) ⊎ (m ≤ hits b.id ls)
          → (m ≤ hits b.id ls) ⊎ (count (into b) ls + total (passed b ls) heads ≤ hits b.id ls)
          → (m ≤ hits b.id (l ∷ ls)) ⊎ (count (into b) (l ∷ ls) + total (passed b (l ∷ ls)) heads ≤ hits b.id (l ∷ ls))
      more b m heads s e each rise (inr le) _ = inl (enough b m le)
      more b m heads s e each rise (inl lt) (inl le) = inl (enough b m le)
      more b m heads s e each rise (inl lt) (inr le) =
          inr (hit_more b heads (there b s) (λ a j. there a (each a j)) rise (white_now b m e lt) le)
