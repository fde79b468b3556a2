use Rattle.std.proofs.Common.{◌≡◌, ℕ, ◌≤◌, ◌<◌, ◌==◌, inl, inr, Bool, true, false, ◌&&◌, ◌||◌, not, leb, ltb, List, [], ◌∷◌, Option, Some, None, filter, refl, sym, ◌∙◌, ap, subst, arith, eqb-true, ltb-true, lt-ltb, eq-eqb, le-leb, if◌then◌else◌}
use Rattle.std.proofs.lemmas.Bool.{and_parts, and_from}
use Rattle.km_laws.proofs.Lists.{In, count, count_by-count, count_filter}
use Rattle.km_model.proofs.Cases.{elim_false, some_same}
use Rattle.km_model.proofs.Whites.{hit_live}
use Rattle.km_model.specs.Blocks.{Block, Minimum, Black, AtLeast, is_black, points_into, block_of, block_at, pointed_block, option_is}
use Rattle.km_model.specs.Past.{Past, Place, ScanLoad, world, loads}
use Rattle.km_model.specs.Scan.{tally, was_changed, changed_in, is_white, is_holder, hit_white, hit_block, hit_of, excess_block}

-- the loads of the first two phases
abbrev pub is_early : ScanLoad → Bool
is_early l = leb l.place.phase 2

abbrev pub early : List ScanLoad → List ScanLoad
early ls = filter is_early ls

-- how many of these loads raise the tally of a block
abbrev pub hits : ℕ → List ScanLoad → ℕ
hits id ls = count (λ (l : ScanLoad). option_is l.hit id) ls

-- all loads are of the first two phases, and none finishes a sum
abbrev pub IsPure : List ScanLoad → Type 0
IsPure ls = (l : ScanLoad) → In l ls → (l.place.phase ≤ 2) × (l.changed ≡ None)

pub early_pure : (ls : List ScanLoad) → IsPure ls → early ls ≡ ls
early_pure [] pure = refl
early_pure (l ∷ ls) pure = rw (le-leb l.place.phase 2 (pure l (inl refl)).0) (ap (λ xs. l ∷ xs) (early_pure ls (λ k i. pure k (inr i))))

unchanged : (ls : List ScanLoad) (id : ℕ) → IsPure ls → changed_in ls id ≡ false
unchanged [] id pure = refl
unchanged (l ∷ ls) id pure =
    subst (λ o. (option_is o id || changed_in ls id) ≡ false) (sym (pure l (inl refl)).1) (unchanged ls id (λ k i. pure k (inr i)))

pub tally_hits : (past : Past) (b : Block) → tally past b ≡ hits b.id (loads past)
tally_hits past b = count_by-count (λ (l : ScanLoad). option_is l.hit b.id) (loads past)

abbrev white_at : ℕ → Bool → Minimum → Bool
white_at n c m = elim m [ Black ↦ false | AtLeast k ↦ ltb n k && not c ]

-- while only the first two phases have loaded, a block that is hit less often than its minimum is white
pub white_if : (past : Past) (b : Block) (m : ℕ) → IsPure (loads past) → b.minimum ≡ AtLeast m → hits b.id (early (loads past)) < m → is_white past b ≡ true
white_if past b m pure e lt =
    let same : tally past b ≡ hits b.id (early (loads past)) = tally_hits past b ∙ ap (hits b.id) (sym (early_pure (loads past) pure)) in
    subst (λ q. white_at (tally past b) (was_changed past b) q ≡ true) (sym e)
    (and_from (ltb (tally past b) m) (not (was_changed past b)) (lt-ltb (tally past b) m (omega (arith, same, lt)))
    (ap not (unchanged (loads past) b.id pure)))

-- a white block was hit less often than its minimum
pub white_then : (past : Past) (b : Block) (m : ℕ) → is_white past b ≡ true → b.minimum ≡ AtLeast m → hits b.id (early (loads past)) < m
white_then past b m white e =
    let f : (ltb (tally past b) m && not (was_changed past b)) ≡ true = subst (λ q. white_at (tally past b) (was_changed past b) q ≡ true) e white in
    let g : tally past b < m = ltb-true (tally past b) m (and_parts (ltb (tally past b) m) (not (was_changed past b)) f).0 in
    let k : hits b.id (early (loads past)) ≤ hits b.id (loads past) = count_filter (λ (l : ScanLoad). option_is l.hit b.id) is_early (loads past) in
    omega (arith, g, k, tally_hits past b)

-- the blocks of a moment: an id, a byte and a start belong to one block each
pub record IsApart (blocks : List Block) : Type 0 where
  pub ids : (b : Block) → In b blocks → block_of blocks b.id ≡ Some b
  pub bytes : (v : ℕ) (b : Block) → In b blocks → points_into v b ≡ true → pointed_block blocks v ≡ Some b
  pub starts : (b : Block) → In b blocks → block_at blocks b.start ≡ Some b

pub same_block : (blocks : List Block) (b c : Block) → IsApart blocks → In b blocks → In c blocks → b.id ≡ c.id → b ≡ c
same_block blocks b c apart i j e =
    some_same b c (sym (apart.ids b i) ∙ (ap (block_of blocks) e ∙ apart.ids c j))

pub same_pointed : (blocks : List Block) (v : ℕ) (b c : Block) → IsApart blocks → In b blocks → In c blocks → points_into v b ≡ true → points_into v c ≡ true → b ≡ c
same_pointed blocks v b c apart i j p q = some_same b c (sym (apart.bytes v b i p) ∙ apart.bytes v c j q)

-- a pointer into a white block hits it
pub hit_into : (past : Past) (place : Place) (value : ℕ) (b : Block)
    → (place.phase == 3) ≡ false → pointed_block (world past).blocks value ≡ Some b → is_holder place b ≡ false → is_white past b ≡ true
    → hit_of past place value ≡ Some b.id
hit_into past place value b phase found holder white =
    subst (λ q. (if q then None else (elim (pointed_block (world past).blocks value) as (λ _. Option ℕ) [ None ↦ None | Some c ↦ hit_block past place c ])) ≡ Some b.id) (sym phase)
    (subst (λ o. (elim o as (λ _. Option ℕ) [ None ↦ None | Some c ↦ hit_block past place c ]) ≡ Some b.id) (sym found)
    (rw (holder, white) refl))

-- a pointer into a grey head hits the white block at its excess
pub hit_passed : (past : Past) (place : Place) (value : ℕ) (a b : Block)
    → (place.phase == 3) ≡ false → pointed_block (world past).blocks value ≡ Some a → is_holder place a ≡ false → is_white past a ≡ false
    → is_black a ≡ false → excess_block (world past).blocks a ≡ Some b → is_holder place b ≡ false → is_white past b ≡ true
    → hit_of past place value ≡ Some b.id
hit_passed past place value a b phase found holder grey black excess other white =
    subst (λ q. (if q then None else (elim (pointed_block (world past).blocks value) as (λ _. Option ℕ) [ None ↦ None | Some c ↦ hit_block past place c ])) ≡ Some b.id) (sym phase)
    (subst (λ o. (elim o as (λ _. Option ℕ) [ None ↦ None | Some c ↦ hit_block past place c ]) ≡ Some b.id) (sym found)
    (subst (λ q. (if q then None else (if is_white past a then Some a.id else (if is_black a then None else (elim (excess_block (world past).blocks a) as (λ _. Option ℕ) [ None ↦ None | Some e ↦ hit_white past place e ])))) ≡ Some b.id) (sym holder)
    (subst (λ q. (if q then Some a.id else (if is_black a then None else (elim (excess_block (world past).blocks a) as (λ _. Option ℕ) [ None ↦ None | Some e ↦ hit_white past place e ]))) ≡ Some b.id) (sym grey)
    (subst (λ q. (if q then None else (elim (excess_block (world past).blocks a) as (λ _. Option ℕ) [ None ↦ None | Some e ↦ hit_white past place e ])) ≡ Some b.id) (sym black)
    (subst (λ o. (elim o as (λ _. Option ℕ) [ None ↦ None | Some e ↦ hit_white past place e ]) ≡ Some b.id) (sym excess)
    (rw (and_from (not (is_holder place b)) (is_white past b) (ap not other) white) refl))))))

-- at a block that stands: its hit means that it was white
pub hit_was_white : (past : Past) (place : Place) (value : ℕ) (a : Block) → IsApart (world past).blocks → In a (world past).blocks
    → hit_of past place value ≡ Some a.id → is_white past a ≡ true
hit_was_white past place value a apart i h =
    let found = hit_live past place value a.id h in
    subst (λ c. is_white past c ≡ true) (same_block (world past).blocks found.0 a apart found.3 i found.1) found.2

pub option_here : (o : Option ℕ) (n : ℕ) → option_is o n ≡ true → o ≡ Some n
option_here None n e = absurd (elim_false e)
option_here (Some m) n e = ap Some (eqb-true m n e)

pub here_option : (o : Option ℕ) (n : ℕ) → o ≡ Some n → option_is o n ≡ true
here_option o n e = subst (λ x. option_is x n ≡ true) (sym e) (eq-eqb n n refl)
