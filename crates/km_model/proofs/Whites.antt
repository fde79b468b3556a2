use Rattle.std.proofs.Common.{◌≡◌, ℕ, ◌+◌, ◌<◌, ◌≤◌, Bool, true, false, not, ◌&&◌, ◌||◌, ◌==◌, nat_lt, List, ◌∷◌, Option, Some, None, if◌then◌else◌, refl, sym, subst, arith, ◌⊎◌, inl, inr, eqb-true, ltb-true, lt-ltb, le-ltb}
use Rattle.std.proofs.lemmas.List.Sums.{sum_by-cons}
use Rattle.std.proofs.lemmas.Bool.{cases_Bool, and_parts, and_from, or_parts, not-true, both_ways}
use Rattle.km_model.specs.Blocks.{Block, Black, AtLeast, Minimum, option_is, needs, is_black, block_at, pointed_block, contains}
use Rattle.km_base.specs.Spans.{untagged}
use Rattle.km_model.specs.Past.{Past, Place, ScanLoad, world, loads}
use Rattle.km_model.specs.Scan.{tally_in, changed_in, is_white, hit_of, hit_white, hit_block, excess_block, is_holder}
use Rattle.km_model.proofs.Cases.{none_some, some_same, if_some, right_true}
use Rattle.km_model.proofs.Lists.{In, find_in}
use Rattle.km_model.proofs.Worlds.{Tame}

-- white after these loads
abbrev pub white_by : ℕ → Bool → Minimum → Bool
white_by tally changed Black = false
white_by tally changed (AtLeast m) = nat_lt tally m && not changed

abbrev pub white_in : List ScanLoad → Block → Bool
white_in ls b = white_by (tally_in ls b.id) (changed_in ls b.id) b.minimum

pub white_is : (past : Past) (b : Block) → is_white past b ≡ white_in (loads past) b
white_is past b = elim b.minimum as (λ m. (elim m [ Black ↦ false | AtLeast n ↦ nat_lt (tally_in (loads past) b.id) n && not (changed_in (loads past) b.id) ]) ≡ white_by (tally_in (loads past) b.id) (changed_in (loads past) b.id) m) [
  | Black ↦ refl
  | AtLeast n ↦ refl
]

tally_more : (l : ScanLoad) (ls : List ScanLoad) (id : ℕ) → tally_in (l ∷ ls) id ≡ (if option_is l.hit id then 1 else 0) + tally_in ls id
tally_more l ls id = sum_by-cons (λ (l : ScanLoad). if option_is l.hit id then 1 else 0) l ls

-- whiteness never comes back within a scan
white_less : (m : Minimum) (t u : ℕ) (p q : Bool) → t ≤ u → white_by u (p || q) m ≡ true → white_by t q m ≡ true
white_less Black t u p q le w = w
white_less (AtLeast m) t u p q le w =
    let parts = and_parts (nat_lt u m) (not (p || q)) w in
    let lt : u < m = ltb-true u m parts.0 in
    let neither = or_parts p q (not-true (p || q) parts.1) in
    and_from (nat_lt t m) (not q) (lt-ltb t m (omega (arith, lt, le))) (subst (λ r. not r ≡ true) (sym neither.1) refl)

pub white_before : (l : ScanLoad) (ls : List ScanLoad) (b : Block) → white_in (l ∷ ls) b ≡ true → white_in ls b ≡ true
white_before l ls b w =
    white_less b.minimum (tally_in ls b.id) (tally_in (l ∷ ls) b.id) (option_is l.changed b.id) (changed_in ls b.id)
    (let e = tally_more l ls b.id in omega (arith, e)) w

pub grey_stays : (l : ScanLoad) (ls : List ScanLoad) (b : Block) → white_in ls b ≡ false → white_in (l ∷ ls) b ≡ false
grey_stays l ls b g =
    elim (cases_Bool (white_in (l ∷ ls) b)) [
      | inl w ↦ absurd (both_ways (white_in ls b) g (white_before l ls b w))
      | inr f ↦ f
    ]

-- nor by a change of the block
white_tame : (t : ℕ) (c : Bool) (m n : Minimum) → (n ≡ m) ⊎ ((n ≡ AtLeast 0) ⊎ (n ≡ Black)) → white_by t c m ≡ false → white_by t c n ≡ false
white_tame t c m n (inl same) g = subst (λ k. white_by t c k ≡ false) (sym same) g
white_tame t c m n (inr (inl grey)) g =
    subst (λ k. white_by t c k ≡ false) (sym grey) (subst (λ r. (r && not c) ≡ false) (sym (le-ltb t 0 (omega arith))) refl)
white_tame t c m n (inr (inr black)) g = subst (λ k. white_by t c k ≡ false) (sym black) refl

pub grey_tame : (ls : List ScanLoad) (b c : Block) → Tame b c → white_in ls b ≡ false → white_in ls c ≡ false
grey_tame ls b c tame g =
    subst (λ n. white_by (tally_in ls n) (changed_in ls n) c.minimum ≡ false) (sym tame.0)
    (white_tame (tally_in ls b.id) (changed_in ls b.id) b.minimum c.minimum tame.3 g)

-- a block whose sum is found changed isn't white
changed_grey : (t : ℕ) (q : Bool) (m : Minimum) → white_by t (true || q) m ≡ false
changed_grey t q Black = refl
changed_grey t q (AtLeast m) = elim (nat_lt t m) as (λ r. (r && false) ≡ false) [ true ↦ refl | false ↦ refl ]

pub found_grey : (l : ScanLoad) (ls : List ScanLoad) (b : Block) → option_is l.changed b.id ≡ true → white_in (l ∷ ls) b ≡ false
found_grey l ls b c =
    subst (λ r. white_by (tally_in (l ∷ ls) b.id) (r || changed_in ls b.id) b.minimum ≡ false) (sym c) (changed_grey (tally_in (l ∷ ls) b.id) (changed_in ls b.id) b.minimum)

-- nor one that was found as often as its minimum
needs_grey : (t n : ℕ) (c : Bool) (m : Minimum) → t ≡ n → (elim m as (λ _. Bool) [ Black ↦ false | AtLeast k ↦ k == n ]) ≡ true → white_by t c m ≡ false
needs_grey t n c Black e h = refl
needs_grey t n c (AtLeast k) e h =
    let same : k ≡ n = eqb-true k n h in
    subst (λ r. (r && not c) ≡ false) (sym (le-ltb t k (omega (arith, same, e)))) refl

pub ripe_grey : (l : ScanLoad) (ls : List ScanLoad) (b : Block) → option_is l.hit b.id ≡ true → needs (tally_in ls b.id + 1) b ≡ true → white_in (l ∷ ls) b ≡ false
ripe_grey l ls b h n =
    let more : tally_in (l ∷ ls) b.id ≡ 1 + tally_in ls b.id = subst (λ q. tally_in (l ∷ ls) b.id ≡ (if q then 1 else 0) + tally_in ls b.id) h (tally_more l ls b.id) in
    needs_grey (tally_in (l ∷ ls) b.id) (tally_in ls b.id + 1) (changed_in (l ∷ ls) b.id) b.minimum (omega (arith, more)) n

-- a block that needs no reference isn't white
pub needless_grey : (ls : List ScanLoad) (b : Block) → needs 0 b ≡ true → white_in ls b ≡ false
needless_grey ls b n = zero_grey (tally_in ls b.id) (changed_in ls b.id) b.minimum n where
  zero_grey : (t : ℕ) (c : Bool) (m : Minimum) → (elim m as (λ _. Bool) [ Black ↦ false | AtLeast k ↦ k == 0 ]) ≡ true → white_by t c m ≡ false
  zero_grey t c Black h = refl
  zero_grey t c (AtLeast k) h =
      let same : k ≡ 0 = eqb-true k 0 h in
      subst (λ r. (r && not c) ≡ false) (sym (le-ltb t k (omega (arith, same)))) refl

-- a live block of this id is white
abbrev pub WhiteIn : Past → ℕ → Type 0
WhiteIn past id = (b : Block) × (b.id ≡ id) × (is_white past b ≡ true) × In b (world past).blocks

hit_white_live : (past : Past) (place : Place) (b : Block) (id : ℕ) → In b (world past).blocks → hit_white past place b ≡ Some id → WhiteIn past id
hit_white_live past place b id i h =
    elim (if_some (not (is_holder place b) && is_white past b) (Some b.id) None id h) [
      | inl white ↦ (b, some_same b.id id white.1, right_true (not (is_holder place b)) (is_white past b) white.0, i)
      | inr none ↦ absurd (none_some id none.1)
    ]

excess_in : (blocks : List Block) (x : Option ℕ) (e : Block) → (elim x as (λ _. Option Block) [ None ↦ None | Some a ↦ block_at blocks a ]) ≡ Some e → In e blocks
excess_in blocks None e h = cc
excess_in blocks (Some a) e h = (find_in (λ (b : Block). b.start == a) blocks e h).1

passed_live : (past : Past) (place : Place) (id : ℕ) (o : Option Block) → ((e : Block) → o ≡ Some e → In e (world past).blocks)
    → (elim o as (λ _. Option ℕ) [ None ↦ None | Some e ↦ hit_white past place e ]) ≡ Some id → WhiteIn past id
passed_live past place id None f h = absurd (none_some id h)
passed_live past place id (Some e) f h = hit_white_live past place e id (f e refl) h

hit_block_live : (past : Past) (place : Place) (b : Block) (id : ℕ) → In b (world past).blocks → hit_block past place b ≡ Some id → WhiteIn past id
hit_block_live past place b id i h =
    elim (if_some (is_holder place b) None _ id h) [
      | inl held ↦ absurd (none_some id held.1)
      | inr other ↦ elim (if_some (is_white past b) (Some b.id) _ id other.1) [
        | inl white ↦ (b, some_same b.id id white.1, white.0, i)
        | inr grey ↦ elim (if_some (is_black b) None _ id grey.1) [
          | inl black ↦ absurd (none_some id black.1)
          | inr passed ↦ passed_live past place id (excess_block (world past).blocks b) (λ e s. excess_in (world past).blocks b.excess e s) passed.1
        ]
      ]
    ]

found_live : (past : Past) (place : Place) (id : ℕ) (o : Option Block) → ((e : Block) → o ≡ Some e → In e (world past).blocks)
    → (elim o as (λ _. Option ℕ) [ None ↦ None | Some b ↦ hit_block past place b ]) ≡ Some id → WhiteIn past id
found_live past place id None f h = absurd (none_some id h)
found_live past place id (Some b) f h = hit_block_live past place b id (f b refl) h

-- a load raises the tally of a live white block alone
pub hit_live : (past : Past) (place : Place) (value id : ℕ) → hit_of past place value ≡ Some id → WhiteIn past id
hit_live past place value id h =
    elim (if_some (place.phase == 3) None _ id h) [
      | inl summing ↦ absurd (none_some id summing.1)
      | inr other ↦ found_live past place id (pointed_block (world past).blocks value)
          (λ e s. (find_in (contains (untagged value)) (world past).blocks e s).1) other.1
    ]
