use Rattle.std.proofs.Common.{◌≡◌, ℕ, ◌+◌, ◌*◌, ◌==◌, Bool, true, false, ◌&&◌, ◌||◌, not, nat_lt, List, Option, Some, None, refl, sym, ap, subst, ◌⊎◌, inl, inr, eqb-true}
use Rattle.std.proofs.lemmas.Bool.{cases_Bool, and_parts, not-true, both_ways}
use Rattle.std.specs.List.{list_any}
use Rattle.km_base.specs.Spans.{untagged}
use Rattle.km_model.specs.Blocks.{Block, is_black, points_into, contains, block_at, pointed_block, option_is, needs, is_among}
use Rattle.km_model.specs.Memory.{base}
use Rattle.km_model.specs.Placement.{slot_of_area}
use Rattle.km_model.specs.World.{World}
use Rattle.km_model.specs.Past.{Past, Place, ScanLoad, world}
use Rattle.km_model.specs.Scan.{is_white, is_holder, hit_white, hit_block, hit_of, excess_block}
use Rattle.km_model.specs.Mention.{head_of, is_slot_of, is_own_link, names}
use Rattle.km_model.proofs.Cases.{none_some, some_same, if_some}
use Rattle.km_laws.proofs.Lists.{In, find_in, none_in}
use Rattle.km_laws.proofs.Hits.{option_here}
use Rattle.km_converse.specs.Converse.{is_clear}

-- where a list has a member that passes, some member passes
pub any_from : {X : Type 0} (test : X → Bool) (xs : List X) (x : X) → In x xs → test x ≡ true → list_any test xs ≡ true
any_from test xs x i e =
    elim (cases_Bool (list_any test xs)) [
      | inl yes' ↦ yes'
      | inr none ↦ absurd (both_ways (test x) (none_in test xs x none i) e)
    ]

-- a value points into the block that it hits
pub record IsDirect (past : Past) (place : Place) (value id : ℕ) : Type 0 where
  pub block : Block
  pub live : In block (world past).blocks
  pub points : points_into value block ≡ true
  pub apart : is_holder place block ≡ false
  pub same : block.id ≡ id

-- or it points into a grey block that passes it on
pub record IsPassed (past : Past) (place : Place) (value id : ℕ) : Type 0 where
  pub head : Block
  pub live : In head (world past).blocks
  pub points : points_into value head ≡ true
  pub apart : is_holder place head ≡ false
  pub grey : is_white past head ≡ false
  pub block : Block
  pub there : In block (world past).blocks
  pub excess : head.excess ≡ Some block.start
  pub same : block.id ≡ id

white_same : (past : Past) (place : Place) (b : Block) (id : ℕ) → hit_white past place b ≡ Some id → b.id ≡ id
white_same past place b id h =
    elim (if_some (not (is_holder place b) && is_white past b) (Some b.id) None id h) [
      | inl white ↦ some_same b.id id white.1
      | inr none ↦ absurd (none_some id none.1)
    ]

excess_is : (blocks : List Block) (x : Option ℕ) (e : Block) → (elim x as (λ _. Option Block) [ None ↦ None | Some a ↦ block_at blocks a ]) ≡ Some e
    → (x ≡ Some e.start) × In e blocks
excess_is blocks None e h = cc
excess_is blocks (Some a) e h =
    let f = find_in (λ (b : Block). b.start == a) blocks e h in
    (ap (λ (k : ℕ). Some k) (sym (eqb-true e.start a f.0)), f.1)

passed_is : (past : Past) (place : Place) (value id : ℕ) (b : Block) → In b (world past).blocks → points_into value b ≡ true → is_holder place b ≡ false → is_white past b ≡ false
    → (o : Option Block) → ((e : Block) → o ≡ Some e → (b.excess ≡ Some e.start) × In e (world past).blocks)
    → (elim o as (λ _. Option ℕ) [ None ↦ None | Some e ↦ hit_white past place e ]) ≡ Some id → IsPassed past place value id
passed_is past place value id b i p a g None f h = absurd (none_some id h)
passed_is past place value id b i p a g (Some e) f h =
    let at = f e refl in
    record { head = b; live = i; points = p; apart = a; grey = g; block = e; there = at.1; excess = at.0; same = white_same past place e id h }

block_is : (past : Past) (place : Place) (value id : ℕ) (b : Block) → In b (world past).blocks → points_into value b ≡ true → hit_block past place b ≡ Some id
    → IsDirect past place value id ⊎ IsPassed past place value id
block_is past place value id b i p h =
    elim (if_some (is_holder place b) None _ id h) [
      | inl held ↦ absurd (none_some id held.1)
      | inr other ↦ elim (if_some (is_white past b) (Some b.id) _ id other.1) [
        | inl white ↦ inl (record { block = b; live = i; points = p; apart = other.0; same = some_same b.id id white.1 })
        | inr grey ↦ elim (if_some (is_black b) None _ id grey.1) [
          | inl black ↦ absurd (none_some id black.1)
          | inr passed ↦ inr (passed_is past place value id b i p other.0 grey.0 (excess_block (world past).blocks b) (excess_is (world past).blocks b.excess) passed.1)
        ]
      ]
    ]

found_is : (past : Past) (place : Place) (value id : ℕ) (o : Option Block) → ((b : Block) → o ≡ Some b → (points_into value b ≡ true) × In b (world past).blocks)
    → (elim o as (λ _. Option ℕ) [ None ↦ None | Some b ↦ hit_block past place b ]) ≡ Some id
    → IsDirect past place value id ⊎ IsPassed past place value id
found_is past place value id None f h = absurd (none_some id h)
found_is past place value id (Some b) f h = let at = f b refl in block_is past place value id b at.1 at.0 h

-- how a load hits a block
pub hit_is : (past : Past) (place : Place) (value id : ℕ) → hit_of past place value ≡ Some id
    → ((place.phase == 3) ≡ false) × (IsDirect past place value id ⊎ IsPassed past place value id)
hit_is past place value id h =
    elim (if_some (place.phase == 3) None _ id h) [
      | inl summing ↦ absurd (none_some id summing.1)
      | inr other ↦ (
        other.0,
        found_is past place value id (pointed_block (world past).blocks value) (λ b e. find_in (contains (untagged value)) (world past).blocks b e) other.1,
      )
    ]

-- a word that is the vmap slot of an area
pub record IsSlotWord (w : World) (b : Block) (a : ℕ) : Type 0 where
  pub slot : ℕ
  pub taken : slot_of_area w.used b.start ≡ Some slot
  pub word : a ≡ base + 8 * slot

-- an own link of a block: the slot with a pointer to the head, or the second word of the head
pub record IsLinked (w : World) (b : Block) (a v : ℕ) : Type 0 where
  pub head : Block
  pub live : In head w.blocks
  pub excess : head.excess ≡ Some b.start
  pub one : needs 1 head ≡ true
  pub which : (IsSlotWord w b a × (points_into v head ≡ true)) ⊎ (a ≡ head.start + 8)

slot_word : (w : World) (b : Block) (a : ℕ) (o : Option ℕ) → slot_of_area w.used b.start ≡ o
    → (elim o as (λ _. Bool) [ None ↦ false | Some slot ↦ a == base + 8 * slot ]) ≡ true → IsSlotWord w b a
slot_word w b a None e h = cc
slot_word w b a (Some slot) e h = record { slot = slot; taken = e; word = eqb-true a (base + 8 * slot) h }

link_of : (w : World) (b : Block) (a v : ℕ) (o : Option Block) → ((c : Block) → o ≡ Some c → (option_is c.excess b.start ≡ true) × In c w.blocks)
    → (elim o as (λ _. Bool) [ None ↦ false | Some head ↦ needs 1 head && ((is_slot_of w.used b a && points_into v head) || a == head.start + 8) ]) ≡ true → IsLinked w b a v
link_of w b a v None f h = cc
link_of w b a v (Some c) f h =
    let at = f c refl in
    let parts = and_parts (needs 1 c) ((is_slot_of w.used b a && points_into v c) || a == c.start + 8) h in
    record {
      head = c;
      live = at.1;
      excess = option_here c.excess b.start at.0;
      one = parts.0;
      which = elim (cases_Bool (is_slot_of w.used b a && points_into v c)) [
        | inl both ↦ let halves = and_parts (is_slot_of w.used b a) (points_into v c) both in inl (slot_word w b a (slot_of_area w.used b.start) refl halves.0, halves.1)
        | inr none ↦ inr (eqb-true a (c.start + 8) (subst (λ q. (q || a == c.start + 8) ≡ true) none parts.1))
      ];
    }

pub link_is : (w : World) (b : Block) (a v : ℕ) → is_own_link w b a v ≡ true → IsLinked w b a v
link_is w b a v h = link_of w b a v (head_of w.blocks b) (λ c e. find_in (λ (d : Block). option_is d.excess b.start) w.blocks c e) h

-- a clear load that points into a block or its head is an own link, if its holder is outside the set
pub clear_link : (w : World) (ids : List ℕ) (b : Block) (l : ScanLoad) → is_clear w ids b l ≡ true
    → (nat_lt 1 l.place.phase && is_among l.place.holder ids) ≡ false → names w b l.value ≡ true → IsLinked w b l.place.word l.value
clear_link w ids b l clear out named =
    link_is w b l.place.word l.value
    (elim (cases_Bool (is_own_link w b l.place.word l.value)) [
      | inl own ↦ own
      | inr none ↦ absurd (both_ways false refl
          (subst (λ q. (q || not (names w b l.value)) ≡ true → false ≡ true) (sym none)
          (λ e. both_ways' (names w b l.value) e named)
          (subst (λ q. (q || is_own_link w b l.place.word l.value || not (names w b l.value)) ≡ true) out clear)))
    ])
  where
    both_ways' : (q : Bool) → not q ≡ true → q ≡ true → false ≡ true
    both_ways' q e f = absurd (both_ways q (not-true q e) f)
