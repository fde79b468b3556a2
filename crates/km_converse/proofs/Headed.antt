use Rattle.std.proofs.Common.{◌≡◌, ℕ, suc, ◌+◌, ◌*◌, ◌<◌, ◌≤◌, nat_lt, true, List, [], Some, None, sym, ap, ◌∙◌, subst, arith, ◌⊎◌, inl, inr, ltb-true}
use Rattle.km_model.specs.Memory.{base}
use Rattle.km_model.specs.Blocks.{Block, Minimum, Black, AtLeast, can_be_reported}
use Rattle.km_model.specs.Placement.{Allocation, HeadBlock, AreaRun, slot_of_area}
use Rattle.km_model.specs.World.{World}
use Rattle.km_model.proofs.Cases.{none_some, some_same}
use Rattle.km_laws.specs.Placed.{BlockPlaced}
use Rattle.km_laws.proofs.Lists.{In, each_in}
use Rattle.km_laws.proofs.Pages.{Sound}
use Rattle.km_laws.proofs.Placings.{one_with, one_at}
use Rattle.km_laws.proofs.Apart.{PlacedIn}
use Rattle.km_converse.proofs.Slots.{Slots, is_other, no_other_head, no_head_area, same_area, area_slot}
use Rattle.km_converse.proofs.Links.{AreDistinct, HeadsFit, HeadsKept}

-- the minimum of what was painted
abbrev pub IsPainted : Minimum → Type 0
IsPainted m = (m ≡ AtLeast 0) ⊎ (m ≡ Black)

-- a block that was there before, maybe painted since
abbrev pub Old : List Block → Block → Type 0
Old bs b =
    (a : Block) × In a bs × (a.id ≡ b.id) × (a.start ≡ b.start) × (a.size ≡ b.size) × (a.excess ≡ b.excess) × ((b.minimum ≡ a.minimum) ⊎ IsPainted b.minimum)

-- the block of the head of an area: it begins at an allocation with the slot of the area, whose start it has as excess
pub record IsHead (used : List Allocation) (b : Block) : Type 0 where
  pub head : Allocation
  pub area : Allocation
  pub slot : ℕ
  pub head_in : In head used
  pub area_in : In area used
  pub head_use : head.«use» ≡ HeadBlock slot
  pub area_use : area.«use» ≡ AreaRun slot
  pub start : head.start ≡ b.start
  pub excess : b.excess ≡ Some area.start
  pub size : b.size ≡ 64

-- a block with an excess is a head; the block of an area needs two references, unless it was painted, and the block registered before it is its head;
-- the block of the table of slots is the first, and needs none
pub record IsKind (used : List Allocation) (bs : List Block) (b : Block) : Type 0 where
  pub head : (b.excess ≡ None) ⊎ IsHead used b
  pub area : (y : Allocation) (s : ℕ) → In y used → y.start ≡ b.start → y.«use» ≡ AreaRun s
      → ((b.minimum ≡ AtLeast 2) ⊎ IsPainted b.minimum) × ((c : Block) × In c bs × (c.id + 1 ≡ b.id) × (c.excess ≡ Some b.start))
  pub table : b.start ≡ base → (b.id ≡ 0) × IsPainted b.minimum

pub record Headed (used : List Allocation) (bs : List Block) : Type 0 where
  pub slots : Slots used
  pub kinds : (b : Block) → In b bs → IsKind used bs b

-- a block stays
abbrev pub Stays : List Block → Block → Type 0
Stays bs c = (d : Block) × In d bs × (d.id ≡ c.id) × (d.excess ≡ c.excess)

-- or what it lay in was given back, or it was in another allocation, or no block is left
abbrev pub Goes : List Allocation → List Allocation → List Block → Block → Type 0
Goes used after bs c =
    ((x : Allocation) → In x after → x.start ≡ c.start → ⊥)
    ⊎ (((x : Allocation) × In x used × (is_other x.«use» ≡ true) × (x.start ≤ c.start) × (c.start < x.start + x.size)) ⊎ (bs ≡ []))

-- what an event changes of allocations and blocks: it makes some or gives some back; each block is an earlier one or is new; and what becomes of each
pub record Step (used : List Allocation) (bs : List Block) (registered : ℕ) (after : List Allocation) (cs : List Block) : Type 0 where
  pub used_by : ((x : Allocation) → In x used → In x after) ⊎ ((x : Allocation) → In x after → In x used)
  pub blocks_by : (b : Block) → In b cs → Old bs b ⊎ ((registered ≤ b.id) × IsKind after cs b)
  pub stays : (c : Block) → In c bs → Stays cs c ⊎ Goes used after cs c

no_member : (b : Block) (bs : List Block) → bs ≡ [] → In b bs → ⊥
no_member b bs e i = subst (λ xs. In b xs) e i

-- a block with an excess is a head
pub is_head : (used : List Allocation) (bs : List Block) (c : Block) (a : ℕ) → IsKind used bs c → c.excess ≡ Some a → (h : IsHead used c) × (h.area.start ≡ a)
is_head used bs c a k e = go k.head
  where
    go : (c.excess ≡ None) ⊎ IsHead used c → (h : IsHead used c) × (h.area.start ≡ a)
    go (inl none) = absurd (none_some a (sym none ∙ e))
    go (inr h) = (h, some_same h.area.start a (sym h.excess ∙ e))

painted_more : (m n : Minimum) → (n ≡ m) ⊎ IsPainted n → IsPainted m → IsPainted n
painted_more m n (inl same) (inl grey) = inl (same ∙ grey)
painted_more m n (inl same) (inr black) = inr (same ∙ black)
painted_more m n (inr painted) p = painted

low_more : (m n : Minimum) → (n ≡ m) ⊎ IsPainted n → (m ≡ AtLeast 2) ⊎ IsPainted m → (n ≡ AtLeast 2) ⊎ IsPainted n
low_more m n (inl same) (inl two) = inl (same ∙ two)
low_more m n (inl same) (inr painted) = inr (painted_more m n (inl same) painted)
low_more m n (inr painted) p = inr painted

pub sized : (room : ℕ) (w : World) (b : Block) → PlacedIn room w → In b w.blocks → 0 < b.size
sized room w b p i =
    let k = (each_in (BlockPlaced w.used) w.blocks b p.blocks_in i).6.1 in
    let e : b.size ≡ 8 * suc k.0 = k.1 in omega (arith, e)

-- the allocation where a block begins, of those before and after an event
module _ (room : ℕ) (w v : World) (before : PlacedIn room w) (after : PlacedIn room v) (step : Step w.used w.blocks w.registered v.used v.blocks) where
  pub still_in : (b : Block) (x : Allocation) → In b v.blocks → In x w.used → x.start ≡ b.start → In x v.used
  still_in b x i j e = go step.used_by
    where
      go : ((y : Allocation) → In y w.used → In y v.used) ⊎ ((y : Allocation) → In y v.used → In y w.used) → In x v.used
      go (inl grows) = grows x j
      go (inr shrinks) =
          let k = each_in (BlockPlaced v.used) v.blocks b after.blocks_in i in
          let pos : 0 < b.size = sized room v b after i in
          let some : 0 < x.size = (each_in (Sound room) w.used x before.sound j).0 in
          let lo : k.0.start ≤ b.start = k.3 in
          let hi : b.start + b.size ≤ k.0.start + k.0.size = k.4 in
          let same : k.0 ≡ x = one_with room w.used w.blocks w.tasks k.0 x b.start before (shrinks k.0 k.1) j lo (omega (arith, hi, pos)) (omega (arith, e)) (omega (arith, e, some)) in
          subst (λ y. In y v.used) same k.1

  pub was_in : (a b : Block) (y : Allocation) → In a w.blocks → a.start ≡ b.start → In y v.used → y.start ≡ b.start → In y w.used
  was_in a b y i same j e = go step.used_by
    where
      go : ((x : Allocation) → In x w.used → In x v.used) ⊎ ((x : Allocation) → In x v.used → In x w.used) → In y w.used
      go (inr shrinks) = shrinks y j
      go (inl grows) =
          let k = each_in (BlockPlaced w.used) w.blocks a before.blocks_in i in
          let pos : 0 < a.size = sized room w a before i in
          let some : 0 < y.size = (each_in (Sound room) v.used y after.sound j).0 in
          let lo : k.0.start ≤ a.start = k.3 in
          let hi : a.start + a.size ≤ k.0.start + k.0.size = k.4 in
          let is : k.0 ≡ y = one_with room v.used v.blocks v.tasks k.0 y a.start after (grows k.0 k.1) j lo (omega (arith, hi, pos)) (omega (arith, e, same)) (omega (arith, e, same, some)) in
          subst (λ x. In x w.used) is k.1

  -- the kinds of blocks are kept
  module _ (headed : Headed w.used w.blocks) (slots : Slots v.used) where
    -- the head's block of an area whose block is still there is there too
    head_stays : (a c : Block) (y : Allocation) (s : ℕ) → In c w.blocks → c.excess ≡ Some a.start → In y w.used → In y v.used → y.start ≡ a.start → y.«use» ≡ AreaRun s
        → Goes w.used v.used v.blocks c → (v.blocks ≡ [] → ⊥) → ⊥
    head_stays a c y s i e j j' start area goes some =
        let h = is_head w.used w.blocks c a.start (headed.kinds c i) e in
        let one : h.0.area ≡ y = one_at room w.used w.blocks w.tasks h.0.area y before h.0.area_in j (h.1 ∙ sym start) in
        let slot : h.0.slot ≡ s = same_area y.«use» h.0.slot s (ap (λ (z : Allocation). z.«use») (sym one) ∙ h.0.area_use) area in
        let use_is : h.0.head.«use» ≡ HeadBlock s = h.0.head_use ∙ ap HeadBlock slot in
        elim goes [
          | inl back ↦
              let x = slots.heads y s j' area in
              elim step.used_by [
                | inl grows ↦ back h.0.head (grows h.0.head h.0.head_in) h.0.start
                | inr shrinks ↦ back x.0 x.1 ((headed.slots).one_head x.0 h.0.head s (shrinks x.0 x.1) h.0.head_in x.2 use_is ∙ h.0.start)
              ]
          | inr more ↦ elim more [
            | inl other ↦
                let pos : 0 < h.0.head.size = (each_in (Sound room) w.used h.0.head before.sound h.0.head_in).0 in
                let at : h.0.head.start ≡ c.start = h.0.start in
                let same : other.0 ≡ h.0.head = one_with room w.used w.blocks w.tasks other.0 h.0.head c.start before other.1 h.0.head_in other.3 other.4 (omega (arith, at)) (omega (arith, at, pos)) in
                no_other_head h.0.head.«use» s (subst (λ (z : Allocation). is_other z.«use» ≡ true) same other.2) use_is
            | inr none ↦ some none
          ]
        ]

    old_kind : (b : Block) → In b v.blocks → Old w.blocks b → IsKind v.used v.blocks b
    old_kind b i old = record {
      head = head_of (headed.kinds old.0 old.1).head;
      area = λ y s j start area.
          let j' = was_in old.0 b y old.1 old.3 j start in
          let k = (headed.kinds old.0 old.1).area y s j' (start ∙ sym old.3) area in
          (low_more old.0.minimum b.minimum old.6 k.0, stay_of y s j' j start area k.1 (step.stays k.1.0 k.1.1));
      table = λ e. let k = (headed.kinds old.0 old.1).table (old.3 ∙ e) in (sym old.2 ∙ k.0, painted_more old.0.minimum b.minimum old.6 k.1);
    }
      where
        head_of : (old.0.excess ≡ None) ⊎ IsHead w.used old.0 → (b.excess ≡ None) ⊎ IsHead v.used b
        head_of (inl none) = inl (sym old.5 ∙ none)
        head_of (inr h) =
            let head_in : In h.head v.used = still_in b h.head i h.head_in (h.start ∙ old.3) in
            let y = slots.areas h.head h.slot head_in h.head_use in
            let h' = slots.heads y.0 h.slot y.1 y.2 in
            inr (record {
              head = h.head;
              area = y.0;
              slot = h.slot;
              head_in = head_in;
              area_in = y.1;
              head_use = h.head_use;
              area_use = y.2;
              start = h.start ∙ old.3;
              excess = sym old.5 ∙ (h.excess ∙ ap (λ (n : ℕ). Some n) (same_start h y.0 y.1 y.2));
              size = sym old.4 ∙ h.size;
            })
          where
            same_start : (h : IsHead w.used old.0) (y : Allocation) → In y v.used → y.«use» ≡ AreaRun h.slot → h.area.start ≡ y.start
            same_start h y j e = elim step.used_by [
              | inl grows ↦ slots.one_area h.area y h.slot (grows h.area h.area_in) j h.area_use e
              | inr shrinks ↦ (headed.slots).one_area h.area y h.slot h.area_in (shrinks y j) h.area_use e
            ]

        stay_of : (y : Allocation) (s : ℕ) → In y w.used → In y v.used → y.start ≡ b.start → y.«use» ≡ AreaRun s
            → (k : (c : Block) × In c w.blocks × (c.id + 1 ≡ old.0.id) × (c.excess ≡ Some old.0.start)) → Stays v.blocks k.0 ⊎ Goes w.used v.used v.blocks k.0
            → (d : Block) × In d v.blocks × (d.id + 1 ≡ b.id) × (d.excess ≡ Some b.start)
        stay_of y s j j' start area k (inl d) = (d.0, d.1, ap (λ n. n + 1) d.2 ∙ (k.2 ∙ old.2), d.3 ∙ (k.3 ∙ ap (λ (n : ℕ). Some n) old.3))
        stay_of y s j j' start area k (inr goes) = absurd (head_stays old.0 k.0 y s k.1 k.3 j j' (start ∙ sym old.3) area goes (λ none. no_member b v.blocks none i))

    pub headed_after : Headed v.used v.blocks
    headed_after = record {
      slots = slots;
      kinds = λ b i. elim (step.blocks_by b i) [ inl old ↦ old_kind b i old | inr new ↦ new.1 ];
    }

-- the heads fit
module _ (room : ℕ) (w : World) (placed : PlacedIn room w) (distinct : AreDistinct w.blocks) (headed : Headed w.used w.blocks) where
  one_head : (c d : Block) (a : ℕ) → In c w.blocks → In d w.blocks → c.excess ≡ Some a → d.excess ≡ Some a → c ≡ d
  one_head c d a i j e f =
      let h = is_head w.used w.blocks c a (headed.kinds c i) e in
      let k = is_head w.used w.blocks d a (headed.kinds d j) f in
      let same : h.0.area ≡ k.0.area = one_at room w.used w.blocks w.tasks h.0.area k.0.area placed h.0.area_in k.0.area_in (h.1 ∙ sym k.1) in
      let slot : h.0.slot ≡ k.0.slot = same_area k.0.area.«use» h.0.slot k.0.slot (ap (λ (z : Allocation). z.«use») (sym same) ∙ h.0.area_use) k.0.area_use in
      distinct.starts c d i j (sym h.0.start ∙ ((headed.slots).one_head h.0.head k.0.head k.0.slot h.0.head_in k.0.head_in (h.0.head_use ∙ ap HeadBlock slot) k.0.head_use ∙ k.0.start))

  -- the block of an area, of which a block is the head
  pub area_kind : (b c : Block) → In b w.blocks → In c w.blocks → c.excess ≡ Some b.start
      → ((b.minimum ≡ AtLeast 2) ⊎ IsPainted b.minimum) × (c.id + 1 ≡ b.id)
  area_kind b c i j e =
      let h = is_head w.used w.blocks c b.start (headed.kinds c j) e in
      let k = (headed.kinds b i).area h.0.area h.0.slot h.0.area_in h.1 h.0.area_use in
      let same : k.1.0 ≡ c = one_head k.1.0 c b.start k.1.1 j k.1.3 e in
      (k.0, ap (λ (x : Block). x.id + 1) (sym same) ∙ k.1.2)

  pub heads_fit : HeadsFit w
  heads_fit = record {
    one = one_head;
    none = λ b c i j e. plain b i (is_head w.used w.blocks c b.start (headed.kinds c j) e) (headed.kinds b i).head;
    two = λ b c i j e can. two_of b (area_kind b c i j e).0 can;
    size = λ c a i e. (is_head w.used w.blocks c a (headed.kinds c i) e).0.size;
  }
    where
      plain : (b : Block) → In b w.blocks → {c : Block} → (h : IsHead w.used c) × (h.area.start ≡ b.start) → (b.excess ≡ None) ⊎ IsHead w.used b → b.excess ≡ None
      plain b i h (inl none) = none
      plain b i h (inr k) =
          let same : k.head ≡ h.0.area = one_at room w.used w.blocks w.tasks k.head h.0.area placed k.head_in h.0.area_in (k.start ∙ sym h.1) in
          absurd (no_head_area h.0.area.«use» k.slot h.0.slot (ap (λ (z : Allocation). z.«use») (sym same) ∙ k.head_use) h.0.area_use)

      two_of : (b : Block) → (b.minimum ≡ AtLeast 2) ⊎ IsPainted b.minimum → can_be_reported b ≡ true → b.minimum ≡ AtLeast 2
      two_of b (inl two) can = two
      two_of b (inr painted) can = absurd (go b.minimum painted can)
        where
          go : (m : Minimum) → IsPainted m → nat_lt 0 (elim m as (λ _. ℕ) [ Black ↦ 0 | AtLeast n ↦ n ]) ≡ true → ⊥
          go Black p e = let lt : 0 < 0 = ltb-true 0 0 e in omega (arith, lt)
          go (AtLeast n) (inl same) e = let lt : 0 < n = ltb-true 0 n e in let z : n ≡ 0 = number n 0 same in omega (arith, lt, z)
            where
              number : (x y : ℕ) → AtLeast x ≡ AtLeast y → x ≡ y
              number x y f = cc
          go (AtLeast n) (inr black) e = clash n black
            where
              clash : (x : ℕ) → AtLeast x ≡ Black → ⊥
              clash x f = cc

  pub slot_at : (b c : Block) → In b w.blocks → In c w.blocks → c.excess ≡ Some b.start → (h : IsHead w.used c) × (h.area.start ≡ b.start) × (slot_of_area w.used b.start ≡ Some h.slot)
  slot_at b c i j e =
      let h = is_head w.used w.blocks c b.start (headed.kinds c j) e in (
        h.0,
        h.1,
        ap (slot_of_area w.used) (sym h.1)
            ∙ area_slot w.used h.0.area h.0.slot (λ x k f. one_at room w.used w.blocks w.tasks x h.0.area placed k h.0.area_in f) h.0.area_in h.0.area_use,
      )

-- and are kept
module _ (room : ℕ) (w v : World) (before : PlacedIn room w) (after : PlacedIn room v) (distinct : AreDistinct w.blocks) (distinct' : AreDistinct v.blocks) (headed : Headed w.used w.blocks) (headed' : Headed v.used v.blocks)
    (low : (a : Block) → In a w.blocks → a.id < w.registered) (step : Step w.used w.blocks w.registered v.used v.blocks) where
  old_of : (b : Block) → In b v.blocks → b.id < w.registered → Old w.blocks b
  old_of b i lt = elim (step.blocks_by b i) [ inl old ↦ old | inr new ↦ absurd (let le = new.0 in omega (arith, lt, le)) ]

  pub heads_kept : HeadsKept w v
  heads_kept = record {
    back = λ b i lt. let a = old_of b i lt in (a.0, a.1, a.2, a.3, a.5);
    heads = λ b c i j e lt. let k = (area_kind room v after distinct' headed' b c i j e).1 in omega (arith, k, lt);
    forth = λ b a c i k j same e. forth b a c i k j same e;
    slots = λ b c i j e lt.
        let a = old_of b i lt in
        let k = slot_at room v after distinct' headed' b c i j e in
        let there : In (k.0).area w.used = was_in room w v before after step a.0 b (k.0).area a.1 a.3 (k.0).area_in k.1 in
        k.2 ∙ sym (ap (slot_of_area w.used) (sym k.1)
        ∙ area_slot w.used (k.0).area (k.0).slot (λ x n f. one_at room w.used w.blocks w.tasks x (k.0).area before n there f) there (k.0).area_use);
  }
    where
      forth : (b a c : Block) → In b v.blocks → In a w.blocks → In c w.blocks → a.id ≡ b.id → c.excess ≡ Some a.start
          → (d : Block) × In d v.blocks × (d.id ≡ c.id) × (d.start ≡ c.start) × (d.excess ≡ c.excess)
      forth b a c i k j same e =
          let lt : a.id < w.registered = low a k in
          let old = old_of b i (subst (λ n. n < w.registered) same lt) in
          let is : old.0 ≡ a = distinct.ids old.0 a old.1 k (old.2 ∙ sym same) in
          let start : a.start ≡ b.start = ap (λ (x : Block). x.start) (sym is) ∙ old.3 in
          let h = is_head w.used w.blocks c a.start (headed.kinds c j) e in
          let there : In (h.0).area v.used = still_in room w v before after step b (h.0).area i (h.0).area_in (h.1 ∙ start) in
          let d = ((headed'.kinds b i).area (h.0).area (h.0).slot there (h.1 ∙ start) (h.0).area_use).1 in
          let next : c.id + 1 ≡ a.id = (area_kind room w before distinct headed a c k j e).1 in
          let id : d.0.id + 1 ≡ b.id = d.2 in
          let ids : d.0.id ≡ c.id = omega (arith, next, id, same) in
          let was = old_of d.0 d.1 (subst (λ n. n < w.registered) (sym ids) (low c j)) in
          let one : was.0 ≡ c = distinct.ids was.0 c was.1 j (was.2 ∙ ids) in
          (d.0, d.1, ids, sym was.3 ∙ ap (λ (x : Block). x.start) one, d.3 ∙ (ap (λ (n : ℕ). Some n) (sym start) ∙ sym e))
