use Rattle.std.proofs.Common.{◌≡◌, ℕ, zero, suc, ◌+◌, ◌*◌, ◌≤◌, ◌<◌, ◌==◌, Bool, true, false, ◌&&◌, not, cond, nat_lt, List, [], ◌∷◌, Some, None, refl, sym, ◌∙◌, ap, subst, arith, ◌⊎◌, inl, inr, eqb-true, eq-eqb, lt-ltb, le-leb, ltb-true}
use Rattle.std.proofs.lemmas.Bool.{and_from, or_left, or_right, both_ways}
use Rattle.km_laws.proofs.Lists.{count_by-count}
use Rattle.km_laws.proofs.Hits.{hits, option_here}
use Rattle.km_model.proofs.Cases.{none_some, some_same}
use Rattle.km_base.specs.Spans.{untagged}
use Rattle.km_model.specs.Memory.{base}
use Rattle.km_model.specs.Blocks.{Block, Minimum, Black, AtLeast, points_into, contains, option_is, needs, is_among, can_be_reported}
use Rattle.km_model.specs.Placement.{slot_of_area}
use Rattle.km_model.specs.World.{World}
use Rattle.km_model.specs.Past.{Past, Place, ScanLoad, world, loads}
use Rattle.km_model.specs.Scan.{is_white, is_holder, scan_load, changed_in, tally_in}
use Rattle.km_model.specs.Mention.{names}
use Rattle.km_laws.proofs.Lists.{In}
use Rattle.km_laws.proofs.Whites.{white_in, white_by, white_is}
use Rattle.km_converse.specs.Converse.{is_clear}
use Rattle.km_converse.proofs.Hits.{any_from, hit_is, IsSlotWord, IsLinked, clear_link}

-- a load of the second or the fourth phase
abbrev pub IsGrey : Place → Type 0
IsGrey p = (p.phase ≡ 2) ⊎ (p.phase ≡ 4)

-- blocks have different ids, bytes and starts
pub record AreDistinct (blocks : List Block) : Type 0 where
  pub ids : (b c : Block) → In b blocks → In c blocks → b.id ≡ c.id → b ≡ c
  pub bytes : (a : ℕ) (b c : Block) → In b blocks → In c blocks → contains a b ≡ true → contains a c ≡ true → b ≡ c
  pub starts : (b c : Block) → In b blocks → In c blocks → b.start ≡ c.start → b ≡ c

-- the heads of areas: 64 bytes, one for an area, which is no head and needs two references
pub record HeadsFit (w : World) : Type 0 where
  pub one : (c d : Block) (a : ℕ) → In c w.blocks → In d w.blocks → c.excess ≡ Some a → d.excess ≡ Some a → c ≡ d
  pub none : (b c : Block) → In b w.blocks → In c w.blocks → c.excess ≡ Some b.start → b.excess ≡ None
  pub two : (b c : Block) → In b w.blocks → In c w.blocks → c.excess ≡ Some b.start → can_be_reported b ≡ true → b.minimum ≡ AtLeast 2
  pub size : (c : Block) (a : ℕ) → In c w.blocks → c.excess ≡ Some a → c.size ≡ 64

-- what is so of the next load's place: its word is one of its holder or of a stack, and it was not loaded for this holder;
-- the word of a vmap slot is one of the page of vmap slots, in the second phase; before the sums no sum was found changed
pub record PlaceFits (past : Past) (place : Place) : Type 0 where
  pub phase : (place.phase ≡ 1) ⊎ IsGrey place ⊎ (place.phase ≡ 3)
  pub inside : IsGrey place → (b : Block) × In b (world past).blocks × (b.id ≡ place.holder) × (contains place.word b ≡ true)
  pub outside : place.phase ≡ 1 → (b : Block) → In b (world past).blocks → contains place.word b ≡ false
  pub fresh : IsGrey place → (l : ScanLoad) → In l (loads past) → IsGrey l.place → l.place.holder ≡ place.holder → l.place.word ≡ place.word → ⊥
  pub table : (b : Block) → In b (world past).blocks → IsSlotWord (world past) b place.word → (place.phase == 3) ≡ false → (place.phase ≡ 2) × (place.holder ≡ 0)
  pub early : place.phase ≤ 2 → (id : ℕ) → changed_in (loads past) id ≡ false

-- a load of the second word of the head of a block
pub record IsLinkLoad (w : World) (b : Block) (l : ScanLoad) : Type 0 where
  pub head : Block
  pub live : In head w.blocks
  pub excess : head.excess ≡ Some b.start
  pub grey : IsGrey l.place
  pub holder : l.place.holder ≡ head.id
  pub word : l.place.word ≡ head.start + 8

-- a load of the vmap slot of a block
pub record IsSlotLoad (w : World) (b : Block) (l : ScanLoad) : Type 0 where
  pub slot : IsSlotWord w b l.place.word
  pub grey : IsGrey l.place
  pub holder : l.place.holder ≡ 0

-- of the blocks of a set and the loads of a scan so far: only the second word of its head was found to refer to one of them, and once at most,
-- and only its slot to its head
pub record AreQuiet (ids : List ℕ) (w : World) (ls : List ScanLoad) : Type 0 where
  pub linked : (b : Block) → In b w.blocks → is_among b.id ids ≡ true → (l : ScanLoad) → In l ls → l.hit ≡ Some b.id → IsLinkLoad w b l
  pub slotted : (b c : Block) → In b w.blocks → In c w.blocks → is_among b.id ids ≡ true → c.excess ≡ Some b.start
      → (l : ScanLoad) → In l ls → l.hit ≡ Some c.id → IsSlotLoad w b l
  pub once : (b : Block) → In b w.blocks → is_among b.id ids ≡ true → hits b.id ls ≤ 1

-- at the begin of a scan
pub quiet_begin : (ids : List ℕ) (w : World) → AreQuiet ids w []
quiet_begin ids w = record {
  linked = λ b i m l j. absurd j;
  slotted = λ b c i k m e l j. absurd j;
  once = λ b i m. omega arith;
}

pub tally_is : (ls : List ScanLoad) (id : ℕ) → tally_in ls id ≡ hits id ls
tally_is ls id = count_by-count (λ (l : ScanLoad). option_is l.hit id) ls

-- where a block was hit, a load hit it
pub some_hit : (id : ℕ) (ls : List ScanLoad) → 1 ≤ hits id ls → (l : ScanLoad) × In l ls × (l.hit ≡ Some id)
some_hit id [] le = absurd (omega (arith, le))
some_hit id (l ∷ ls) le =
    elim (option_is l.hit id) as (λ q. option_is l.hit id ≡ q → 1 ≤ cond q 1 0 + hits id ls → (k : ScanLoad) × In k (l ∷ ls) × (k.hit ≡ Some id)) [
      | true ↦ λ e _. (l, inl refl, option_here l.hit id e)
      | false ↦ λ _ f. let rest = some_hit id ls (omega (arith, f)) in (rest.0, inr rest.1, rest.2)
    ] refl le

pub no_hit : (id : ℕ) (ls : List ScanLoad) → ((l : ScanLoad) → In l ls → l.hit ≡ Some id → ⊥) → hits id ls ≡ 0
no_hit id [] none = refl
no_hit id (l ∷ ls) none =
    let rest : hits id ls ≡ 0 = no_hit id ls (λ k i. none k (inr i)) in
    elim (option_is l.hit id) as (λ q. option_is l.hit id ≡ q → cond q 1 0 + hits id ls ≡ 0) [
      | true ↦ λ e. absurd (none l (inl refl) (option_here l.hit id e))
      | false ↦ λ _. omega (arith, rest)
    ] refl

white_from : (t : ℕ) (c : Bool) (q : Minimum) (m : ℕ) → q ≡ AtLeast m → t < m → c ≡ false → white_by t c q ≡ true
white_from t c q m e lt f =
    subst (λ x. white_by t c x ≡ true) (sym e) (and_from (nat_lt t m) (not c) (lt-ltb t m lt) (ap not f))

-- a block that can be reported needs a reference
pub minimum_of : (b : Block) → can_be_reported b ≡ true → (m : ℕ) × (b.minimum ≡ AtLeast m) × (1 ≤ m)
minimum_of b e = go b.minimum refl e
  where
    go : (q : Minimum) → b.minimum ≡ q → nat_lt 0 (elim q as (λ _. ℕ) [ Black ↦ 0 | AtLeast m ↦ m ]) ≡ true → (m : ℕ) × (b.minimum ≡ AtLeast m) × (1 ≤ m)
    go Black f g = absurd (let lt : 0 < 0 = ltb-true 0 0 g in omega (arith, lt))
    go (AtLeast m) f g = let lt : 0 < m = ltb-true 0 m g in (m, f, omega (arith, lt))

-- the blocks of the set are white, but for those whose sum was found changed
pub quiet_white : (ids : List ℕ) (w : World) (ls : List ScanLoad) → HeadsFit w → AreQuiet ids w ls
    → (b : Block) → In b w.blocks → is_among b.id ids ≡ true → can_be_reported b ≡ true → changed_in ls b.id ≡ false → white_in ls b ≡ true
quiet_white ids w ls heads v b i m can unchanged = go (hits b.id ls) refl
  where
    go : (n : ℕ) → hits b.id ls ≡ n → white_in ls b ≡ true
    go zero e =
        let min = minimum_of b can in
        let same : tally_in ls b.id ≡ hits b.id ls = tally_is ls b.id in
        let low : 1 ≤ min.0 = min.2 in
        white_from (tally_in ls b.id) (changed_in ls b.id) b.minimum min.0 min.1 (omega (arith, e, same, low)) unchanged
    go (suc n) e =
        let hit = some_hit b.id ls (omega (arith, e)) in
        let link = v.linked b i m hit.0 hit.1 hit.2 in
        let once : hits b.id ls ≤ 1 = v.once b i m in
        let same : tally_in ls b.id ≡ hits b.id ls = tally_is ls b.id in
        white_from (tally_in ls b.id) (changed_in ls b.id) b.minimum 2 (heads.two b link.head i link.live link.excess can) (omega (arith, once, same)) unchanged

second_word : (c : Block) → c.size ≡ 64 → contains (c.start + 8) c ≡ true
second_word c e = and_from _ _ (le-leb c.start (c.start + 8) (omega arith)) (lt-ltb (c.start + 8) (c.start + c.size) (omega (arith, e)))

-- a load
module _ (ids : List ℕ) (past : Past) (place : Place) (value : ℕ) (distinct : AreDistinct (world past).blocks) (heads : HeadsFit (world past)) (fit : PlaceFits past place)
    (out : (place.phase == 3) ≡ false → (nat_lt 1 place.phase && is_among place.holder ids) ≡ false)
    (clear : (place.phase == 3) ≡ false → (b : Block) → In b (world past).blocks → is_among b.id ids ≡ true → is_clear (world past) ids b (scan_load past place value) ≡ true)
    (old : AreQuiet ids (world past) (loads past)) where
  abbrev l : ScanLoad
  l = scan_load past place value

  abbrev w : World
  w = world past

  named : (b : Block) → points_into value b ≡ true → names w b value ≡ true
  named b e = or_left (points_into value b) _ e

  named_by : (b c : Block) → In c w.blocks → c.excess ≡ Some b.start → points_into value c ≡ true → names w b value ≡ true
  named_by b c i e p =
      or_right (points_into value b) _
      (any_from (λ (d : Block). option_is d.excess b.start && points_into value d) w.blocks c i
      (and_from (option_is c.excess b.start) (points_into value c) (subst (λ o. option_is o b.start ≡ true) (sym e) (eq-eqb b.start b.start refl)) p))

  link : (place.phase == 3) ≡ false → (b : Block) → In b w.blocks → is_among b.id ids ≡ true → names w b value ≡ true → IsLinked w b place.word value
  link counts b i m e = clear_link w ids b l (clear counts b i m) (out counts) e

  -- a counting load of a word of a head is made for the head
  by_head : (place.phase == 3) ≡ false → (c : Block) → In c w.blocks → c.size ≡ 64 → place.word ≡ c.start + 8 → IsGrey place × (place.holder ≡ c.id)
  by_head counts c i size e =
      let inside : contains place.word c ≡ true = subst (λ a. contains a c ≡ true) (sym e) (second_word c size) in
      elim fit.phase [
        | inl one ↦ absurd (both_ways (contains place.word c) (fit.outside one c i) inside)
        | inr more ↦ elim more [
          | inl grey ↦
              let b = fit.inside grey in
              let same : b.0 ≡ c = distinct.bytes place.word b.0 c b.1 i b.3 inside in
              (grey, sym b.2 ∙ ap (λ (x : Block). x.id) same)
          | inr three ↦ absurd (both_ways (place.phase == 3) counts (eq-eqb place.phase 3 three))
        ]
      ]

  held : (c : Block) → IsGrey place → place.holder ≡ c.id → is_holder place c ≡ true
  held c grey e = and_from (nat_lt 1 place.phase) (place.holder == c.id) (lt-ltb 1 place.phase (above grey)) (eq-eqb place.holder c.id e)
    where
      above : IsGrey place → 1 < place.phase
      above (inl two) = omega (arith, two)
      above (inr four) = omega (arith, four)

  -- a slot's load finds the head white
  head_white : (place.phase == 3) ≡ false → (b c : Block) → In b w.blocks → In c w.blocks → is_among b.id ids ≡ true → c.excess ≡ Some b.start → needs 1 c ≡ true
      → IsSlotWord w b place.word → is_white past c ≡ true
  head_white counts b c i j m e one s =
      let at = fit.table b i s counts in
      let none : hits c.id (loads past) ≡ 0 = no_hit c.id (loads past) (λ k n h.
      let k' = old.slotted b c i j m e k n h in
      fit.fresh (inl at.0) k n k'.grey (k'.holder ∙ sym at.1) (same_slot k'.slot s)) in
      let same : tally_in (loads past) c.id ≡ hits c.id (loads past) = tally_is (loads past) c.id in
      let two : place.phase ≡ 2 = at.0 in
      white_is past c ∙ white_from (tally_in (loads past) c.id) (changed_in (loads past) c.id) c.minimum 1 (one_is c.minimum one) (omega (arith, none, same)) (fit.early (omega (arith, two)) c.id)
    where
      same_slot : {a : ℕ} → IsSlotWord w b a → IsSlotWord w b place.word → a ≡ place.word
      same_slot s t = let same : s.slot ≡ t.slot = some_same s.slot t.slot (sym s.taken ∙ t.taken) in s.word ∙ (ap (λ n. base + 8 * n) same ∙ sym t.word)

      one_is : (q : Minimum) → (elim q as (λ _. Bool) [ Black ↦ false | AtLeast m ↦ m == 1 ]) ≡ true → q ≡ AtLeast 1
      one_is Black f = cc
      one_is (AtLeast n) f = ap AtLeast (eqb-true n 1 f)

  -- a load that hits a block of the set is of the second word of its head
  pub hit_links : (b : Block) → In b w.blocks → is_among b.id ids ≡ true → l.hit ≡ Some b.id → IsLinkLoad w b l
  hit_links b i m h =
      let how = hit_is past place value b.id h in
      elim how.1 [
        | inl direct ↦
            let same : direct.block ≡ b = distinct.ids direct.block b direct.live i direct.same in
            let points : points_into value b ≡ true = subst (λ x. points_into value x ≡ true) same direct.points in
            let k = link how.0 b i m (named b points) in
            elim k.which [
              | inl slot ↦ absurd (two_heads b k.head i k.live k.excess points slot.1)
              | inr second ↦ linked how.0 k.head k.live k.excess second
            ]
        | inr passed ↦
            let same : passed.block ≡ b = distinct.ids passed.block b passed.there i passed.same in
            let excess : (passed.head).excess ≡ Some b.start = subst (λ (x : Block). (passed.head).excess ≡ Some x.start) same passed.excess in
            let k = link how.0 b i m (named_by b passed.head passed.live excess passed.points) in
            let head : k.head ≡ passed.head = heads.one k.head passed.head b.start k.live passed.live k.excess excess in
            elim k.which [
              | inl slot ↦ absurd (both_ways (is_white past passed.head) passed.grey
                  (subst (λ x. is_white past x ≡ true) head (head_white how.0 b k.head i k.live m k.excess k.one slot.0)))
              | inr second ↦ linked how.0 k.head k.live k.excess second
            ]
      ]
    where
      linked : (place.phase == 3) ≡ false → (c : Block) → In c w.blocks → c.excess ≡ Some b.start → place.word ≡ c.start + 8 → IsLinkLoad w b l
      linked counts c j e second =
          let at = by_head counts c j (heads.size c b.start j e) second in
          record { head = c; live = j; excess = e; grey = at.0; holder = at.1; word = second }

      two_heads : (x c : Block) → In x w.blocks → In c w.blocks → c.excess ≡ Some x.start → points_into value x ≡ true → points_into value c ≡ true → ⊥
      two_heads x c j k e p q =
          let same : x ≡ c = distinct.bytes (untagged value) x c j k p q in
          let none : x.excess ≡ None = heads.none x c j k e in
          let clash : None ≡ Some x.start = sym none ∙ (ap (λ (y : Block). y.excess) same ∙ e) in
          none_some x.start clash

  -- a load that hits the head of one is of its slot
  pub hit_slots : (b c : Block) → In b w.blocks → In c w.blocks → is_among b.id ids ≡ true → c.excess ≡ Some b.start → l.hit ≡ Some c.id → IsSlotLoad w b l
  hit_slots b c i j m e h =
      let how = hit_is past place value c.id h in
      elim how.1 [
        | inl direct ↦
            let same : direct.block ≡ c = distinct.ids direct.block c direct.live j direct.same in
            let points : points_into value c ≡ true = subst (λ x. points_into value x ≡ true) same direct.points in
            let k = link how.0 b i m (named_by b c j e points) in
            let head : k.head ≡ c = heads.one k.head c b.start k.live j k.excess e in
            elim k.which [
              | inl slot ↦ let at = fit.table b i slot.0 how.0 in record { slot = slot.0; grey = inl at.0; holder = at.1 }
              | inr second ↦
                  let at = by_head how.0 c j (heads.size c b.start j e) (subst (λ (x : Block). place.word ≡ x.start + 8) head second) in
                  absurd (both_ways (is_holder place c) (subst (λ x. is_holder place x ≡ false) same direct.apart) (held c at.0 at.1))
            ]
        | inr passed ↦
            let same : passed.block ≡ c = distinct.ids passed.block c passed.there j passed.same in
            let excess : (passed.head).excess ≡ Some c.start = subst (λ (x : Block). (passed.head).excess ≡ Some x.start) same passed.excess in
            absurd (none_some b.start (sym (heads.none c passed.head j passed.live excess) ∙ e))
      ]

  -- what a load keeps
  pub quiet_load : AreQuiet ids w (l ∷ loads past)
  quiet_load = record {
    linked = λ b i m k at h. elim at [ inl e ↦ subst (λ x. IsLinkLoad w b x) (sym e) (hit_links b i m (subst (λ (x : ScanLoad). x.hit ≡ Some b.id) e h)) | inr n ↦ old.linked b i m k n h ];
    slotted = λ b c i j m e k at h. elim at [ inl f ↦ subst (λ x. IsSlotLoad w b x) (sym f) (hit_slots b c i j m e (subst (λ (x : ScanLoad). x.hit ≡ Some c.id) f h)) | inr n ↦ old.slotted b c i j m e k n h ];
    once = λ b i m. more b i m;
  }
    where
      more : (b : Block) → In b w.blocks → is_among b.id ids ≡ true → hits b.id (l ∷ loads past) ≤ 1
      more b i m =
          elim (option_is l.hit b.id) as (λ q. option_is l.hit b.id ≡ q → cond q 1 0 + hits b.id (loads past) ≤ 1) [
            | true ↦ λ e.
                let k = hit_links b i m (option_here l.hit b.id e) in
                let none : hits b.id (loads past) ≡ 0 = no_hit b.id (loads past) (λ x n h.
                let before = old.linked b i m x n h in
                let same : before.head ≡ k.head = heads.one before.head k.head b.start before.live k.live before.excess k.excess in
                fit.fresh k.grey x n before.grey (before.holder ∙ (ap (λ (y : Block). y.id) same ∙ sym k.holder))
                (before.word ∙ (ap (λ (y : Block). y.start + 8) same ∙ sym k.word))) in
                omega (arith, none)
            | false ↦ λ _. let le : hits b.id (loads past) ≤ 1 = old.once b i m in omega (arith, le)
          ] refl

-- what an event leaves of blocks: what was registered before keeps id, start and excess, and a head and its slot stay as long as its area
pub record HeadsKept (w v : World) : Type 0 where
  pub back : (b : Block) → In b v.blocks → b.id < w.registered → (a : Block) × In a w.blocks × (a.id ≡ b.id) × (a.start ≡ b.start) × (a.excess ≡ b.excess)
  pub heads : (b c : Block) → In b v.blocks → In c v.blocks → c.excess ≡ Some b.start → b.id < w.registered → c.id < w.registered
  pub forth : (b a c : Block) → In b v.blocks → In a w.blocks → In c w.blocks → a.id ≡ b.id → c.excess ≡ Some a.start
      → (d : Block) × In d v.blocks × (d.id ≡ c.id) × (d.start ≡ c.start) × (d.excess ≡ c.excess)
  pub slots : (b c : Block) → In b v.blocks → In c v.blocks → c.excess ≡ Some b.start → b.id < w.registered → slot_of_area v.used b.start ≡ slot_of_area w.used b.start

-- an event that makes no load
pub quiet_step : (ids : List ℕ) (w v : World) (ls : List ScanLoad) → HeadsKept w v → ((b : Block) → In b v.blocks → is_among b.id ids ≡ true → b.id < w.registered)
    → AreQuiet ids w ls → AreQuiet ids v ls
quiet_step ids w v ls kept earlier old = record {
  linked = λ b i m l n h.
      let a = kept.back b i (earlier b i m) in
      let k = old.linked a.0 a.1 (subst (λ x. is_among x ids ≡ true) (sym a.2) m) l n (h ∙ ap (λ (x : ℕ). Some x) (sym a.2)) in
      let d = kept.forth b a.0 k.head i a.1 k.live a.2 k.excess in
      record {
        head = d.0;
        live = d.1;
        excess = d.4 ∙ (k.excess ∙ ap (λ (x : ℕ). Some x) a.3);
        grey = k.grey;
        holder = k.holder ∙ sym d.2;
        word = k.word ∙ ap (λ x. x + 8) (sym d.3);
      };
  slotted = λ b c i j m e l n h.
      let low = earlier b i m in
      let a = kept.back b i low in
      let d = kept.back c j (kept.heads b c i j e low) in
      let k = old.slotted a.0 d.0 a.1 d.1 (subst (λ x. is_among x ids ≡ true) (sym a.2) m) (d.4 ∙ (e ∙ ap (λ (x : ℕ). Some x) (sym a.3))) l n (h ∙ ap (λ (x : ℕ). Some x) (sym d.2)) in
      record {
        slot = record {
          slot = (k.slot).slot;
          taken = kept.slots b c i j e low ∙ (ap (slot_of_area w.used) (sym a.3) ∙ (k.slot).taken);
          word = (k.slot).word;
        };
        grey = k.grey;
        holder = k.holder;
      };
  once = λ b i m.
      let a = kept.back b i (earlier b i m) in
      subst (λ x. hits x ls ≤ 1) a.2 (old.once a.0 a.1 (subst (λ x. is_among x ids ≡ true) (sym a.2) m));
}
