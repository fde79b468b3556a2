use Rattle.std.proofs.Common.{◌≡◌, ℕ, suc, ◌<◌, ◌≤◌, Bool, true, false, not, ◌&&◌, ◌==◌, List, [], ◌∷◌, length, get_or, Option, Some, None, option_map, IfSome, nat_lt, if◌then◌else◌, refl, sym, ap, ◌∙◌, subst, arith, ◌⊎◌, inl, inr}
use Rattle.std.specs.List.{All, list_any}
use Rattle.std.proofs.lemmas.Bool.{and_from, and_parts, both_ways, cases_eq, cases_lt, eq-eqb, eqb-true, false_from_ne_true, ne_eqb, or_cases, or_from, le-ltb}
use Rattle.std.proofs.lemmas.List.{get_or_past}
use Rattle.km_model.specs.Placement.{Allocation, Use, SlotTable, SectionRun, StackPage, SlabBlock, LargeRun, PlainRun, BootRun, HeadBlock, AreaRun, area_place, has_slot, head_with, lowest_slot, slot_of_area}
use Rattle.km_base.specs.declared.spans.Addr.{Addr}
use Rattle.km_base.specs.declared.acts.Answer.{Answer}
use Rattle.km_base.specs.declared.acts.Answer.TheVariants.{Refused}
use Rattle.km_base.specs.declared.acts.Refusal.{Refusal}
use Rattle.km_base.specs.declared.acts.Refusal.TheVariants as refusal
use Rattle.km_model.specs.Answers.{unless, at_place, is_bad_size}
use Rattle.km_model.proofs.Cases.{some_same}
use Rattle.km_pages.specs.declared.runs.Run.{Run}
use Rattle.km_slab.specs.Blocks.{Sheets}
use Rattle.km_pages.proofs.FirstFit.{least_is}
use Rattle.km_pages.proofs.Touching.{passing}
use Rattle.km_slab.proofs.Slots.{any_in}
use Rattle.km_vmalloc.specs.declared.areas.VmArea.{VmArea}
use Rattle.km_vmalloc.specs.Areas.{AreAreas, Fits, IsPart, area_at, area_start, head_start, is_head, is_head_at, vmalloc_answer}

pub area_cases : (o : Option VmArea) → (o ≡ None) ⊎ ((v : VmArea) × (o ≡ Some v))
area_cases None = inl refl
area_cases (Some v) = inr (v, refl)

pub clash : (o : Option VmArea) (v : VmArea) → o ≡ None → o ≡ Some v → ⊥
clash o v a b = cc

pub one_area : (o : Option VmArea) (v w : VmArea) → o ≡ Some v → o ≡ Some w → v ≡ w
one_area o v w a b = some_same v w (sym a ∙ b)

-- what the tests tell
pub area_use : (u : Use) (s : ℕ) → (elim u as (λ _. Bool) [ AreaRun t ↦ t == s | _ ↦ false ]) ≡ true → u ≡ AreaRun s
area_use SlotTable s e = absurd cc
area_use (SectionRun n) s e = absurd cc
area_use StackPage s e = absurd cc
area_use SlabBlock s e = absurd cc
area_use LargeRun s e = absurd cc
area_use PlainRun s e = absurd cc
area_use BootRun s e = absurd cc
area_use (HeadBlock t) s e = absurd cc
area_use (AreaRun t) s e = ap AreaRun (eqb-true t s e)

pub head_use : (u : Use) (s : ℕ) → (elim u as (λ _. Bool) [ HeadBlock t ↦ t == s | _ ↦ false ]) ≡ true → u ≡ HeadBlock s
head_use SlotTable s e = absurd cc
head_use (SectionRun n) s e = absurd cc
head_use StackPage s e = absurd cc
head_use SlabBlock s e = absurd cc
head_use LargeRun s e = absurd cc
head_use PlainRun s e = absurd cc
head_use BootRun s e = absurd cc
head_use (HeadBlock t) s e = ap HeadBlock (eqb-true t s e)
head_use (AreaRun t) s e = absurd cc

pub any_head : (u : Use) (q : Bool) → (elim u as (λ _. Bool) [ HeadBlock _ ↦ q | _ ↦ false ]) ≡ true → (s : ℕ) × (u ≡ HeadBlock s) × (q ≡ true)
any_head SlotTable q e = absurd cc
any_head (SectionRun n) q e = absurd cc
any_head StackPage q e = absurd cc
any_head SlabBlock q e = absurd cc
any_head LargeRun q e = absurd cc
any_head PlainRun q e = absurd cc
any_head BootRun q e = absurd cc
any_head (HeadBlock t) q e = (t, refl, e)
any_head (AreaRun t) q e = absurd cc

unless_not : (b : Bool) (r : Refusal) (x : Answer) → b ≡ false → unless b r x ≡ x
unless_not b r x e = ap (λ c. if c then Refused r else x) e

unless_so : (b : Bool) (r : Refusal) (x : Answer) → b ≡ true → unless b r x ≡ Refused r
unless_so b r x e = ap (λ c. if c then Refused r else x) e

-- a slot without a live area has none among the allocations
pub slot_free : (areas : List (Option VmArea)) (used : List Allocation) (s : ℕ) → AreAreas areas used → area_at areas s ≡ None → list_any (has_slot s) used ≡ false
slot_free areas used s a none = false_from_ne_true (list_any (has_slot s) used) (λ h.
    let x = passing (λ (x : Allocation). (t : ℕ) → x.«use» ≡ AreaRun t → IsPart areas t x.start area_start) (has_slot s) used a.runs h in
    let part = x.1 s (area_use x.0.«use» s x.2) in
    clash (area_at areas s) part.area none part.live)

pub lowest_free : (areas : List (Option VmArea)) (used : List Allocation) (slot : ℕ) → AreAreas areas used → slot ≤ 512 → area_at areas slot ≡ None → ((t : ℕ) → t < slot → area_at areas t ≡ None → ⊥) → lowest_slot used ≡ slot
lowest_free areas used slot a within none lower =
    least_is (λ s. not (list_any (has_slot s) used)) 512 0 slot
    (λ q le lt. elim (area_cases (area_at areas q)) [ inl free ↦ absurd (lower q lt free) | inr live ↦ ap not (a.area_live q live.0 live.1) ])
    (ap not (slot_free areas used slot a none)) (omega arith) (omega (arith, within))

pub all_taken : (areas : List (Option VmArea)) (used : List Allocation) → AreAreas areas used → length areas ≡ 512 → ((t : ℕ) → t < length areas → area_at areas t ≡ None → ⊥) → lowest_slot used ≡ 512
all_taken areas used a count full =
    lowest_free areas used 512 a (omega arith) (get_or_past areas 512 None (omega (arith, count))) (λ t lt. full t (omega (arith, lt, count)))

-- the slot of the area that begins at an address
slot_step : (u : Use) (q : Bool) (t : ℕ) (rest : Option ℕ) → ((s : ℕ) → u ≡ AreaRun s → q ≡ true → s ≡ t) → (((elim u as (λ _. Bool) [ AreaRun s ↦ s == t | _ ↦ false ]) && q) ≡ true) ⊎ (rest ≡ Some t)
    → (elim u as (λ _. Option ℕ) [ AreaRun s ↦ if q then Some s else rest | _ ↦ rest ]) ≡ Some t
slot_step SlotTable q t rest f h = elim h [ inl e ↦ absurd cc | inr r ↦ r ]
slot_step (SectionRun n) q t rest f h = elim h [ inl e ↦ absurd cc | inr r ↦ r ]
slot_step StackPage q t rest f h = elim h [ inl e ↦ absurd cc | inr r ↦ r ]
slot_step SlabBlock q t rest f h = elim h [ inl e ↦ absurd cc | inr r ↦ r ]
slot_step LargeRun q t rest f h = elim h [ inl e ↦ absurd cc | inr r ↦ r ]
slot_step PlainRun q t rest f h = elim h [ inl e ↦ absurd cc | inr r ↦ r ]
slot_step BootRun q t rest f h = elim h [ inl e ↦ absurd cc | inr r ↦ r ]
slot_step (HeadBlock s) q t rest f h = elim h [ inl e ↦ absurd cc | inr r ↦ r ]
slot_step (AreaRun s) true t rest f h = ap Some (f s refl refl)
slot_step (AreaRun s) false t rest f h = elim h [ inl e ↦ absurd (both_ways false refl (and_parts (s == t) false e).1) | inr r ↦ r ]

slot_found : (used : List Allocation) (a t : ℕ) → All (λ (x : Allocation). (s : ℕ) → x.«use» ≡ AreaRun s → (x.start == a) ≡ true → s ≡ t) used
    → list_any (λ (x : Allocation). has_slot t x && x.start == a) used ≡ true → slot_of_area used a ≡ Some t
slot_found [] a t all h = absurd cc
slot_found (x ∷ used) a t all h =
    slot_step x.«use» (x.start == a) t (slot_of_area used a) (all 0 x (omega arith))
    (elim (or_cases (has_slot t x && x.start == a) (list_any (λ (y : Allocation). has_slot t y && y.start == a) used) h) [
      | inl here ↦ inl here
      | inr there ↦ inr (slot_found used a t (λ k d lt. all (suc k) d (omega (arith, lt))) there)
    ])

none_step : (u : Use) (q : Bool) (rest : Option ℕ) → ((s : ℕ) → u ≡ AreaRun s → q ≡ true → ⊥) → rest ≡ None → (elim u as (λ _. Option ℕ) [ AreaRun s ↦ if q then Some s else rest | _ ↦ rest ]) ≡ None
none_step SlotTable q rest f r = r
none_step (SectionRun n) q rest f r = r
none_step StackPage q rest f r = r
none_step SlabBlock q rest f r = r
none_step LargeRun q rest f r = r
none_step PlainRun q rest f r = r
none_step BootRun q rest f r = r
none_step (HeadBlock s) q rest f r = r
none_step (AreaRun s) true rest f r = absurd (f s refl refl)
none_step (AreaRun s) false rest f r = r

slot_missing : (used : List Allocation) (a : ℕ) → All (λ (x : Allocation). (s : ℕ) → x.«use» ≡ AreaRun s → (x.start == a) ≡ true → ⊥) used → slot_of_area used a ≡ None
slot_missing [] a all = refl
slot_missing (x ∷ used) a all = none_step x.«use» (x.start == a) (slot_of_area used a) (all 0 x (omega arith)) (slot_missing used a (λ k d lt. all (suc k) d (omega (arith, lt))))

pub area_found : (areas : List (Option VmArea)) (used : List Allocation) (t : ℕ) (v : VmArea) → AreAreas areas used → area_at areas t ≡ Some v
    → ((s : ℕ) (w : VmArea) → area_at areas s ≡ Some w → w.area.start.0 ≡ v.area.start.0 → s ≡ t) → slot_of_area used v.area.start.0 ≡ Some t
area_found areas used t v a live differ =
    slot_found used v.area.start.0 t
    (λ k d lt s kind begins. let part = a.runs k d lt s kind in differ s part.area part.live (sym part.begins ∙ eqb-true (get_or used k d).start v.area.start.0 begins))
    (any_in (has_slot t) (λ (x : Allocation). has_slot t x && x.start == v.area.start.0) used
    (λ k d lt h.
    let x = get_or used k d in
    let part = a.runs k d lt t (area_use x.«use» t h) in
    let is = one_area (area_at areas t) part.area v part.live live in
    and_from (has_slot t x) (x.start == v.area.start.0) h (eq-eqb x.start v.area.start.0 (part.begins ∙ ap area_start is))) (a.area_live t v live))

pub area_missing : (areas : List (Option VmArea)) (used : List Allocation) (a : ℕ) → AreAreas areas used → ((s : ℕ) (v : VmArea) → area_at areas s ≡ Some v → v.area.start.0 ≡ a → ⊥) → slot_of_area used a ≡ None
area_missing areas used a areas' none =
    slot_missing used a (λ k d lt s kind begins. let part = areas'.runs k d lt s kind in none s part.area part.live (sym part.begins ∙ eqb-true (get_or used k d).start a begins))

-- the head of a slot
head_step : (u : Use) (s start h : ℕ) (rest : Option ℕ) → (u ≡ HeadBlock s → start ≡ h) → ((elim u as (λ _. Bool) [ HeadBlock t ↦ t == s | _ ↦ false ]) ≡ true) ⊎ (rest ≡ Some h)
    → (elim u as (λ _. Option ℕ) [ HeadBlock t ↦ if t == s then Some start else rest | _ ↦ rest ]) ≡ Some h
head_step SlotTable s start h rest f e = elim e [ inl b ↦ absurd cc | inr r ↦ r ]
head_step (SectionRun n) s start h rest f e = elim e [ inl b ↦ absurd cc | inr r ↦ r ]
head_step StackPage s start h rest f e = elim e [ inl b ↦ absurd cc | inr r ↦ r ]
head_step SlabBlock s start h rest f e = elim e [ inl b ↦ absurd cc | inr r ↦ r ]
head_step LargeRun s start h rest f e = elim e [ inl b ↦ absurd cc | inr r ↦ r ]
head_step PlainRun s start h rest f e = elim e [ inl b ↦ absurd cc | inr r ↦ r ]
head_step BootRun s start h rest f e = elim e [ inl b ↦ absurd cc | inr r ↦ r ]
head_step (AreaRun t) s start h rest f e = elim e [ inl b ↦ absurd cc | inr r ↦ r ]
head_step (HeadBlock t) s start h rest f e = elim (cases_eq t s) [
  | inl same ↦ ap (λ b. if b then Some start else rest) (eq-eqb t s same) ∙ ap Some (f (ap HeadBlock same))
  | inr ne ↦ ap (λ b. if b then Some start else rest) (ne_eqb t s ne) ∙ elim e [ inl b ↦ absurd (ne (eqb-true t s b)) | inr r ↦ r ]
]

head_found_in : (used : List Allocation) (s h : ℕ) → All (λ (x : Allocation). x.«use» ≡ HeadBlock s → x.start ≡ h) used → list_any (is_head s) used ≡ true → head_with used s ≡ Some h
head_found_in [] s h all e = absurd cc
head_found_in (x ∷ used) s h all e =
    head_step x.«use» s x.start h (head_with used s) (all 0 x (omega arith))
    (elim (or_cases (is_head s x) (list_any (is_head s) used) e) [
      | inl here ↦ inl here
      | inr there ↦ inr (head_found_in used s h (λ k d lt. all (suc k) d (omega (arith, lt))) there)
    ])

pub head_found : (areas : List (Option VmArea)) (used : List Allocation) (s : ℕ) (v : VmArea) → AreAreas areas used → area_at areas s ≡ Some v → head_with used s ≡ Some v.head.start.0
head_found areas used s v a live =
    head_found_in used s v.head.start.0 (λ k d lt kind. let part = a.heads k d lt s kind in part.begins ∙ ap head_start (one_area (area_at areas s) part.area v part.live live)) (a.head_live s v live)

-- whether a head begins at an address
pub head_there : (areas : List (Option VmArea)) (used : List Allocation) (s : ℕ) (v : VmArea) → AreAreas areas used → area_at areas s ≡ Some v → list_any (is_head_at v.head.start.0) used ≡ true
head_there areas used s v a live =
    any_in (is_head s) (is_head_at v.head.start.0) used
    (λ k d lt h.
    let x = get_or used k d in
    let kind = head_use x.«use» s h in
    let part = a.heads k d lt s kind in
    ap (λ u. elim u as (λ _. Bool) [ HeadBlock _ ↦ x.start == v.head.start.0 | _ ↦ false ]) kind
    ∙ eq-eqb x.start v.head.start.0 (part.begins ∙ ap head_start (one_area (area_at areas s) part.area v part.live live))) (a.head_live s v live)

pub no_head : (areas : List (Option VmArea)) (used : List Allocation) (a : ℕ) → AreAreas areas used → ((s : ℕ) (v : VmArea) → area_at areas s ≡ Some v → v.head.start.0 ≡ a → ⊥) → list_any (is_head_at a) used ≡ false
no_head areas used a areas' none = false_from_ne_true (list_any (is_head_at a) used) (λ h.
    let x = passing (λ (x : Allocation). (t : ℕ) → x.«use» ≡ HeadBlock t → IsPart areas t x.start head_start) (is_head_at a) used areas'.heads h in
    let k = any_head x.0.«use» (x.0.start == a) x.2 in
    let part = x.1 k.0 k.1 in
    none k.0 part.area part.live (sym part.begins ∙ eqb-true x.0.start a k.2))

pub same_addr : (x y : Addr) → x.0 ≡ y.0 → x ≡ y
same_addr x y e = λ i. record { 0 = e i }

-- a live area is one of the slots
pub live_within : (areas : List (Option VmArea)) (s : ℕ) (v : VmArea) → area_at areas s ≡ Some v → s < length areas
live_within areas s v live = elim (cases_lt s (length areas)) [
  | inl less ↦ less
  | inr past ↦ absurd (clash (area_at areas s) v (get_or_past areas s None past) live)
]

-- what is found among the live areas is found among the allocations
pub found_among : (areas : List (Option VmArea)) (slab : Sheets) (pages : List (Option Run)) (used : List Allocation) (start : Addr) (r : Option VmArea) → IfSome r (λ (v : VmArea). area_at areas v.slot ≡ Some v)
    → IfSome r (λ (v : VmArea). v.area.start ≡ start) → (r ≡ None → (s : ℕ) (v : VmArea) → area_at areas s ≡ Some v → v.area.start ≡ start → ⊥) → Fits areas slab pages → AreAreas areas used
    → slot_of_area used start.0 ≡ option_map (λ (v : VmArea). v.slot) r
found_among areas slab pages used start (Some v) live begins none fits a =
    ap (λ (b : Addr). slot_of_area used b.0) (sym begins) ∙ area_found areas used v.slot v a live (λ s w at e. fits.areas_differ s v.slot w v at live e)
found_among areas slab pages used start None live begins none fits a =
    area_missing areas used start.0 a (λ s v at e. none refl s v at (same_addr v.area.start start e))

pub owned_among : (areas : List (Option VmArea)) (used : List Allocation) (start : Addr) (r : Bool) → (r ≡ true → (s : ℕ) × (v : VmArea) × (area_at areas s ≡ Some v) × (v.head.start ≡ start))
    → (r ≡ false → (s : ℕ) (v : VmArea) → area_at areas s ≡ Some v → v.head.start ≡ start → ⊥) → AreAreas areas used → r ≡ list_any (is_head_at start.0) used
owned_among areas used start true live none a =
    let k = live refl in
    sym (subst (λ (b : Addr). list_any (is_head_at b.0) used ≡ true) k.3 (head_there areas used k.0 k.1 a k.2))
owned_among areas used start false live none a = sym (no_head areas used start.0 a (λ s v at e. none refl s v at (same_addr v.head.start start e)))

-- the answers
pub good_size : (size : ℕ) → 0 < size → size ≤ 1048576 → is_bad_size 1048576 size ≡ false
good_size size some most = or_from (size == 0) (nat_lt 1048576 size) (ne_eqb size 0 (λ e. omega (arith, e, some))) (le-ltb 1048576 size most)

pub no_slot_answer : (words : ℕ) (used : List Allocation) (size : ℕ) → is_bad_size 1048576 size ≡ false → lowest_slot used ≡ 512 → Refused refusal.NoSlot ≡ vmalloc_answer words used size
no_slot_answer words used size good full =
    sym (unless_not (is_bad_size 1048576 size) refusal.BadSize (unless (lowest_slot used == 512) refusal.NoSlot (at_place (area_place words used size))) good
    ∙ unless_so (lowest_slot used == 512) refusal.NoSlot (at_place (area_place words used size)) (eq-eqb (lowest_slot used) 512 full))

pub placed_answer : (words : ℕ) (used : List Allocation) (size slot : ℕ) (o : Option ℕ) → is_bad_size 1048576 size ≡ false → lowest_slot used ≡ slot → slot < 512 → o ≡ area_place words used size → at_place o ≡ vmalloc_answer words used size
placed_answer words used size slot o good low few place =
    sym (unless_not (is_bad_size 1048576 size) refusal.BadSize (unless (lowest_slot used == 512) refusal.NoSlot (at_place (area_place words used size))) good
    ∙ unless_not (lowest_slot used == 512) refusal.NoSlot (at_place (area_place words used size)) (ne_eqb (lowest_slot used) 512 (λ e. omega (arith, e, low, few)))
    ∙ ap at_place (sym place))
