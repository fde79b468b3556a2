use Rattle.std.proofs.Common.{◌≡◌, ◌≢◌, ℕ, ◌+◌, ◌<◌, max, Bool, true, false, not, ◌||◌, ◌==◌, List, [], ◌∷◌, ◌++◌, length, get_or, slice_set, Option, Some, None, if◌then◌else◌, refl, sym, ap, ◌∙◌, subst, arith, ◌⊎◌, inl, inr}
use Rattle.std.specs.List.{All, list_any}
use Rattle.std.proofs.lemmas.Bool.{cases_eq, eq-eqb, eqb-true, false_from_ne_true, ne_eqb, not-true, not_from_false, or_left, or_right}
use Rattle.std.proofs.lemmas.List.{get_or-set_same, get_or-set_other, length-set}
use Rattle.std.proofs.lemmas.List.Elements.{All-push}
use Rattle.std.proofs.lemmas.List.Folds.{list_any-append}
use Rattle.km_model.specs.Memory.{base}
use Rattle.km_base.specs.declared.spans.Addr.{Addr}
use Rattle.km_model.specs.Placement.{Allocation, HeadBlock, AreaRun, has_slot, page_of, page_start, pages_for, without_allocation}
use Rattle.km_pages.specs.declared.runs.Run.{Run}
use Rattle.km_pages.specs.declared.runs.Use.TheVariants.{Slab, Vmalloc}
use Rattle.km_pages.specs.Uses.{same_use}
use Rattle.km_pages.specs.Runs.{length_if, run_at, run_from, run_with}
use Rattle.km_pages.proofs.Touching.{page_of_start}
use Rattle.km_pages.proofs.Laying.{all_left, any_left}
use Rattle.km_slab.specs.Blocks.{Sheets, Fits as SlabFits, IsSlot, Loses}
use Rattle.km_slab.proofs.Owners.{at_page}
use Rattle.km_slab.proofs.Growing.{slab_run}
use Rattle.km_slab.proofs.Places.{kind_found}
use Rattle.km_slab.proofs.Slots.{page_of_slot}
use Rattle.km_vmalloc.specs.declared.areas.VmArea.{VmArea}
use Rattle.km_vmalloc.specs.Areas.{AreAreas, AreKept, AreSeen, Fits, IsPart, IsPlaced, IsRun, area_at, area_of, area_start, head_of, head_start, is_head, with_area, without_area}
use Rattle.km_vmalloc.proofs.Live.{area_use, clash, head_use, one_area, same_addr}

-- a slot is taken or given back
at_same : (areas : List (Option VmArea)) (s : ℕ) (o : Option VmArea) → s < length areas → area_at (slice_set areas s o) s ≡ o
at_same areas s o lt = get_or-set_same areas s o None lt

at_other : (areas : List (Option VmArea)) (s t : ℕ) (o : Option VmArea) → t ≢ s → area_at (slice_set areas s o) t ≡ area_at areas t
at_other areas s t o ne = get_or-set_other areas s t o None ne

-- the live areas with a new one
pub record Added (areas : List (Option VmArea)) (v : VmArea) : Type 0 where
  pub within : v.slot < length areas
  pub free : area_at areas v.slot ≡ None

new_area : (areas : List (Option VmArea)) (v w : VmArea) (s : ℕ) → Added areas v → area_at (slice_set areas v.slot (Some v)) s ≡ Some w → ((s ≡ v.slot) × (w ≡ v)) ⊎ ((s ≢ v.slot) × (area_at areas s ≡ Some w))
new_area areas v w s added h = elim (cases_eq s v.slot) [
  | inl same ↦ inl (same, one_area (area_at (slice_set areas v.slot (Some v)) v.slot) w v (subst (λ t. area_at (slice_set areas v.slot (Some v)) t ≡ Some w) same h) (at_same areas v.slot (Some v) added.within))
  | inr ne ↦ inr (ne, sym (at_other areas v.slot s (Some v) ne) ∙ h)
]

kept_area : (areas : List (Option VmArea)) (v w : VmArea) (s : ℕ) → Added areas v → area_at areas s ≡ Some w → area_at (slice_set areas v.slot (Some v)) s ≡ Some w
kept_area areas v w s added h = elim (cases_eq s v.slot) [
  | inl same ↦ absurd (clash (area_at areas v.slot) w added.free (subst (λ t. area_at areas t ≡ Some w) same h))
  | inr ne ↦ at_other areas v.slot s (Some v) ne ∙ h
]

kept_part : (areas : List (Option VmArea)) (v : VmArea) (s a : ℕ) (start : VmArea → ℕ) → Added areas v → IsPart areas s a start → IsPart (slice_set areas v.slot (Some v)) s a start
kept_part areas v s a start added part = record { area = part.area; live = kept_area areas v part.area s added part.live; begins = part.begins }

pub kept_added : (areas : List (Option VmArea)) (v : VmArea) → Added areas v → AreKept areas → AreKept (slice_set areas v.slot (Some v))
kept_added areas v added kept = record {
  count = length-set areas v.slot (Some v) ∙ kept.count;
  slots = λ s w h. elim (new_area areas v w s added h) [ inl new ↦ ap (λ (u : VmArea). u.slot) new.1 ∙ sym new.0 | inr old ↦ kept.slots s w old.1 ];
}

-- the first slot from which on none is live, where a slot is taken
pub seen_added : (areas : List (Option VmArea)) (reach place hint : ℕ) (hints : List ℕ) (v : VmArea) → Added areas v → AreSeen areas reach hints
    → AreSeen (slice_set areas v.slot (Some v)) (max reach (v.slot + 1)) (slice_set hints place hint)
seen_added areas reach place hint hints v added seen = record {
  kept = kept_added areas v added seen.kept;
  within = let count = length-set areas v.slot (Some v) in let slot = added.within in let before = seen.within in omega (arith, count, slot, before);
  above = λ s le. at_other areas v.slot s (Some v) (λ e. omega (arith, le, e)) ∙ seen.above s (omega (arith, le));
  places = length-set hints place hint ∙ seen.places;
}

any_more : (test : Allocation → Bool) (used : List Allocation) (v : VmArea) → list_any test used ≡ true → list_any test (with_area used v) ≡ true
any_more test used v h =
    let head = head_of v in let area = area_of v in
    list_any-append test (used ++ head ∷ []) (area ∷ []) ∙ or_left (list_any test (used ++ head ∷ [])) (test area || false) (list_any-append test used (head ∷ []) ∙ or_left (list_any test used) (test head || false) h)

any_head : (test : Allocation → Bool) (used : List Allocation) (v : VmArea) → test (head_of v) ≡ true → list_any test (with_area used v) ≡ true
any_head test used v h =
    let head = head_of v in let area = area_of v in
    list_any-append test (used ++ head ∷ []) (area ∷ [])
    ∙ or_left (list_any test (used ++ head ∷ [])) (test area || false) (list_any-append test used (head ∷ []) ∙ or_right (list_any test used) (test head || false) (or_left (test head) false h))

any_area : (test : Allocation → Bool) (used : List Allocation) (v : VmArea) → test (area_of v) ≡ true → list_any test (with_area used v) ≡ true
any_area test used v h =
    let head = head_of v in let area = area_of v in
    list_any-append test (used ++ head ∷ []) (area ∷ []) ∙ or_right (list_any test (used ++ head ∷ [])) (test area || false) (or_left (test area) false h)

head_slot : (s t : ℕ) → HeadBlock s ≡ HeadBlock t → t ≡ s
head_slot s t e = cc

area_slot : (s t : ℕ) → AreaRun s ≡ AreaRun t → t ≡ s
area_slot s t e = cc

pub areas_added : (areas : List (Option VmArea)) (used : List Allocation) (v : VmArea) → Added areas v → AreAreas areas used → AreAreas (slice_set areas v.slot (Some v)) (with_area used v)
areas_added areas used v added a =
    let new = slice_set areas v.slot (Some v) in
    let here = at_same areas v.slot (Some v) added.within in
    let Heads = λ (x : Allocation). (s : ℕ) → x.«use» ≡ HeadBlock s → IsPart (slice_set areas v.slot (Some v)) s x.start head_start in
    let Runs = λ (x : Allocation). (s : ℕ) → x.«use» ≡ AreaRun s → IsPart (slice_set areas v.slot (Some v)) s x.start area_start in
    record {
      heads = All-push Heads (used ++ head_of v ∷ []) (area_of v)
          (All-push Heads used (head_of v) (λ k d lt s e. kept_part areas v s (get_or used k d).start head_start added (a.heads k d lt s e))
          (λ s e. record { area = v; live = subst (λ t. area_at (slice_set areas v.slot (Some v)) t ≡ Some v) (sym (head_slot v.slot s e)) here; begins = refl })) (λ s e. absurd cc);
      runs = All-push Runs (used ++ head_of v ∷ []) (area_of v)
          (All-push Runs used (head_of v) (λ k d lt s e. kept_part areas v s (get_or used k d).start area_start added (a.runs k d lt s e)) (λ s e. absurd cc))
          (λ s e. record { area = v; live = subst (λ t. area_at (slice_set areas v.slot (Some v)) t ≡ Some v) (sym (area_slot v.slot s e)) here; begins = refl });
      head_live = λ s w h. elim (new_area areas v w s added h) [
        | inl n ↦ any_head (is_head s) used v (eq-eqb v.slot s (sym n.0))
        | inr old ↦ any_more (is_head s) used v (a.head_live s w old.1)
      ];
      area_live = λ s w h. elim (new_area areas v w s added h) [
        | inl n ↦ any_area (has_slot s) used v (eq-eqb v.slot s (sym n.0))
        | inr old ↦ any_more (has_slot s) used v (a.area_live s w old.1)
      ];
    }

-- runs that begin at different addresses are at different pages
pages_differ : (pages : List (Option Run)) (a b n m : ℕ) → run_at pages Vmalloc a ≡ Some n → run_at pages Vmalloc b ≡ Some m → (a ≡ b → ⊥) → page_of a ≢ page_of b
pages_differ pages a b n m h k ne e = ne ((at_page pages Vmalloc a n h).0 ∙ ap page_start e ∙ sym (at_page pages Vmalloc b m k).0)

run_kept : (pages new : List (Option Run)) (o : Option ℕ) (a b n : ℕ) → run_at pages Vmalloc b ≡ Some n → ((p : ℕ) → run_from new Vmalloc p ≡ (if p == page_of a then o else run_from pages Vmalloc p)) → page_of b ≢ page_of a → run_at new Vmalloc b ≡ Some n
run_kept pages new o a b n h runs ne =
    ap (λ r. if b == page_start (page_of b) then r else None) (runs (page_of b) ∙ ap (λ q. if q then o else run_from pages Vmalloc (page_of b)) (ne_eqb (page_of b) (page_of a) ne)) ∙ h

-- a run that is taken begins at a page of its own
fresh_page : (pages new : List (Option Run)) (a b n m : ℕ) → run_at pages Vmalloc a ≡ None → run_at new Vmalloc a ≡ Some m → run_at pages Vmalloc b ≡ Some n → page_of b ≢ page_of a
fresh_page pages new a b n m none run h e =
    let x = (at_page new Vmalloc a m run).0 in
    let y = (at_page pages Vmalloc b n h).0 in
    let same : b ≡ a = y ∙ ap page_start e ∙ sym x in
    some_none n (sym h ∙ ap (run_at pages Vmalloc) same ∙ none) where
      some_none : (k : ℕ) → Some k ≡ None → ⊥
      some_none k e = cc

pub fits_added : (areas : List (Option VmArea)) (slab new_slab : Sheets) (pages new_pages : List (Option Run)) (size : ℕ) (v : VmArea) → Added areas v → IsPlaced pages slab new_pages new_slab size v.head v.area
    → Fits areas slab pages → Fits (slice_set areas v.slot (Some v)) new_slab new_pages
fits_added areas slab new_slab pages new_pages size v added placed fits = record {
  heads = λ s w h. elim (new_area areas v w s added h) [
    | inl n ↦ subst (λ (u : VmArea). IsSlot new_slab 64 u.head.start.0) (sym n.1) placed.gains.live
    | inr old ↦ placed.gains.still 64 w.head.start.0 (fits.heads s w old.1)
  ];
  sizes = λ s w h. elim (new_area areas v w s added h) [ inl n ↦ ap (λ (u : VmArea). u.head.size) n.1 ∙ placed.head_size | inr old ↦ fits.sizes s w old.1 ];
  runs = λ s w h. elim (new_area areas v w s added h) [
    | inl n ↦ subst (IsRun new_pages) (sym n.1) (record { count = pages_for size; run = placed.run; size = placed.area_size })
    | inr old ↦
        let r = fits.runs s w old.1 in
        record {
          count = r.count;
          run = run_kept pages new_pages (Some (pages_for size)) v.area.start.0 w.area.start.0 r.count r.run placed.runs (fresh_page pages new_pages v.area.start.0 w.area.start.0 r.count (pages_for size) placed.fresh placed.run r.run);
          size = r.size;
        }
  ];
  heads_differ = λ s t u w a b e. elim (new_area areas v u s added a) [
    | inl n ↦ elim (new_area areas v w t added b) [
      | inl m ↦ n.0 ∙ sym m.0
      | inr old ↦ absurd (placed.gains.fresh 64 (subst (IsSlot slab 64) (sym e ∙ ap head_start n.1) (fits.heads t w old.1)))
    ]
    | inr was ↦ elim (new_area areas v w t added b) [
      | inl m ↦ absurd (placed.gains.fresh 64 (subst (IsSlot slab 64) (e ∙ ap head_start m.1) (fits.heads s u was.1)))
      | inr old ↦ fits.heads_differ s t u w was.1 old.1 e
    ]
  ];
  areas_differ = λ s t u w a b e. elim (new_area areas v u s added a) [
    | inl n ↦ elim (new_area areas v w t added b) [
      | inl m ↦ n.0 ∙ sym m.0
      | inr old ↦ let r = fits.runs t w old.1 in absurd (far w r (sym e ∙ ap area_start n.1))
    ]
    | inr was ↦ elim (new_area areas v w t added b) [
      | inl m ↦ let r = fits.runs s u was.1 in absurd (far u r (e ∙ ap area_start m.1))
      | inr old ↦ fits.areas_differ s t u w was.1 old.1 e
    ]
  ];
  only = λ p n h. elim (cases_eq p (page_of v.area.start.0)) [
    | inl same ↦ record { slot = v.slot; area = v; live = at_same areas v.slot (Some v) added.within; begins = (at_page new_pages Vmalloc v.area.start.0 (pages_for size) placed.run).0 ∙ ap page_start (sym same) }
    | inr ne ↦
        let old = fits.only p n (sym (placed.runs p ∙ ap (λ b. if b then Some (pages_for size) else run_from pages Vmalloc p) (ne_eqb p (page_of v.area.start.0) ne)) ∙ h) in
        record { slot = old.slot; area = old.area; live = kept_area areas v old.area old.slot added old.live; begins = old.begins }
  ];
} where
  far : (w : VmArea) → IsRun pages w → w.area.start.0 ≡ v.area.start.0 → ⊥
  far w r e = fresh_page pages new_pages v.area.start.0 w.area.start.0 r.count (pages_for size) placed.fresh placed.run r.run (ap page_of e)

-- the live areas without one
gone_area : (areas : List (Option VmArea)) (slot s : ℕ) (w : VmArea) → slot < length areas → area_at (slice_set areas slot None) s ≡ Some w → (s ≢ slot) × (area_at areas s ≡ Some w)
gone_area areas slot s w within h = elim (cases_eq s slot) [
  | inl same ↦ absurd (clash (area_at (slice_set areas slot None) slot) w (at_same areas slot None within) (subst (λ t. area_at (slice_set areas slot None) t ≡ Some w) same h))
  | inr ne ↦ (ne, sym (at_other areas slot s None ne) ∙ h)
]

pub kept_gone : (areas : List (Option VmArea)) (slot : ℕ) → slot < length areas → AreKept areas → AreKept (slice_set areas slot None)
kept_gone areas slot within kept = record {
  count = length-set areas slot None ∙ kept.count;
  slots = λ s w h. kept.slots s w (gone_area areas slot s w within h).1;
}

pub seen_gone : (areas : List (Option VmArea)) (reach slot : ℕ) (hints : List ℕ) → slot < length areas → AreSeen areas reach hints → AreSeen (slice_set areas slot None) reach hints
seen_gone areas reach slot hints within seen = record {
  kept = kept_gone areas slot within seen.kept;
  within = let count = length-set areas slot None in let before = seen.within in omega (arith, count, before);
  above = λ s le. elim (cases_eq s slot) [
    | inl same ↦ subst (λ t. area_at (slice_set areas slot None) t ≡ None) (sym same) (at_same areas slot None within)
    | inr ne ↦ at_other areas slot s None ne ∙ seen.above s le
  ];
  places = seen.places;
}

pub fits_gone : (areas : List (Option VmArea)) (slab less : Sheets) (pages new : List (Option Run)) (v : VmArea) → v.slot < length areas → area_at areas v.slot ≡ Some v → Loses slab less v.head.start.0
    → ((p : ℕ) → run_from new Vmalloc p ≡ (if p == page_of v.area.start.0 then None else run_from pages Vmalloc p)) → Fits areas slab pages → Fits (slice_set areas v.slot None) less new
fits_gone areas slab less pages new v within live loses runs fits =
    let mine = fits.runs v.slot v live in
    record {
      heads = λ s w h. let g = gone_area areas v.slot s w within h in loses.still 64 w.head.start.0 (fits.heads s w g.1) (λ e. g.0 (fits.heads_differ s v.slot w v g.1 live e));
      sizes = λ s w h. fits.sizes s w (gone_area areas v.slot s w within h).1;
      runs = λ s w h.
          let g = gone_area areas v.slot s w within h in
          let r = fits.runs s w g.1 in
          record {
            count = r.count;
            run = run_kept pages new None v.area.start.0 w.area.start.0 r.count r.run runs
                (pages_differ pages w.area.start.0 v.area.start.0 r.count mine.count r.run mine.run (λ e. g.0 (fits.areas_differ s v.slot w v g.1 live e)));
            size = r.size;
          };
      heads_differ = λ s t u w a b e. fits.heads_differ s t u w (gone_area areas v.slot s u within a).1 (gone_area areas v.slot t w within b).1 e;
      areas_differ = λ s t u w a b e. fits.areas_differ s t u w (gone_area areas v.slot s u within a).1 (gone_area areas v.slot t w within b).1 e;
      only = λ p n h. elim (cases_eq p (page_of v.area.start.0)) [
        | inl same ↦ absurd (none_some n (sym (runs p ∙ ap (λ b. if b then None else run_from pages Vmalloc p) (eq-eqb p (page_of v.area.start.0) same)) ∙ h))
        | inr ne ↦
            let old = fits.only p n (sym (runs p ∙ ap (λ b. if b then None else run_from pages Vmalloc p) (ne_eqb p (page_of v.area.start.0) ne)) ∙ h) in
            record {
              slot = old.slot;
              area = old.area;
              live = at_other areas v.slot old.slot None (λ same. ne (other_page p old.area (one_area (area_at areas v.slot) old.area v (subst (λ t. area_at areas t ≡ Some old.area) same old.live) live) old.begins)) ∙ old.live;
              begins = old.begins;
            }
      ];
    } where
      none_some : (n : ℕ) → None ≡ Some n → ⊥
      none_some n e = cc

      other_page : (p : ℕ) (w : VmArea) → w ≡ v → w.area.start.0 ≡ page_start p → p ≡ page_of v.area.start.0
      other_page p w is begins = sym (page_of_start base p) ∙ ap page_of (sym begins ∙ ap area_start is)

-- a head and an area begin at different addresses
pub head_not_area : (slab : Sheets) (pages : List (Option Run)) (h a n : ℕ) → SlabFits slab pages → IsSlot slab 64 h → run_at pages Vmalloc a ≡ Some n → h ≡ a → ⊥
head_not_area slab pages h a n fits s run e =
    let k = (at_page pages Vmalloc a n run).1 in
    let r = slab_run slab pages 64 s.page fits s.class in
    let page : page_of a ≡ s.page = ap page_of (sym e ∙ s.start) ∙ page_of_slot base 64 s.page s.place (omega arith) s.fits in
    let there : run_with pages (page_of a) ≡ Some r.run = ap (run_with pages) page ∙ r.is in
    let found = kind_found Vmalloc r.run (page_of a) n (ap (length_if Vmalloc (page_of a)) (sym there) ∙ k) in
    slab_vmalloc (ap (λ u. same_use u Vmalloc) (sym r.kind_is) ∙ found) where
      slab_vmalloc : same_use Slab Vmalloc ≡ true → ⊥
      slab_vmalloc e = cc

pub areas_gone : (areas : List (Option VmArea)) (slab : Sheets) (pages : List (Option Run)) (used : List Allocation) (v : VmArea) → v.slot < length areas → area_at areas v.slot ≡ Some v → SlabFits slab pages → Fits areas slab pages
    → AreAreas areas used → AreAreas (slice_set areas v.slot None) (without_area used v)
areas_gone areas slab pages used v within live slab_fits fits a =
    let keep = λ (b : ℕ) (x : Allocation). not (x.start == b) in
    let first = v.area.start.0 in let second = v.head.start.0 in
    let left = without_allocation used v.area.start.0 in
    let Heads = λ (x : Allocation). (s : ℕ) → x.«use» ≡ HeadBlock s → IsPart areas s x.start head_start in
    let Runs = λ (x : Allocation). (s : ℕ) → x.«use» ≡ AreaRun s → IsPart areas s x.start area_start in
    let NewHeads = λ (x : Allocation). (s : ℕ) → x.«use» ≡ HeadBlock s → IsPart (slice_set areas v.slot None) s x.start head_start in
    let NewRuns = λ (x : Allocation). (s : ℕ) → x.«use» ≡ AreaRun s → IsPart (slice_set areas v.slot None) s x.start area_start in
    record {
      heads = all_left Heads NewHeads (keep second) left (λ x f h s e. part s x.start head_start (f s e) (λ same. far x second h (same ∙ refl))) (all_left Heads Heads (keep first) used (λ x f h. f) a.heads);
      runs = all_left NewRuns NewRuns (keep second) left (λ x f h. f) (all_left Runs NewRuns (keep first) used (λ x f h s e. part s x.start area_start (f s e) (λ same. far x first h (same ∙ refl))) a.runs);
      head_live = λ s w h.
          let g = gone_area areas v.slot s w within h in
          any_left (is_head s) (keep second) left (all_left (Begins (is_head s) w.head.start.0) (λ x. is_head s x ≡ true → keep second x ≡ true) (keep first) used (λ x f _ t. apart x second w.head.start.0 (f t) (λ e. g.0 (fits.heads_differ s v.slot w v g.1 live e))) (head_begins s w g.1))
          ∙ any_left (is_head s) (keep first) used (λ k d lt t. apart (get_or used k d) first w.head.start.0 (head_begins s w g.1 k d lt t)
          (λ e. let mine = fits.runs v.slot v live in head_not_area slab pages w.head.start.0 first mine.count slab_fits (fits.heads s w g.1) mine.run e))
          ∙ a.head_live s w g.1;
      area_live = λ s w h.
          let g = gone_area areas v.slot s w within h in
          let r = fits.runs s w g.1 in
          any_left (has_slot s) (keep second) left (all_left (Begins (has_slot s) w.area.start.0) (λ x. has_slot s x ≡ true → keep second x ≡ true) (keep first) used
          (λ x f _ t. apart x second w.area.start.0 (f t) (λ e. head_not_area slab pages second w.area.start.0 r.count slab_fits (fits.heads v.slot v live) r.run (sym e))) (area_begins s w g.1))
          ∙ any_left (has_slot s) (keep first) used (λ k d lt t. apart (get_or used k d) first w.area.start.0 (area_begins s w g.1 k d lt t) (λ e. g.0 (fits.areas_differ s v.slot w v g.1 live e)))
          ∙ a.area_live s w g.1;
    } where
      Begins : (Allocation → Bool) → ℕ → Allocation → Type 0
      Begins test b x = test x ≡ true → x.start ≡ b

      far : (x : Allocation) (b : ℕ) → not (x.start == b) ≡ true → x.start ≡ b → ⊥
      far x b h e = let t = eq-eqb x.start b e in let f = not-true (x.start == b) h in cc

      apart : (x : Allocation) (b a : ℕ) → x.start ≡ a → (a ≡ b → ⊥) → not (x.start == b) ≡ true
      apart x b a start ne = not_from_false (x.start == b) (false_from_ne_true (x.start == b) (λ h. ne (sym start ∙ eqb-true x.start b h)))

      part : (s b : ℕ) (start : VmArea → ℕ) → IsPart areas s b start → (b ≡ start v → ⊥) → IsPart (slice_set areas v.slot None) s b start
      part s b start p ne = record {
        area = p.area;
        live = at_other areas v.slot s None (λ same. ne (p.begins ∙ ap start (one_area (area_at areas v.slot) p.area v (subst (λ t. area_at areas t ≡ Some p.area) same p.live) live))) ∙ p.live;
        begins = p.begins;
      }

      head_begins : (s : ℕ) (w : VmArea) → area_at areas s ≡ Some w → All (Begins (is_head s) w.head.start.0) used
      head_begins s w at k d lt t =
          let p = a.heads k d lt s (head_use (get_or used k d).«use» s t) in
          p.begins ∙ ap head_start (one_area (area_at areas s) p.area w p.live at)

      area_begins : (s : ℕ) (w : VmArea) → area_at areas s ≡ Some w → All (Begins (has_slot s) w.area.start.0) used
      area_begins s w at k d lt t =
          let p = a.runs k d lt s (area_use (get_or used k d).«use» s t) in
          p.begins ∙ ap area_start (one_area (area_at areas s) p.area w p.live at)

-- areas that keep their heads and their runs still have them
fits_kept : (areas : List (Option VmArea)) (slab less : Sheets) (pages new : List (Option Run)) → ((s : ℕ) (v : VmArea) → area_at areas s ≡ Some v → IsSlot less 64 v.head.start.0)
    → ((p : ℕ) → run_from new Vmalloc p ≡ run_from pages Vmalloc p) → Fits areas slab pages → Fits areas less new
fits_kept areas slab less pages new heads runs fits = record {
  heads = heads;
  sizes = fits.sizes;
  runs = λ s w h. let r = fits.runs s w h in
      record { count = r.count; run = ap (λ o. if w.area.start.0 == page_start (page_of w.area.start.0) then o else None) (runs (page_of w.area.start.0)) ∙ r.run; size = r.size };
  heads_differ = fits.heads_differ;
  areas_differ = fits.areas_differ;
  only = λ p n h. fits.only p n (sym (runs p) ∙ h);
}

pub fits_back : (areas : List (Option VmArea)) (slab less : Sheets) (pages new : List (Option Run)) → Fits areas slab pages → ((n b : ℕ) → IsSlot slab n b → IsSlot less n b)
    → ((p : ℕ) → run_from new Vmalloc p ≡ run_from pages Vmalloc p) → Fits areas less new
fits_back areas slab less pages new fits still runs = fits_kept areas slab less pages new (λ s v h. still 64 v.head.start.0 (fits.heads s v h)) runs fits

pub fits_freed : (areas : List (Option VmArea)) (slab less : Sheets) (pages new : List (Option Run)) (start : Addr) → Fits areas slab pages → ((s : ℕ) (v : VmArea) → area_at areas s ≡ Some v → v.head.start ≡ start → ⊥)
    → ((n b : ℕ) → IsSlot slab n b → (b ≡ start.0 → ⊥) → IsSlot less n b) → ((p : ℕ) → run_from new Vmalloc p ≡ run_from pages Vmalloc p) → Fits areas less new
fits_freed areas slab less pages new start fits none still runs =
    fits_kept areas slab less pages new (λ s v h. still 64 v.head.start.0 (fits.heads s v h) (λ e. none s v h (same_addr v.head.start start e))) runs fits
