use Rattle.std.proofs.Common.{◌≡◌, ℕ, Bool, true, false, not, nat_le, ◌&&◌, ◌||◌, ◌==◌, List, [], ◌∷◌, ◌++◌, get_or, Option, Some, if◌then◌else◌, refl, sym, ap, ◌∙◌, subst, arith, inl, inr}
use Rattle.std.specs.List.{list_any}
use Rattle.std.proofs.lemmas.Bool.{both_ways, cases_order, eqb-true, false_from_ne_true, not_from_false, or_left, or_parts}
use Rattle.std.proofs.lemmas.List.{get_or_default}
use Rattle.std.proofs.lemmas.List.Elements.{All-push}
use Rattle.std.proofs.lemmas.List.Folds.{Any-from_list_any, list_any-append}
use Rattle.km_model.specs.Memory.{base}
use Rattle.km_model.specs.Placement.{Allocation, Use, SlotTable, SectionRun, StackPage, SlabBlock, LargeRun, PlainRun, BootRun, HeadBlock, AreaRun, has_slot, kmalloc_span, kmalloc_use, page_of, without_allocation}
use Rattle.km_model.specs.Answers.{is_kmalloc_at}
use Rattle.km_pages.specs.declared.runs.Run.{Run}
use Rattle.km_pages.specs.declared.runs.Use as kinds
use Rattle.km_pages.specs.declared.runs.Use.TheVariants.{Plain, Section, Stack, Slab, Large, Vmalloc, Boot}
use Rattle.km_pages.specs.Uses.{same_use, use_of}
use Rattle.km_pages.specs.Runs.{length_if, run_at, run_with}
use Rattle.km_pages.specs.Laid.{AreApart, AreLaid, IsLaid}
use Rattle.km_pages.proofs.Beside.{one_use, starts_apart}
use Rattle.km_pages.proofs.Laying.{all_left, any_left}
use Rattle.km_pages.proofs.Owners.{kmalloc_there}
use Rattle.km_slab.specs.Blocks.{Sheets, Fits as SlabFits, is_block_at}
use Rattle.km_slab.proofs.Owners.{at_page}
use Rattle.km_slab.proofs.Growing.{run_is, slab_run}
use Rattle.km_slab.proofs.Places.{kind_found}
use Rattle.km_slab.proofs.Slots.{page_of_slot}
use Rattle.km_vmalloc.specs.declared.areas.VmArea.{VmArea}
use Rattle.km_vmalloc.specs.Areas.{AreAreas, Fits, IsPart, area_at, area_start, head_start, is_head, is_head_at, is_part}
use Rattle.km_vmalloc.proofs.Live.{any_head, area_use, head_there, head_use, one_area}

-- what is neither a head nor an area comes beside them
pub areas_come : (areas : List (Option VmArea)) (used : List Allocation) (x : Allocation) → AreAreas areas used → is_part x ≡ false → AreAreas areas (used ++ x ∷ [])
areas_come areas used x a other =
    let Heads = λ (y : Allocation). (s : ℕ) → y.«use» ≡ HeadBlock s → IsPart areas s y.start head_start in
    let Runs = λ (y : Allocation). (s : ℕ) → y.«use» ≡ AreaRun s → IsPart areas s y.start area_start in
    record {
      heads = All-push Heads used x a.heads (λ s e. absurd (both_ways (is_part x) other (ap (λ u. elim u as (λ _. Bool) [ HeadBlock _ ↦ true | AreaRun _ ↦ true | _ ↦ false ]) e)));
      runs = All-push Runs used x a.runs (λ s e. absurd (both_ways (is_part x) other (ap (λ u. elim u as (λ _. Bool) [ HeadBlock _ ↦ true | AreaRun _ ↦ true | _ ↦ false ]) e)));
      head_live = λ s v live. list_any-append (is_head s) used (x ∷ []) ∙ or_left (list_any (is_head s) used) (is_head s x || false) (a.head_live s v live);
      area_live = λ s v live. list_any-append (has_slot s) used (x ∷ []) ∙ or_left (list_any (has_slot s) used) (has_slot s x || false) (a.area_live s v live);
    }

-- and what begins elsewhere goes
pub areas_go : (areas : List (Option VmArea)) (used : List Allocation) (b : ℕ) → AreAreas areas used → ((s : ℕ) (v : VmArea) → area_at areas s ≡ Some v → v.head.start.0 ≡ b → ⊥)
    → ((s : ℕ) (v : VmArea) → area_at areas s ≡ Some v → v.area.start.0 ≡ b → ⊥) → AreAreas areas (without_allocation used b)
areas_go areas used b a no_head no_area =
    let keep = λ (x : Allocation). not (x.start == b) in
    let Heads = λ (y : Allocation). (s : ℕ) → y.«use» ≡ HeadBlock s → IsPart areas s y.start head_start in
    let Runs = λ (y : Allocation). (s : ℕ) → y.«use» ≡ AreaRun s → IsPart areas s y.start area_start in
    record {
      heads = all_left Heads Heads keep used (λ x f h. f) a.heads;
      runs = all_left Runs Runs keep used (λ x f h. f) a.runs;
      head_live = λ s v live.
          any_left (is_head s) keep used (λ k d lt h. let part = a.heads k d lt s (head_use (get_or used k d).«use» s h) in apart (get_or used k d) (λ e. no_head s part.area part.live (sym part.begins ∙ e)))
          ∙ a.head_live s v live;
      area_live = λ s v live.
          any_left (has_slot s) keep used (λ k d lt h. let part = a.runs k d lt s (area_use (get_or used k d).«use» s h) in apart (get_or used k d) (λ e. no_area s part.area part.live (sym part.begins ∙ e)))
          ∙ a.area_live s v live;
    } where
      apart : (x : Allocation) → (x.start ≡ b → ⊥) → not (x.start == b) ≡ true
      apart x ne = not_from_false (x.start == b) (false_from_ne_true (x.start == b) (λ h. ne (eqb-true x.start b h)))

vmalloc_is : (k : kinds.Use) → same_use k Vmalloc ≡ true → k ≡ Vmalloc
vmalloc_is Plain e = absurd cc
vmalloc_is Section e = absurd cc
vmalloc_is Stack e = absurd cc
vmalloc_is Slab e = absurd cc
vmalloc_is Large e = absurd cc
vmalloc_is Vmalloc e = refl
vmalloc_is Boot e = absurd cc

pub areas_go_run : (areas : List (Option VmArea)) (slab : Sheets) (pages : List (Option Run)) (used : List Allocation) (kind : kinds.Use) (b n : ℕ) → AreAreas areas used → Fits areas slab pages → SlabFits slab pages
    → run_at pages kind b ≡ Some n → same_use Slab kind ≡ false → same_use Vmalloc kind ≡ false → AreAreas areas (without_allocation used b)
areas_go_run areas slab pages used kind b n a fits slab_fits run no_slab no_vmalloc =
    let k = (at_page pages kind b n run).1 in
    areas_go areas used b a
    (λ s v live e.
    let slot = fits.heads s v live in
    let r = slab_run slab pages 64 slot.page slab_fits slot.class in
    let page : page_of b ≡ slot.page = ap page_of (sym e ∙ slot.start) ∙ page_of_slot base 64 slot.page slot.place (omega arith) slot.fits in
    let found = kind_found kind r.run (page_of b) n (ap (length_if kind (page_of b)) (sym (ap (run_with pages) page ∙ r.is)) ∙ k) in
    both_ways (same_use Slab kind) no_slab (ap (λ u. same_use u kind) (sym r.kind_is) ∙ found))
    (λ s v live e.
    let mine = fits.runs s v live in
    let m = (at_page pages Vmalloc b mine.count (subst (λ c. run_at pages Vmalloc c ≡ Some mine.count) e mine.run)).1 in
    let r = run_is Vmalloc (run_with pages (page_of b)) (page_of b) mine.count vmalloc_is m in
    let found = kind_found kind r.run (page_of b) n (ap (length_if kind (page_of b)) (sym r.is) ∙ k) in
    both_ways (same_use Vmalloc kind) no_vmalloc (ap (λ u. same_use u kind) (sym r.kind_is) ∙ found))

-- so does a block of kmalloc
pub block_comes : (areas : List (Option VmArea)) (used : List Allocation) (size a : ℕ) → AreAreas areas used → AreAreas areas (used ++ record { «use» = kmalloc_use size; start = a; size = kmalloc_span size } ∷ [])
block_comes areas used size a are =
    areas_come areas used (record { «use» = kmalloc_use size; start = a; size = kmalloc_span size }) are
    (elim (nat_le size 4096) as (λ b. (elim (if b then SlabBlock else LargeRun) as (λ (_ : Use). Bool) [ HeadBlock _ ↦ true | AreaRun _ ↦ true | _ ↦ false ]) ≡ false) [ true ↦ refl | false ↦ refl ])

-- a block of kmalloc goes that is no head
pub areas_go_block : (areas : List (Option VmArea)) (pages : List (Option Run)) (used : List Allocation) (a : ℕ) → AreAreas areas used → AreLaid pages used → list_any (is_kmalloc_at a) used ≡ true → list_any (is_head_at a) used ≡ false
    → AreAreas areas (without_allocation used a)
areas_go_block areas pages used a are laid block no_head =
    areas_go areas used a are
    (λ s v live e. both_ways (list_any (is_head_at a) used) no_head (subst (λ b. list_any (is_head_at b) used ≡ true) e (head_there areas used s v are live)))
    (λ s v live e.
    let any = Any-from_list_any (has_slot s) used (are.area_live s v live) in
    let is = area_use any.1.«use» s any.4 in
    let part = subst (λ (x : Allocation). IsPart areas s x.start area_start) any.3 (are.runs any.0 any.1 any.2 s (ap (λ (x : Allocation). x.«use») any.3 ∙ is)) in
    let same = one_area (area_at areas s) part.area v part.live live in
    let y = Any-from_list_any (is_kmalloc_at a) used block in
    let k = kmalloc_there a y.1 y.4 in
    let uses = one_use pages any.1 y.1 (subst (IsLaid pages) any.3 (laid.each any.0 any.1 any.2)) (subst (IsLaid pages) y.3 (laid.each y.0 y.1 y.2)) (part.begins ∙ ap area_start same ∙ e ∙ sym k.0) in
    let area : use_of y.1.«use» ≡ Vmalloc = sym uses ∙ ap use_of is in
    elim k.1 [ inl slab ↦ slab_area (sym slab ∙ area) | inr large ↦ large_area (sym large ∙ area) ]) where
      slab_area : Slab ≡ Vmalloc → ⊥
      slab_area e = cc

      large_area : Large ≡ Vmalloc → ⊥
      large_area e = cc

-- heads and blocks of kmalloc are the blocks of the slab host
one_block : (u : Use) (q : Bool) → elim u as (λ _. Bool) [ HeadBlock _ ↦ q | _ ↦ false ] ≡ false
    → (((elim u as (λ _. Bool) [ SlabBlock ↦ true | HeadBlock _ ↦ true | _ ↦ false ]) || (elim u as (λ _. Bool) [ LargeRun ↦ true | _ ↦ false ])) && q) ≡ elim u as (λ _. Bool) [ SlabBlock ↦ q | LargeRun ↦ q | _ ↦ false ]
one_block SlotTable q e = refl
one_block (SectionRun n) q e = refl
one_block StackPage q e = refl
one_block SlabBlock q e = refl
one_block LargeRun q e = refl
one_block PlainRun q e = refl
one_block BootRun q e = refl
one_block (HeadBlock s) q e = e
one_block (AreaRun s) q e = refl

pub block_elsewhere : (used : List Allocation) (a : ℕ) → list_any (is_head_at a) used ≡ false → list_any (is_block_at a) used ≡ list_any (is_kmalloc_at a) used
block_elsewhere [] a e = refl
block_elsewhere (x ∷ used) a e =
    let parts = or_parts (is_head_at a x) (list_any (is_head_at a) used) e in
    ap (λ b. b || list_any (is_block_at a) used) (one_block x.«use» (x.start == a) parts.0) ∙ ap (λ b. is_kmalloc_at a x || b) (block_elsewhere used a parts.1)

-- no other allocation begins with a head
pub no_block_here : (pages : List (Option Run)) (used : List Allocation) (a : ℕ) → AreLaid pages used → AreApart used → list_any (is_head_at a) used ≡ true → list_any (is_kmalloc_at a) used ≡ false
no_block_here pages used a laid apart head =
    false_from_ne_true (list_any (is_kmalloc_at a) used) (λ block.
    let x = Any-from_list_any (is_head_at a) used head in let y = Any-from_list_any (is_kmalloc_at a) used block in
    let is = any_head x.1.«use» (x.1.start == a) x.4 in
    let at : get_or used y.0 x.1 ≡ y.1 = get_or_default used y.0 x.1 y.1 y.2 ∙ y.3 in
    let same : x.1.start ≡ y.1.start = eqb-true x.1.start a is.2 ∙ sym (kmalloc_there a y.1 y.4).0 in
    elim (cases_order x.0 y.0) [
      | inl one ↦
          let both : x.1 ≡ y.1 = sym x.3 ∙ ap (λ k. get_or used k x.1) one ∙ at in
          both_ways (is_kmalloc_at a y.1) (ap (λ u. elim u as (λ _. Bool) [ SlabBlock ↦ y.1.start == a | LargeRun ↦ y.1.start == a | _ ↦ false ]) (ap (λ (z : Allocation). z.«use») (sym both) ∙ is.1)) y.4
      | inr (inl less) ↦ starts_apart pages used laid apart x.0 y.0 x.1 less y.2 (ap (λ (z : Allocation). z.start) x.3 ∙ same ∙ ap (λ (z : Allocation). z.start) (sym at))
      | inr (inr more) ↦ starts_apart pages used laid apart y.0 x.0 x.1 more x.2 (ap (λ (z : Allocation). z.start) at ∙ sym same ∙ ap (λ (z : Allocation). z.start) (sym x.3))
    ])
