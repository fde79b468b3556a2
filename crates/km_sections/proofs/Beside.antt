use Rattle.std.proofs.Common.{◌≡◌, ℕ, Bool, true, false, not, nat_le, ◌==◌, List, [], ◌∷◌, ◌++◌, get_or, filter, cond, suc, Option, Some, ◌⊎◌, if◌then◌else◌, refl, sym, ap, ◌∙◌, subst, arith, inl, inr}
use Rattle.std.specs.List.{All, Any, list_any}
use Rattle.std.proofs.lemmas.Bool.{both_ways, eqb-true, ne_eqb, not_from_false}
use Rattle.std.proofs.lemmas.List.{append-nil}
use Rattle.std.proofs.lemmas.List.Folds.{Any-from_list_any}
use Rattle.std.proofs.lemmas.List.Elements.{filter-append}
use Rattle.km_model.specs.Placement.{Allocation, Use, SlotTable, SectionRun, StackPage, SlabBlock, LargeRun, PlainRun, BootRun, HeadBlock, AreaRun, head_with, kmalloc_span, kmalloc_use, slot_of_area, without_allocation}
use Rattle.km_model.specs.Answers.{is_kmalloc_at}
use Rattle.km_model.specs.World.{is_any_section}
use Rattle.km_pages.specs.declared.runs.Run.{Run}
use Rattle.km_pages.specs.declared.runs.Use as kinds
use Rattle.km_pages.specs.declared.runs.Use.TheVariants.{Section}
use Rattle.km_pages.specs.Uses.{same_use, use_of}
use Rattle.km_pages.specs.Runs.{run_at}
use Rattle.km_pages.specs.Laid.{AreLaid, IsLaid}
use Rattle.km_pages.proofs.Beside.{kept_alike, one_use, use_there}
use Rattle.km_pages.proofs.Changes.{same_self}
use Rattle.km_pages.proofs.Laying.{all_left}
use Rattle.km_pages.proofs.Owners.{kmalloc_there}
use Rattle.km_pages.proofs.Undoing.{some_length}
use Rattle.km_sections.specs.Named.{AreSections}

-- what is no section comes
pub sections_come : (given used : List Allocation) (x : Allocation) → AreSections given used → is_any_section x ≡ false → AreSections given (used ++ x ∷ [])
sections_come given used x are other =
    filter-append is_any_section used (x ∷ [])
    ∙ ap (λ b. filter is_any_section used ++ cond b (x ∷ []) []) other
    ∙ append-nil (filter is_any_section used) ∙ are

pub block_comes : (given used : List Allocation) (size a : ℕ) → AreSections given used → AreSections given (used ++ record { «use» = kmalloc_use size; start = a; size = kmalloc_span size } ∷ [])
block_comes given used size a are =
    sections_come given used (record { «use» = kmalloc_use size; start = a; size = kmalloc_span size }) are
    (elim (nat_le size 4096) as (λ b. (elim (if b then SlabBlock else LargeRun) as (λ (_ : Use). Bool) [ SectionRun _ ↦ true | _ ↦ false ]) ≡ false) [ true ↦ refl | false ↦ refl ])

section_is : (u : Use) → elim u as (λ _. Bool) [ SectionRun _ ↦ true | _ ↦ false ] ≡ true → use_of u ≡ Section
section_is SlotTable e = absurd cc
section_is (SectionRun n) e = refl
section_is StackPage e = absurd cc
section_is SlabBlock e = absurd cc
section_is LargeRun e = absurd cc
section_is PlainRun e = absurd cc
section_is BootRun e = absurd cc
section_is (HeadBlock s) e = absurd cc
section_is (AreaRun s) e = absurd cc

-- no section begins at an address
abbrev NoneAt : ℕ → List Allocation → Type 0
NoneAt a used = All (λ (x : Allocation). is_any_section x ≡ true → x.start ≡ a → ⊥) used

-- what begins there goes
go : (given used : List Allocation) (a : ℕ) → AreSections given used → NoneAt a used → AreSections given (without_allocation used a)
go given used a are none =
    kept_alike is_any_section (λ (x : Allocation). not (x.start == a)) used
    (λ k d lt t. let x = get_or used k d in not_from_false (x.start == a) (ne_eqb x.start a (none k d lt t))) ∙ are

pub run_goes : (pages : List (Option Run)) (given used : List Allocation) (kind : kinds.Use) (a n : ℕ) → AreSections given used → AreLaid pages used → run_at pages kind a ≡ Some n → same_use Section kind ≡ false
    → AreSections given (without_allocation used a)
run_goes pages given used kind a n are laid run other =
    go given used a are (λ k d lt t e.
    let x = get_or used k d in
    both_ways (same_use Section kind) other (ap (λ u. same_use u kind) (sym (section_is x.«use» t)) ∙ use_there pages kind a n x (laid.each k d lt) run e))

-- an allocation of another use begins there
abbrev IsOther : ℕ → Allocation → Type 0
IsOther a x = (x.start ≡ a) × (same_use Section (use_of x.«use») ≡ false)

none_beside : (pages : List (Option Run)) (used : List Allocation) (a : ℕ) → AreLaid pages used → Any (IsOther a) used → NoneAt a used
none_beside pages used a laid any k d lt t e =
    let x = get_or used k d in let y = any.1 in
    let same = one_use pages x y (laid.each k d lt) (subst (λ z. IsLaid pages z) any.3 (laid.each any.0 y any.2)) (e ∙ sym any.4.0) in
    both_ways (same_use Section (use_of y.«use»)) any.4.1 (ap (λ u. same_use u (use_of y.«use»)) (sym (section_is x.«use» t) ∙ same) ∙ same_self (use_of y.«use»))

pub block_goes : (pages : List (Option Run)) (given used : List Allocation) (a : ℕ) → AreSections given used → AreLaid pages used → list_any (is_kmalloc_at a) used ≡ true → AreSections given (without_allocation used a)
block_goes pages given used a are laid h =
    let any = Any-from_list_any (is_kmalloc_at a) used h in
    let x = any.1 in let is = kmalloc_there a any.1 any.4 in
    go given used a are (none_beside pages used a laid (any.0, x, any.2, any.3, (is.0, elim is.1 [ inl slab ↦ ap (same_use Section) slab | inr large ↦ ap (same_use Section) large ])))

-- the area of a slot, and its head
later : {P : Allocation → Type 0} (x : Allocation) (used : List Allocation) → Any P used → Any P (x ∷ used)
later x used any = let lt = any.2 in (suc any.0, any.1, omega (arith, lt), any.3, any.4)

area_is : (u : Use) (b : Bool) (o : Option ℕ) (s : ℕ) → elim u as (λ _. Option ℕ) [ AreaRun t ↦ if b then Some t else o | _ ↦ o ] ≡ Some s → ((b ≡ true) × (same_use Section (use_of u) ≡ false)) ⊎ (o ≡ Some s)
area_is (AreaRun t) true o s e = inl (refl, refl)
area_is (AreaRun t) false o s e = inr e
area_is SlotTable b o s e = inr e
area_is (SectionRun n) b o s e = inr e
area_is StackPage b o s e = inr e
area_is SlabBlock b o s e = inr e
area_is LargeRun b o s e = inr e
area_is PlainRun b o s e = inr e
area_is BootRun b o s e = inr e
area_is (HeadBlock t) b o s e = inr e

area_there : (used : List Allocation) (a s : ℕ) → slot_of_area used a ≡ Some s → Any (IsOther a) used
area_there [] a s e = absurd cc
area_there (x ∷ used) a s e = elim (area_is x.«use» (x.start == a) (slot_of_area used a) s e) [
  | inl here ↦ (0, x, omega arith, refl, (eqb-true x.start a here.0, here.1))
  | inr there ↦ later x used (area_there used a s there)
]

head_is : (u : Use) (a h : ℕ) (o : Option ℕ) (s : ℕ) → elim u as (λ _. Option ℕ) [ HeadBlock t ↦ if t == s then Some a else o | _ ↦ o ] ≡ Some h → ((a ≡ h) × (same_use Section (use_of u) ≡ false)) ⊎ (o ≡ Some h)
head_is (HeadBlock t) a h o s e = by_test (t == s) e where
  by_test : (b : Bool) → (if b then Some a else o) ≡ Some h → ((a ≡ h) × (same_use Section (use_of (HeadBlock t)) ≡ false)) ⊎ (o ≡ Some h)
  by_test true e = inl (some_length a h e, refl)
  by_test false e = inr e
head_is SlotTable a h o s e = inr e
head_is (SectionRun n) a h o s e = inr e
head_is StackPage a h o s e = inr e
head_is SlabBlock a h o s e = inr e
head_is LargeRun a h o s e = inr e
head_is PlainRun a h o s e = inr e
head_is BootRun a h o s e = inr e
head_is (AreaRun t) a h o s e = inr e

head_there : (used : List Allocation) (s h : ℕ) → head_with used s ≡ Some h → Any (IsOther h) used
head_there [] s h e = absurd cc
head_there (x ∷ used) s h e = elim (head_is x.«use» x.start h (head_with used s) s e) [
  | inl here ↦ (0, x, omega arith, refl, here)
  | inr there ↦ later x used (head_there used s h there)
]

pub area_goes : (pages : List (Option Run)) (given used : List Allocation) (a s h : ℕ) → AreSections given used → AreLaid pages used → slot_of_area used a ≡ Some s → head_with used s ≡ Some h
    → AreSections given (without_allocation (without_allocation used a) h)
area_goes pages given used a s h are laid area head =
    let Free = λ (x : Allocation). is_any_section x ≡ true → x.start ≡ h → ⊥ in
    go given (without_allocation used a) h (go given used a are (none_beside pages used a laid (area_there used a s area)))
    (all_left Free Free (λ (x : Allocation). not (x.start == a)) used (λ x f k. f) (none_beside pages used h laid (head_there used s h head)))
