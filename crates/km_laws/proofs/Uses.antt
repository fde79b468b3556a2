use Rattle.std.proofs.Common.{◌≡◌, ℕ, Bool, true, false, ◌==◌, List, [], ◌∷◌, Option, Some, if◌then◌else◌, refl, sym, subst, ◌⊎◌, inl, inr, eqb-true}
use Rattle.std.specs.List.{list_any}
use Rattle.km_model.specs.Placement.{Allocation, Use, StackPage, SlabBlock, LargeRun, PlainRun, BootRun, HeadBlock, AreaRun, slot_of_area, head_with}
use Rattle.km_model.specs.Answers.{is_kmalloc_at}
use Rattle.km_laws.specs.Placed.{is_stack, is_boot}
use Rattle.km_laws.proofs.Lists.{In, any_in}

-- what an allocation is, by its use
pub kmalloc_kind : (u : Use) (r : Bool) → (elim u as (λ _. Bool) [ SlabBlock ↦ r | LargeRun ↦ r | _ ↦ false ]) ≡ true
    → (r ≡ true) × ((elim u as (λ _. Bool) [ BootRun ↦ true | _ ↦ false ]) ≡ false) × ((elim u as (λ _. Bool) [ StackPage ↦ true | _ ↦ false ]) ≡ false)
kmalloc_kind SlabBlock r e = (e, refl, refl)
kmalloc_kind LargeRun r e = (e, refl, refl)
kmalloc_kind _ r e = absurd cc

pub plain_kind : (u : Use) (r : Bool) → (elim u as (λ _. Bool) [ PlainRun ↦ r | _ ↦ false ]) ≡ true
    → (r ≡ true) × ((elim u as (λ _. Bool) [ StackPage ↦ false | PlainRun ↦ false | _ ↦ true ]) ≡ false) × ((elim u as (λ _. Bool) [ StackPage ↦ true | _ ↦ false ]) ≡ false)
plain_kind PlainRun r e = (e, refl, refl)
plain_kind _ r e = absurd cc

pub boot_kind : (u : Use) (r : Bool) → (elim u as (λ _. Bool) [ BootRun ↦ r | _ ↦ false ]) ≡ true
    → (r ≡ true) × ((elim u as (λ _. Bool) [ BootRun ↦ true | _ ↦ false ]) ≡ true)
boot_kind BootRun r e = (e, refl)
boot_kind _ r e = absurd cc

-- a live allocation that begins at an address, and is neither boot memory nor a stack
abbrev pub PlainlyAt : List Allocation → ℕ → Type 0
PlainlyAt used a = (y : Allocation) × In y used × (y.start ≡ a) × (is_boot y ≡ false) × (is_stack y ≡ false)

pub kmalloc_at : (used : List Allocation) (a : ℕ) → list_any (is_kmalloc_at a) used ≡ true → PlainlyAt used a
kmalloc_at used a h =
    let y = any_in (is_kmalloc_at a) used h in
    let k = kmalloc_kind y.0.«use» (y.0.start == a) y.2 in
    (y.0, y.1, eqb-true y.0.start a k.0, k.1, k.2)

pub area_kind : (used : List Allocation) (x : Allocation) (a s : ℕ) (u : Use) → x.«use» ≡ u
    → (elim u as (λ _. Option ℕ) [ AreaRun t ↦ if x.start == a then Some t else slot_of_area used a | _ ↦ slot_of_area used a ]) ≡ Some s
    → ((x.start ≡ a) × (is_boot x ≡ false) × (is_stack x ≡ false)) ⊎ (slot_of_area used a ≡ Some s)
area_kind used x a s (AreaRun t) e h =
    let P = λ (q : Bool). (x.start == a) ≡ q → (if q then Some t else slot_of_area used a) ≡ Some s → ((x.start ≡ a) × (is_boot x ≡ false) × (is_stack x ≡ false)) ⊎ (slot_of_area used a ≡ Some s) in
    elim (x.start == a) as P [
      | true ↦ λ f _. inl (eqb-true x.start a f, subst (λ v. (elim v as (λ _. Bool) [ BootRun ↦ true | _ ↦ false ]) ≡ false) (sym e) refl, subst (λ v. (elim v as (λ _. Bool) [ StackPage ↦ true | _ ↦ false ]) ≡ false) (sym e) refl)
      | false ↦ λ f g. inr g
    ] refl h
area_kind used x a s _ e h = inr h

pub area_at : (used : List Allocation) (a s : ℕ) → slot_of_area used a ≡ Some s → PlainlyAt used a
area_at [] a s h = absurd cc
area_at (x ∷ used) a s h =
    elim (area_kind used x a s x.«use» refl h) [
      | inl here ↦ (x, inl refl, here.0, here.1, here.2)
      | inr later ↦ let y = area_at used a s later in (y.0, inr y.1, y.2, y.3, y.4)
    ]

pub head_kind : (used : List Allocation) (x : Allocation) (s head : ℕ) (u : Use) → x.«use» ≡ u
    → (elim u as (λ _. Option ℕ) [ HeadBlock t ↦ if t == s then Some x.start else head_with used s | _ ↦ head_with used s ]) ≡ Some head
    → ((x.start ≡ head) × (is_boot x ≡ false) × (is_stack x ≡ false)) ⊎ (head_with used s ≡ Some head)
head_kind used x s head (HeadBlock t) e h =
    let P = λ (q : Bool). (if q then Some x.start else head_with used s) ≡ Some head → ((x.start ≡ head) × (is_boot x ≡ false) × (is_stack x ≡ false)) ⊎ (head_with used s ≡ Some head) in
    elim (t == s) as P [
      | true ↦ λ f. inl (cc, subst (λ v. (elim v as (λ _. Bool) [ BootRun ↦ true | _ ↦ false ]) ≡ false) (sym e) refl, subst (λ v. (elim v as (λ _. Bool) [ StackPage ↦ true | _ ↦ false ]) ≡ false) (sym e) refl)
      | false ↦ λ g. inr g
    ] h
head_kind used x s head _ e h = inr h

pub head_at : (used : List Allocation) (s head : ℕ) → head_with used s ≡ Some head → PlainlyAt used head
head_at [] s head h = absurd cc
head_at (x ∷ used) s head h =
    elim (head_kind used x s head x.«use» refl h) [
      | inl here ↦ (x, inl refl, here.0, here.1, here.2)
      | inr later ↦ let y = head_at used s head later in (y.0, inr y.1, y.2, y.3, y.4)
    ]
