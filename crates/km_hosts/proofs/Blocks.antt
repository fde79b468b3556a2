use Rattle.std.proofs.Common.{◌≡◌, ℕ, Bool, true, false, ◌&&◌, ◌||◌, ◌==◌, List, [], ◌∷◌, nat_le, if◌then◌else◌, refl, sym, ap, ◌∙◌, eqb-true, inl, inr}
use Rattle.std.specs.List.{list_any}
use Rattle.std.proofs.lemmas.Bool.{both_ways, false_from_ne_true, or_cases, or_from, or_parts}
use Rattle.km_model.specs.Answers.{is_kmalloc_at}
use Rattle.km_model.specs.Members.{Each}
use Rattle.km_model.specs.Placement.{Allocation, Use, SlotTable, SectionRun, StackPage, SlabBlock, LargeRun, PlainRun, BootRun, HeadBlock, AreaRun, kmalloc_span, kmalloc_use, is_slab_block}
use Rattle.km_model.specs.World.{is_any_section}
use Rattle.km_pages.specs.declared.runs.Use.TheVariants.{Section, Vmalloc}
use Rattle.km_pages.specs.Uses.{same_use, use_of}
use Rattle.km_slab.specs.Blocks.{IsBlock, is_block_at}
use Rattle.km_vmalloc.specs.Areas.{is_head_at, is_part}
use Rattle.km_hosts.specs.Hosting.{StartsDiffer}

-- the block of a kmalloc
pub block_of : (size a : ℕ) → IsBlock size a (record { «use» = kmalloc_use size; start = a; size = kmalloc_span size })
block_of size a = record {
  start = refl;
  span = refl;
  small = elim (nat_le size 4096) as (λ b. is_slab_block (record { «use» = if b then SlabBlock else LargeRun; start = a; size = kmalloc_span size }) ≡ b) [ true ↦ refl | false ↦ refl ];
  large = λ e. ap (λ b. if b then SlabBlock else LargeRun) e;
}

-- is no part of an area and no section
pub block_no_part : (size a n : ℕ) → is_part (record { «use» = kmalloc_use size; start = a; size = n }) ≡ false
block_no_part size a n = elim (nat_le size 4096) as (λ b. is_part (record { «use» = if b then SlabBlock else LargeRun; start = a; size = n }) ≡ false) [ true ↦ refl | false ↦ refl ]

pub block_no_section : (size a n : ℕ) → is_any_section (record { «use» = kmalloc_use size; start = a; size = n }) ≡ false
block_no_section size a n = elim (nat_le size 4096) as (λ b. is_any_section (record { «use» = if b then SlabBlock else LargeRun; start = a; size = n }) ≡ false) [ true ↦ refl | false ↦ refl ]

-- the pages of blocks are for no section and no area
pub record IsBlockUse (u : Use) : Type 0 where
  pub no_section : same_use (use_of u) Section ≡ false
  pub no_area : same_use (use_of u) Vmalloc ≡ false

pub block_use : (u : Use) (q : Bool) → (((elim u as (λ _. Bool) [ SlabBlock ↦ true | HeadBlock _ ↦ true | _ ↦ false ]) || (elim u as (λ _. Bool) [ LargeRun ↦ true | _ ↦ false ])) && q) ≡ true → IsBlockUse u
block_use SlotTable q e = absurd cc
block_use (SectionRun n) q e = absurd cc
block_use StackPage q e = absurd cc
block_use SlabBlock q e = record { no_section = refl; no_area = refl }
block_use LargeRun q e = record { no_section = refl; no_area = refl }
block_use PlainRun q e = absurd cc
block_use BootRun q e = absurd cc
block_use (HeadBlock s) q e = record { no_section = refl; no_area = refl }
block_use (AreaRun s) q e = absurd cc

-- a block that is no head is one of kmalloc
no_head : (u : Use) (q : Bool) → (elim u as (λ _. Bool) [ HeadBlock _ ↦ q | _ ↦ false ]) ≡ false
    → (((elim u as (λ _. Bool) [ SlabBlock ↦ true | HeadBlock _ ↦ true | _ ↦ false ]) || (elim u as (λ _. Bool) [ LargeRun ↦ true | _ ↦ false ])) && q) ≡ elim u as (λ _. Bool) [ SlabBlock ↦ q | LargeRun ↦ q | _ ↦ false ]
no_head SlotTable q e = refl
no_head (SectionRun n) q e = refl
no_head StackPage q e = refl
no_head SlabBlock q e = refl
no_head LargeRun q e = refl
no_head PlainRun q e = refl
no_head BootRun q e = refl
no_head (HeadBlock s) q e = e
no_head (AreaRun s) q e = refl

pub blocks_alike : (used : List Allocation) (a : ℕ) → list_any (is_head_at a) used ≡ false → list_any (is_block_at a) used ≡ list_any (is_kmalloc_at a) used
blocks_alike [] a e = refl
blocks_alike (x ∷ used) a e =
    let parts = or_parts (is_head_at a x) (list_any (is_head_at a) used) e in
    ap (λ b. b || list_any (is_block_at a) used) (no_head x.«use» (x.start == a) parts.0) ∙ ap (λ b. is_kmalloc_at a x || b) (blocks_alike used a parts.1)

-- where allocations begin that pass these tests
record IsHead (u : Use) (q : Bool) : Type 0 where
  here : q ≡ true
  other : (elim u as (λ _. Bool) [ SlabBlock ↦ q | LargeRun ↦ q | _ ↦ false ]) ≡ false

head_here : (u : Use) (q : Bool) → (elim u as (λ _. Bool) [ HeadBlock _ ↦ q | _ ↦ false ]) ≡ true → IsHead u q
head_here SlotTable q e = absurd cc
head_here (SectionRun n) q e = absurd cc
head_here StackPage q e = absurd cc
head_here SlabBlock q e = absurd cc
head_here LargeRun q e = absurd cc
head_here PlainRun q e = absurd cc
head_here BootRun q e = absurd cc
head_here (HeadBlock s) q e = record { here = e; other = refl }
head_here (AreaRun s) q e = absurd cc

kmalloc_here : (u : Use) (q : Bool) → (elim u as (λ _. Bool) [ SlabBlock ↦ q | LargeRun ↦ q | _ ↦ false ]) ≡ true → q ≡ true
kmalloc_here SlotTable q e = absurd cc
kmalloc_here (SectionRun n) q e = absurd cc
kmalloc_here StackPage q e = absurd cc
kmalloc_here SlabBlock q e = e
kmalloc_here LargeRun q e = e
kmalloc_here PlainRun q e = absurd cc
kmalloc_here BootRun q e = absurd cc
kmalloc_here (HeadBlock s) q e = absurd cc
kmalloc_here (AreaRun s) q e = absurd cc

none_of : (P : Allocation → Type 0) (test : Allocation → Bool) (used : List Allocation) → Each P used → ((x : Allocation) → P x → test x ≡ true → ⊥) → list_any test used ≡ false
none_of P test [] each none = refl
none_of P test (x ∷ used) each none = or_from (test x) (list_any test used) (false_from_ne_true (test x) (none x each.0)) (none_of P test used each.1 none)

-- no block of kmalloc begins where a head does
pub head_alone : (used : List Allocation) (a : ℕ) → StartsDiffer used → list_any (is_head_at a) used ≡ true → list_any (is_kmalloc_at a) used ≡ false
head_alone [] a differ h = absurd cc
head_alone (x ∷ used) a differ h =
    elim (or_cases (is_head_at a x) (list_any (is_head_at a) used) h) [
      | inl here ↦
          let head = head_here x.«use» (x.start == a) here in
          or_from (is_kmalloc_at a x) (list_any (is_kmalloc_at a) used) head.other
          (none_of (λ (y : Allocation). x.start ≡ y.start → ⊥) (is_kmalloc_at a) used differ.0
          (λ y ne k. ne (eqb-true x.start a head.here ∙ sym (eqb-true y.start a (kmalloc_here y.«use» (y.start == a) k)))))
      | inr there ↦
          or_from (is_kmalloc_at a x) (list_any (is_kmalloc_at a) used)
          (false_from_ne_true (is_kmalloc_at a x) (λ k.
          both_ways (list_any (is_head_at a) used)
          (none_of (λ (y : Allocation). x.start ≡ y.start → ⊥) (is_head_at a) used differ.0
          (λ y ne e. ne (eqb-true x.start a (kmalloc_here x.«use» (x.start == a) k) ∙ sym (eqb-true y.start a (head_here y.«use» (y.start == a) e).here)))) there))
          (head_alone used a differ.1 there)
    ]
