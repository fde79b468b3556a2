use Rattle.std.specs.Prelude.{◌≡◌, ℕ, suc, ◌+◌, ◌*◌, ◌≤◌, Bool, true, false, ◌⊎◌, List}
use Rattle.km_base.specs.declared.sizes.TheConstants.{PAGE}
use Rattle.km_model.specs.Memory.{base}
use Rattle.km_model.specs.Blocks.{Block}
use Rattle.km_model.specs.Placement.{Allocation, StackPage, PlainRun, BootRun}
use Rattle.km_model.specs.Tasks.{Task}
use Rattle.km_laws.specs.Members.{In}

-- two runs of bytes have none in common
abbrev pub Apart : ℕ → ℕ → ℕ → ℕ → Type 0
Apart a size b other = (a + size ≤ b) ⊎ (b + other ≤ a)

-- two allocations never meet
abbrev pub AllocationsApart : Allocation → Allocation → Type 0
AllocationsApart x y = Apart x.start x.size y.start y.size

-- two blocks never meet
abbrev pub BlocksApart : Block → Block → Type 0
BlocksApart b c = Apart b.start b.size c.start c.size

-- some bytes lie in the memory
abbrev pub InMemory : ℕ → ℕ → ℕ → Type 0
InMemory words start size = (base ≤ start) × (start + size ≤ base + 8 * words)

-- some bytes are whole words, one at least
abbrev pub Words : ℕ → Type 0
Words size = (n : ℕ) × (size ≡ 8 * suc n)

-- and begin at a word, counted from the first byte of the memory
abbrev pub WholeWords : ℕ → ℕ → Type 0
WholeWords start size = ((i : ℕ) × (start ≡ base + 8 * i)) × Words size

-- whether an allocation is a stack
abbrev pub is_stack : Allocation → Bool
is_stack x = elim x.«use» [ StackPage ↦ true | _ ↦ false ]

-- whether an allocation is a run of boot memory
abbrev pub is_boot : Allocation → Bool
is_boot x = elim x.«use» [ BootRun ↦ true | _ ↦ false ]

-- whether a block may lie in an allocation: not in a stack, and not in a run of untracked pages
abbrev pub is_tracked : Allocation → Bool
is_tracked x = elim x.«use» [ StackPage ↦ false | PlainRun ↦ false | _ ↦ true ]

-- a block is whole words of a live allocation that is tracked, and begins at its start unless it is boot memory
abbrev pub BlockPlaced : List Allocation → Block → Type 0
BlockPlaced used b =
    (x : Allocation) × In x used × (is_tracked x ≡ true) × (x.start ≤ b.start) × (b.start + b.size ≤ x.start + x.size)
    × ((b.start ≡ x.start) ⊎ (is_boot x ≡ true)) × WholeWords b.start b.size

-- the stack of a task is a live allocation of one page
abbrev pub StackPlaced : List Allocation → Task → Type 0
StackPlaced used t = (x : Allocation) × In x used × (is_stack x ≡ true) × (x.start ≡ t.stack) × (x.size ≡ PAGE)
