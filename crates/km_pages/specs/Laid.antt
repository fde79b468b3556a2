use Rattle.std.specs.Prelude.{◌≡◌, ℕ, ◌+◌, ◌*◌, ◌<◌, ◌≤◌, true, false, List, Option, Some, ◌⊎◌}
use Rattle.std.specs.List.{All, AllPairs}
use Rattle.km_base.specs.declared.sizes.TheConstants.{PAGE}
use Rattle.km_pages.specs.declared.runs.Use.{Use}
use Rattle.km_pages.specs.declared.runs.Run.{Run}
use Rattle.km_pages.specs.Uses.{use_of}
use Rattle.km_pages.specs.Runs.{run_with, is_free}
use Rattle.km_model.specs.Placement.{Allocation, page_start, is_free_page, is_slab_block}

-- an allocation lies in a run of its use, and is all of it unless it is a slab block
pub record IsIn (run : Run) (x : Allocation) : Type 0 where
  pub its_use : run.kind ≡ use_of x.«use»
  pub low : page_start run.first ≤ x.start
  pub high : x.start + x.size ≤ page_start (run.first + run.len)
  pub some : 0 < x.size
  pub whole : is_slab_block x ≡ false → (x.start ≡ page_start run.first) × (x.size ≡ PAGE * run.len)

-- all pages of a run are that run's
abbrev pub HasRun : List (Option Run) → Run → Type 0
HasRun pages run = (p : ℕ) → run.first ≤ p → p < run.first + run.len → run_with pages p ≡ Some run

-- an allocation lies in some run
pub record IsLaid (pages : List (Option Run)) (x : Allocation) : Type 0 where
  pub run : Run
  pub inside : IsIn run x
  pub has : HasRun pages run

-- the pages are held for these allocations: each lies in a run, and each held page has some of them
pub record AreLaid (pages : List (Option Run)) (used : List Allocation) : Type 0 where
  pub each : All (IsLaid pages) used
  pub held : (p : ℕ) → is_free_page used p ≡ true → is_free pages p ≡ true

-- an allocation begins with a run of this use and ends in its last page, at its end unless it is a slab block
pub record Fills (kind : Use) (n a : ℕ) (x : Allocation) : Type 0 where
  pub its_use : kind ≡ use_of x.«use»
  pub start : x.start ≡ a
  pub long : PAGE * n < x.size + PAGE
  pub fits : x.size ≤ PAGE * n
  pub whole : is_slab_block x ≡ false → x.size ≡ PAGE * n

-- those of these allocations that lie in `n` pages from an address on all begin at one address there
pub record BeginAt (used : List Allocation) (n a b : ℕ) : Type 0 where
  pub low : a ≤ b
  pub high : b < a + PAGE * n
  pub alone : All (λ (x : Allocation). a ≤ x.start → x.start < a + PAGE * n → x.start ≡ b) used

-- two allocations have no byte in common
abbrev pub IsBeside : Allocation → Allocation → Type 0
IsBeside x y = (x.start + x.size ≤ y.start) ⊎ (y.start + y.size ≤ x.start)

-- no two of these allocations meet
abbrev pub AreApart : List Allocation → Type 0
AreApart used = AllPairs IsBeside used
