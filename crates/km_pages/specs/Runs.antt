use Rattle.std.specs.Prelude.{◌≡◌, ℕ, zero, suc, ◌+◌, ◌<◌, ◌≤◌, ◌^◌, Bool, true, ◌&&◌, nat_le, ◌==◌, List, ◌++◌, length, slice_index_or, take, drop, replicate, Option, Some, None, is_none, option_map, Result, Ok, Err, if◌then◌else◌}
use Rattle.km_base.specs.declared.spans.Addr.{Addr}
use Rattle.km_pages.specs.declared.errors.NoRoom.{NoRoom}
use Rattle.km_pages.specs.declared.runs.Use.{Use}
use Rattle.km_pages.specs.declared.runs.Run.{Run}
use Rattle.km_pages.specs.Uses.{same_use}
use Rattle.km_model.specs.Placement.{page_start, page_of, least_from}

-- the run that has a page; pages behind the memory are free
abbrev pub run_with : List (Option Run) → ℕ → Option Run
run_with pages p = slice_index_or pages p None

-- whether a page is in no run
abbrev pub is_free : List (Option Run) → ℕ → Bool
is_free pages p = is_none (run_with pages p)

-- whether `n` pages from `p` on are free
abbrev pub are_free : List (Option Run) → ℕ → ℕ → Bool
are_free pages zero p = true
are_free pages (suc n) p = is_free pages p && are_free pages n (p + 1)

-- the lowest page from which `n` pages are free, were the memory endless
abbrev pub lowest_free : List (Option Run) → ℕ → ℕ
lowest_free pages n = least_from (are_free pages n) (length pages) 0

-- the same, if the memory has room
abbrev pub first_fit : List (Option Run) → ℕ → Option ℕ
first_fit pages n = if nat_le (lowest_free pages n + n) (length pages) then Some (lowest_free pages n) else None

-- the pages after `n` of them from `p` on became those of a run, or free
abbrev pub with_run : List (Option Run) → ℕ → ℕ → Option Run → List (Option Run)
with_run pages p n run = take p pages ++ (replicate n run ++ drop (p + n) pages)

-- the pages after a run was taken at an address, and after it was given back
abbrev pub taken : List (Option Run) → Use → ℕ → ℕ → List (Option Run)
taken pages kind a n = with_run pages (page_of a) n (Some (record { kind = kind; first = page_of a; len = n }))

abbrev pub given : List (Option Run) → ℕ → ℕ → List (Option Run)
given pages a n = with_run pages (page_of a) n None

-- the length of a run, if it is of this use and begins at this page
abbrev pub length_if : Use → ℕ → Option Run → Option ℕ
length_if kind p None = None
length_if kind p (Some run) = if same_use run.kind kind && run.first == p then Some run.len else None

-- how many pages the run of a use has that begins at a page
abbrev pub run_from : List (Option Run) → Use → ℕ → Option ℕ
run_from pages kind p = length_if kind p (run_with pages p)

-- the same at an address
abbrev pub run_at : List (Option Run) → Use → ℕ → Option ℕ
run_at pages kind a = if a == page_start (page_of a) then run_from pages kind (page_of a) else None

-- where a run of `n` pages is placed
abbrev pub place : List (Option Run) → ℕ → Option ℕ
place pages n = option_map page_start (first_fit pages n)

-- the address of an answer, if it has one
abbrev pub address_of : Result Addr NoRoom → Option ℕ
address_of (Ok a) = Some a.0
address_of (Err _) = None

-- each run has its pages, at least one, and all of them in the memory
pub record AreRuns (pages : List (Option Run)) : Type 0 where
  pub short : length pages < 2 ^ 32
  pub from : (p : ℕ) (run : Run) → run_with pages p ≡ Some run → run.first ≤ p
  pub to : (p : ℕ) (run : Run) → run_with pages p ≡ Some run → p < run.first + run.len
  pub end : (p : ℕ) (run : Run) → run_with pages p ≡ Some run → run.first + run.len ≤ length pages
  pub all : (p q : ℕ) (run : Run) → run_with pages p ≡ Some run → run.first ≤ q → q < run.first + run.len → run_with pages q ≡ Some run

-- a run of a use was taken of pages that were free
pub record IsTaken (pages new : List (Option Run)) (kind : Use) (a n : ℕ) : Type 0 where
  pub some : 0 < n
  pub start : a ≡ page_start (page_of a)
  pub room : page_of a + n ≤ length pages
  pub free : are_free pages n (page_of a) ≡ true
  pub new_is : new ≡ taken pages kind a n
