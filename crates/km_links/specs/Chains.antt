use Rattle.std.specs.Prelude.{◌≡◌, ℕ, Bool, false, not, ◌==◌, List, [], ◌∷◌, filter, Option, Some, None, if◌then◌else◌}
use Rattle.std.specs.List.{list_any}
use Rattle.km_links.specs.declared.links.Which.{Which}
use Rattle.km_links.specs.declared.links.Which.TheVariants.{Order, Grey, Free}

-- what a chain is seen as: its slots in order, and how many slots the table has
pub record Chained : Type 0 where
  pub slots : List ℕ
  pub capacity : ℕ

-- what the three lists are seen as
pub record Lists : Type 0 where
  pub order : List ℕ
  pub grey : List ℕ
  pub free : List ℕ
  pub capacity : ℕ

-- one of the three
abbrev pub list_of : Which → Lists → List ℕ
list_of Order l = l.order
list_of Grey l = l.grey
list_of Free l = l.free

-- the three, with another list in place of one
abbrev pub with_list : Which → List ℕ → Lists → Lists
with_list Order ns l = record l { order = ns }
with_list Grey ns l = record l { grey = ns }
with_list Free ns l = record l { free = ns }

-- whether a slot is in a list
abbrev pub is_in : ℕ → List ℕ → Bool
is_in n ns = list_any (λ m. m == n) ns

-- a list without a slot
abbrev pub without : ℕ → List ℕ → List ℕ
without n ns = filter (λ m. not (m == n)) ns

-- the first slot
abbrev pub first_of : List ℕ → Option ℕ
first_of [] = None
first_of (n ∷ ns) = Some n

-- the slot behind another
abbrev pub slot_behind : ℕ → List ℕ → Option ℕ
slot_behind n [] = None
slot_behind n (m ∷ ns) = if m == n then first_of ns else slot_behind n ns

-- no slot is there twice
abbrev pub IsDistinct : List ℕ → Type 0
IsDistinct [] = Unit {0}
IsDistinct (n ∷ ns) = (is_in n ns ≡ false) × IsDistinct ns
