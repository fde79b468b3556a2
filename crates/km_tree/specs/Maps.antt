use Rattle.std.specs.Prelude.{◌≡◌, ◌==◌, ℕ, zero, suc, ◌+◌, ◌≤◌, ◌<◌, ◌^◌, length, List, [], ◌∷◌, Option, None, Some, slice_get, if◌then◌else◌}
use Rattle.km_map.specs.declared.entries.Entry.{Entry}
use Rattle.km_map.specs.Entries.{IsRising, end_of}
use Rattle.km_tree.specs.declared.node.Node.{Node}
use Rattle.km_tree.specs.Tables.{Stands, height_at}
use Rattle.km_tree.specs.Trees.{Tree, Leaf, Fork, IsLevel, entries_of, root_of, size_of, uses, one, no_node}

-- a node over what is read at its sides
abbrev pub read_node : ℕ → (ℕ → Tree) → Option Node → Tree
read_node i below None = Leaf
read_node i below (Some n) = Fork (below n.left) i n.entry (below n.right)

-- the tree at a place, as many nodes down as are asked for
abbrev pub read : ℕ → List Node → ℕ → Tree
read zero table i = Leaf
read (suc n) table i = if i == no_node then Leaf else read_node i (read n table) (slice_get table i)

-- the tree at a place
abbrev pub tree_at : List Node → ℕ → Tree
tree_at table root = read (height_at table root) table root

-- what a free place names
abbrev pub next_in : Option Node → ℕ
next_in None = no_node
next_in (Some n) = n.left

-- free places, each of which names the next
abbrev pub Chained : List Node → ℕ → List ℕ → Type 0
Chained table i [] = i ≡ no_node
Chained table i (k ∷ ks) = (i ≡ k) × (k < length table) × (k < no_node) × Chained table (next_in (slice_get table k)) ks

-- how often a place is in a list
abbrev pub times : ℕ → List ℕ → ℕ
times i [] = 0
times i (k ∷ ks) = one i k + times i ks

-- a level tree of rising entries and the free places share a table, which has room for more
pub record Kept (table : List Node) (tree : Tree) (spare : List ℕ) (root free room capacity : ℕ) : Type 0 where
  pub is : root_of tree ≡ root
  pub stands : Stands table tree
  pub level : IsLevel tree
  pub rising : IsRising (entries_of tree)
  pub chained : Chained table free spare
  pub once : (i : ℕ) → uses i tree + times i spare ≤ 1
  pub small : size_of tree + room < 2 ^ 32
  pub reach : length table + room ≤ capacity + length spare
  pub fits : length table + room ≤ no_node + length spare

-- some level tree and some free places share a table
pub record AnyKept (table : List Node) (root free room capacity : ℕ) : Type 0 where
  pub tree : Tree
  pub spare : List ℕ
  pub kept : Kept table tree spare root free room capacity

-- the same, where one more entry may come
pub record AnyRoom (table : List Node) (free capacity : ℕ) : Type 0 where
  pub root : ℕ
  pub room : ℕ
  pub more : 0 < room
  pub any : AnyKept table root free room capacity

-- a place is free for a node to come
pub record Ready (table : List Node) (tree : Tree) (root free room capacity : ℕ) : Type 0 where
  pub rest : List ℕ
  pub kept : Kept table tree (free ∷ rest) root free room capacity

-- each span starts at an address or behind it, and ends at another or before it
abbrev pub AreWithin : ℕ → ℕ → List Entry → Type 0
AreWithin low high [] = Unit {0}
AreWithin low high (e ∷ es) = (low ≤ e.span.start.0) × (end_of e ≤ high) × AreWithin low high es

-- a map whose spans lie between two addresses
pub record Bounded (table : List Node) (root free room capacity lowest highest : ℕ) : Type 0 where
  pub any : AnyKept table root free room capacity
  pub within : AreWithin lowest highest (entries_of (tree_at table root))
