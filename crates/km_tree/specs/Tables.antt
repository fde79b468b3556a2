use Rattle.std.specs.Prelude.{◌≡◌, ℕ, ◌+◌, ◌≤◌, ◌<◌, ◌^◌, length, max, ◌==◌, List, Option, None, Some, Result, Ok, Err, slice_get, if◌then◌else◌}
use Rattle.km_map.specs.Entries.{IsRising}
use Rattle.km_map.specs.declared.entries.Entry.{Entry}
use Rattle.km_tree.specs.declared.node.Node.{Node}
use Rattle.km_tree.specs.Trees.{Tree, Leaf, Fork, entries_of, height_of, no_node, root_of, size_of, one, uses, IsLevel, hung, met_in}

-- the node over two trees
abbrev pub node_of : Tree → Entry → Tree → Node
node_of l e r = record { entry = e; left = root_of l; right = root_of r; height = max (height_of l) (height_of r) + 1 }

-- the table holds the nodes of a tree
abbrev pub Stands : List Node → Tree → Type 0
Stands table Leaf = Unit {0}
Stands table (Fork l k e r) = (slice_get table k ≡ Some (node_of l e r)) × (k < no_node) × Stands table l × Stands table r

abbrev pub height_in : Option Node → ℕ
height_in None = 0
height_in (Some n) = n.height

-- the height that the table keeps of the tree at a place
abbrev pub height_at : List Node → ℕ → ℕ
height_at table root = if root == no_node then 0 else height_in (slice_get table root)

-- a tree stands at a place, with no place twice
pub record Held (table : List Node) (t : Tree) (root : ℕ) : Type 0 where
  pub is : root_of t ≡ root
  pub stands : Stands table t
  pub once : (i : ℕ) → uses i t ≤ 1
  pub small : size_of t < 2 ^ 32

-- two trees stand at two places, apart from each other and from the place of a node to come
pub record Sides (table : List Node) (t : Tree) (l k r : ℕ) (u : Tree) : Type 0 where
  pub left_is : root_of t ≡ l
  pub right_is : root_of u ≡ r
  pub left : Stands table t
  pub right : Stands table u
  pub once : (i : ℕ) → uses i t + one i k + uses i u ≤ 1
  pub small : size_of t + 1 + size_of u < 2 ^ 32
  pub inside : k < length table
  pub place : k < no_node

-- two trees stand at two places, apart from each other
pub record Pair (table : List Node) (t : Tree) (l r : ℕ) (u : Tree) : Type 0 where
  pub left_is : root_of t ≡ l
  pub right_is : root_of u ≡ r
  pub left : Stands table t
  pub right : Stands table u
  pub once : (i : ℕ) → uses i t + uses i u ≤ 1
  pub small : size_of t + size_of u < 2 ^ 32

-- a tree stands at a place, and only its own places have changed
pub record Made (old new : List Node) (t : Tree) (root : ℕ) : Type 0 where
  pub is : root_of t ≡ root
  pub stands : Stands new t
  pub rest : (i : ℕ) → uses i t ≡ 0 → slice_get new i ≡ slice_get old i
  pub same_length : length new ≡ length old

-- an entry was hung into a tree and meets none of it, or else nothing changed, and the lowest that it meets is told
abbrev pub Tried : List Node → List Node → ℕ → Entry → Tree → Option ℕ → Result ℕ ℕ → Type 0
Tried old new n e t other (Ok root) = (met_in e.span other t ≡ None) × Made old new (hung n e t) root
Tried old new n e t other (Err slot) = (met_in e.span other t ≡ Some slot) × (new ≡ old)

-- some tree stands at a place
pub record AnyHeld (table : List Node) (root : ℕ) : Type 0 where
  pub tree : Tree
  pub held : Held table tree root

-- some trees stand at two places
pub record AnySides (table : List Node) (l k r : ℕ) : Type 0 where
  pub left : Tree
  pub right : Tree
  pub sides : Sides table left l k r right

-- some level tree of rising entries stands at a place, apart from another place
pub record AnyBeside (table : List Node) (root n : ℕ) : Type 0 where
  pub tree : Tree
  pub beside : Sides table tree root n no_node Leaf
  pub level : IsLevel tree
  pub rising : IsRising (entries_of tree)

-- a place of the table where a tree of rising entries stands
pub record TreeAt (table : List Node) (root : ℕ) : Type 0 where
  pub tree : Tree
  pub is : root_of tree ≡ root
  pub stands : Stands table tree
  pub rising : IsRising (entries_of tree)

-- some two trees stand at two places, the second level
pub record AnyPair (table : List Node) (l r : ℕ) : Type 0 where
  pub left : Tree
  pub right : Tree
  pub pair : Pair table left l r right
  pub level : IsLevel right

-- some level tree that is no leaf stands at a place
pub record AnyFork (table : List Node) (i : ℕ) : Type 0 where
  pub left : Tree
  pub entry : Entry
  pub right : Tree
  pub held : Held table (Fork left i entry right) i
  pub level : IsLevel (Fork left i entry right)

-- some level tree stands at a place
pub record AnyLevel (table : List Node) (root : ℕ) : Type 0 where
  pub tree : Tree
  pub held : Held table tree root
  pub level : IsLevel tree

-- a level node stands at a place, and another tree is to be its left side
pub record OverLeft (table : List Node) (before left root : ℕ) (l m : Tree) (e : Entry) (r : Tree) : Type 0 where
  pub node : slice_get table root ≡ Some (node_of l e r)
  pub sides : Sides table m left root (root_of r) r
  pub height : before ≡ height_of l
  pub low : height_of l ≤ height_of r + 1
  pub high : height_of r ≤ height_of l + 1

-- a level node stands at a place, and another tree is to be its right side
pub record OverRight (table : List Node) (before right root : ℕ) (l : Tree) (e : Entry) (r m : Tree) : Type 0 where
  pub node : slice_get table root ≡ Some (node_of l e r)
  pub sides : Sides table l (root_of l) root right m
  pub height : before ≡ height_of r
  pub low : height_of l ≤ height_of r + 1
  pub high : height_of r ≤ height_of l + 1

-- some such node
pub record AnyOverLeft (table : List Node) (before left root : ℕ) : Type 0 where
  pub old : Tree
  pub new : Tree
  pub entry : Entry
  pub right : Tree
  pub over : OverLeft table before left root old new entry right

-- some such node
pub record AnyOverRight (table : List Node) (before right root : ℕ) : Type 0 where
  pub left : Tree
  pub entry : Entry
  pub old : Tree
  pub new : Tree
  pub over : OverRight table before right root left entry old new
