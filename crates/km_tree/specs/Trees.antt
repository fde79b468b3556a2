use Rattle.std.specs.Prelude.{ℕ, ◌+◌, ◌≤◌, max, nat_lt, ◌==◌, List, [], ◌∷◌, ◌++◌, Option, None, Some, if◌then◌else◌}
use Rattle.km_base.specs.declared.spans.Span.{Span}
use Rattle.km_map.specs.Entries.{meets, slot_where}
use Rattle.km_map.specs.declared.entries.Entry.{Entry}
use Rattle.km_tree.specs.declared.node.Placed.{Placed}

-- a tree of entries, each beside the place of the table that holds it
pub data Tree : Type 0 where
  Leaf : Tree
  Fork : Tree → ℕ → Entry → Tree → Tree

-- the entries in order
abbrev pub entries_of : Tree → List Entry
entries_of Leaf = []
entries_of (Fork l k e r) = entries_of l ++ e ∷ entries_of r

-- how many nodes the longest way down has
abbrev pub height_of : Tree → ℕ
height_of Leaf = 0
height_of (Fork l k e r) = max (height_of l) (height_of r) + 1

-- what stands where no node does
abbrev pub no_node : ℕ
no_node = 4294967295

-- the place of the node at the top
abbrev pub root_of : Tree → ℕ
root_of Leaf = no_node
root_of (Fork l k e r) = k

-- a number for each node, added up
abbrev pub weigh : (ℕ → Entry → ℕ) → Tree → ℕ
weigh f Leaf = 0
weigh f (Fork l k e r) = weigh f l + f k e + weigh f r

-- how many nodes a tree has
abbrev pub size_of : Tree → ℕ
size_of t = weigh (λ _ _. 1) t

-- 1 where two places are the same
abbrev pub one : ℕ → ℕ → ℕ
one i k = if i == k then 1 else 0

-- how many nodes of a tree stand at a place
abbrev pub uses : ℕ → Tree → ℕ
uses i t = weigh (λ k _. one i k) t

-- the sides of each node differ in height by at most 1
abbrev pub IsLevel : Tree → Type 0
IsLevel Leaf = Unit {0}
IsLevel (Fork l k e r) = (height_of l ≤ height_of r + 1) × (height_of r ≤ height_of l + 1) × IsLevel l × IsLevel r

-- the left side lifted over the node
abbrev pub lifted_left : Tree → ℕ → Entry → Tree → Tree
lifted_left Leaf k e r = Fork Leaf k e r
lifted_left (Fork a j f b) k e r = Fork a j f (Fork b k e r)

-- the right side lifted over the node
abbrev pub lifted_right : Tree → ℕ → Entry → Tree → Tree
lifted_right l k e Leaf = Fork l k e Leaf
lifted_right l k e (Fork a j f b) = Fork (Fork l k e a) j f b

-- a side whose own right side is not the higher one
abbrev pub leant_left : Tree → Tree
leant_left Leaf = Leaf
leant_left (Fork a j f b) = if nat_lt (height_of a) (height_of b) then lifted_right a j f b else Fork a j f b

-- a side whose own left side is not the higher one
abbrev pub leant_right : Tree → Tree
leant_right Leaf = Leaf
leant_right (Fork a j f b) = if nat_lt (height_of b) (height_of a) then lifted_left a j f b else Fork a j f b

-- the node levelled, where its sides differ in height by at most 2
abbrev pub levelled : Tree → ℕ → Entry → Tree → Tree
levelled l k e r =
    if nat_lt (height_of r + 1) (height_of l) then lifted_left (leant_left l) k e r
    else if nat_lt (height_of l + 1) (height_of r) then lifted_right l k e (leant_right r)
    else Fork l k e r

-- what is there, or else another
abbrev pub or_else : {X : Type 0} → Option X → Option X → Option X
or_else None b = b
or_else (Some a) b = Some a

-- the slot of an entry that meets a span, or else another
abbrev pub met_by : Span → Option ℕ → Entry → Option ℕ
met_by s other e = if meets s e then Some e.slot else other

-- the slot of the lowest entry of a tree that meets a span, or else another
abbrev pub met_in : Span → Option ℕ → Tree → Option ℕ
met_in s other t = or_else (slot_where (meets s) (entries_of t)) other

-- the tree with one more entry
abbrev pub hung : ℕ → Entry → Tree → Tree
hung n x Leaf = Fork Leaf n x Leaf
hung n x (Fork l k e r) =
    if nat_lt x.span.start.0 e.span.start.0 then levelled (hung n x l) k e r else levelled l k e (hung n x r)

-- the lowest entry of a node with its place, and the tree without it
abbrev pub lowest : Tree → ℕ → Entry → Tree → ℕ × Entry × Tree
lowest Leaf k e r = (k, e, r)
lowest (Fork a j f b) k e r = ((lowest a j f b).0, (lowest a j f b).1, levelled (lowest a j f b).2 k e r)

-- one tree of two, the first before the second
abbrev pub joined : Tree → Tree → Tree
joined l Leaf = l
joined l (Fork a j f b) = levelled l (lowest a j f b).0 (lowest a j f b).1 (lowest a j f b).2

-- the tree without the entry whose span starts at an address
abbrev pub unhung : ℕ → Tree → Tree
unhung s Leaf = Leaf
unhung s (Fork l k e r) =
    if s == e.span.start.0 then joined l r
    else if nat_lt s e.span.start.0 then levelled (unhung s l) k e r
    else levelled l k e (unhung s r)

-- the node of the entry whose span starts at an address
abbrev pub gone : ℕ → Tree → Option Placed
gone s Leaf = None
gone s (Fork l k e r) = if s == e.span.start.0 then Some (record { place = k; entry = e }) else if nat_lt s e.span.start.0 then gone s l else gone s r
