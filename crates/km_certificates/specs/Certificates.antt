-- What is held at a moment.
use Rattle.std.specs.Prelude.{ℕ, zero, suc, ◌+◌, Bool, ◌&&◌, not, ◌==◌, List, [], ◌∷◌, ◌++◌, map, filter, find, length, sum_by, Option, Some, None, if◌then◌else◌}
use Rattle.std.specs.List.{list_any}
use Rattle.km_model.specs.History.{History}
use Rattle.km_model.specs.Memory.{memory_after}
use Rattle.km_model.specs.Blocks.{Block, is_black, needs}
use Rattle.km_model.specs.World.{World}
use Rattle.km_model.specs.Past.{world}
use Rattle.km_model.specs.Follows.{past_of}
use Rattle.km_model.specs.Held.{Standing, direct_words, surplus, is_supported}

-- what stands at a moment, as if it stayed so: each word with its value, the live blocks, the stacks if they are scanned
abbrev pub standing_now : World → List ℕ → Standing
standing_now w memory = record { steady = map Some memory; blocks = w.blocks; stacks = if w.stacks then w.tasks else [] }

-- what stands after a history
abbrev pub standing_after : ℕ → History → Standing
standing_after words h = standing_now (world (past_of h)) (memory_after words h)

-- the references to a block from these and the stacks: those that are direct, and those that heads pass on
abbrev pub found : Standing → List Block → Block → ℕ
found s before b = length (direct_words s before b) + sum_by (λ head. surplus s before head b) s.blocks

-- whether a block is one of these
abbrev pub is_member : List Block → Block → Bool
is_member bs b = list_any (λ (c : Block). c.id == b.id) bs

-- whether a block may follow these in a list: it isn't one of them, it isn't black, and it has as many references as it needs
abbrev pub may_follow : Standing → List Block → Block → Bool
may_follow s before b = not (is_member before b) && not (is_black b) && is_supported s before b

-- a list with the first block that may follow it, and so on, so many times at most
abbrev pub grown : ℕ → Standing → List Block → List Block
grown zero s list = list
grown (suc n) s list = elim (find (may_follow s list) s.blocks) [ None ↦ list | Some b ↦ grown n s (list ++ b ∷ []) ]

-- the blocks that are held: those that need no reference in order of registration, and then again and again the first,
-- in order of registration, that may follow all of these
abbrev pub held_blocks : Standing → List Block
held_blocks s = grown (length s.blocks) s (filter (needs 0) s.blocks)

-- these up to the one with an id
abbrev pub up_to : ℕ → List Block → List Block
up_to id [] = []
up_to id (b ∷ bs) = if b.id == id then b ∷ [] else b ∷ up_to id bs

-- whether the block with an id is held
abbrev pub is_held : Standing → ℕ → Bool
is_held s id = list_any (λ (c : Block). c.id == id) (held_blocks s)

-- why it is: the list ends with the block
abbrev pub list_of : Standing → ℕ → List Block
list_of s id = up_to id (held_blocks s)

-- a member of a list, with the references from those before it
pub record Counted : Type 0 where
  pub block : Block
  pub found : ℕ

-- the members of a list after these
abbrev pub counted_after : Standing → List Block → List Block → List Counted
counted_after s before [] = []
counted_after s before (b ∷ bs) = record { block = b; found = found s before b } ∷ counted_after s (before ++ b ∷ []) bs

-- the members of a list
abbrev pub counted : Standing → List Block → List Counted
counted s bs = counted_after s [] bs

-- the place of the first of these, after others, that may not stand there; the first place is n
abbrev pub first_unfit : Standing → ℕ → List Block → List Block → Option ℕ
first_unfit s n before [] = None
first_unfit s n before (b ∷ bs) = if may_follow s before b then first_unfit s (n + 1) (before ++ b ∷ []) bs else Some n
