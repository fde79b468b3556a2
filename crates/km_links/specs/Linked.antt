use Rattle.std.specs.Prelude.{◌≡◌, ◌==◌, ℕ, zero, suc, ◌<◌, false, nat_lt, List, [], ◌∷◌, length, slice_index_or, slice_set, if◌then◌else◌}
use Rattle.km_links.specs.declared.chain.Node.{Node}
use Rattle.km_links.specs.Chains.{is_in, IsDistinct}

-- what stands where no slot does
abbrev pub no_slot : ℕ
no_slot = 0xffff_ffff

-- the node of a slot
abbrev pub node_at : List Node → ℕ → Node
node_at nodes n = slice_index_or nodes n (record { previous = 0; next = 0 })

-- the slots that are reached from one, as many as are asked for
abbrev pub walk : ℕ → List Node → ℕ → List ℕ
walk zero nodes at = []
walk (suc k) nodes at = if nat_lt at (length nodes) then at ∷ walk k nodes (node_at nodes at).next else []

-- slots that are linked both ways, from `at` to `last`, behind `before` and in front of `after`
abbrev pub IsSegment : List Node → ℕ → ℕ → List ℕ → ℕ → ℕ → Type 0
IsSegment nodes before at [] last after = (at ≡ after) × (last ≡ before)
IsSegment nodes before at (n ∷ ns) last after =
    (at ≡ n) × (n < length nodes) × ((node_at nodes n).previous ≡ before) × IsSegment nodes n (node_at nodes n).next ns last after

-- a list of slots, and those that are not in it, which name themselves
pub record IsLinked (nodes : List Node) (first last : ℕ) (slots : List ℕ) : Type 0 where
  pub linked : IsSegment nodes no_slot first slots last no_slot
  pub distinct : IsDistinct slots
  pub out : (n : ℕ) → n < length nodes → is_in n slots ≡ false → (node_at nodes n).next ≡ n

-- a node with another slot behind it, and with another before it
abbrev pub with_next : List Node → ℕ → ℕ → List Node
with_next nodes at n = slice_set nodes at (record (node_at nodes at) { next = n })

abbrev pub with_previous : List Node → ℕ → ℕ → List Node
with_previous nodes at n = slice_set nodes at (record (node_at nodes at) { previous = n })

-- an end of a list, after the neighbour on that side may be none
abbrev pub end_at_slot : ℕ → ℕ → ℕ → ℕ
end_at_slot neighbour new old = if neighbour == no_slot then new else old

-- the nodes with a slot behind the last one
abbrev pub pushed_nodes : List Node → ℕ → ℕ → List Node
pushed_nodes nodes last n = with_next (slice_set nodes n (record { previous = last; next = no_slot })) last n

-- the nodes with the neighbours of a slot linked with each other
abbrev pub taken_nodes : List Node → ℕ → ℕ → ℕ → List Node
taken_nodes nodes n previous next = slice_set (with_previous (with_next nodes previous next) next previous) n (record { previous = n; next = n })
