use Rattle.std.proofs.Common.{ℕ, ◌≡◌, ◌+◌, ◌-◌, ◌<◌, ◌≤◌, length, vec_capacity}
use Rattle.km_links.specs.Linked.{node_at}
use Rattle.km_links.proofs.chain.reach.Given as goal

abbrev pub invariant-loop-nodes : goal.invariant-loop-nodes
invariant-loop-nodes l = record {
  longer : length l.initial.nodes.items ≤ length l.nodes.items;
  longest : (n : ℕ) → length l.initial.nodes.items ≤ n → l.slot < n → length l.nodes.items ≤ n;
  old : (n : ℕ) → n < length l.initial.nodes.items → node_at l.nodes.items n ≡ node_at l.initial.nodes.items n;
  new : (n : ℕ) → length l.initial.nodes.items ≤ n → n < length l.nodes.items → (node_at l.nodes.items n).next ≡ n;
  capacity : vec_capacity l.initial.nodes ≤ vec_capacity l.nodes;
}

abbrev pub decreases-loop-nodes : goal.decreases-loop-nodes
decreases-loop-nodes l = l.slot + 1 - length l.nodes.items
