use Rattle.std.proofs.Common.{◌≡◌, ◌++◌, take, vec_capacity}
use Rattle.km_edge.proofs.memory.append.Given as goal

abbrev pub invariant-loop-byte : goal.invariant-loop-byte
invariant-loop-byte l = record {
  items : l.bytes.items ≡ l.initial.bytes.items ++ take l.byte-index l.piece;
  capacity : vec_capacity l.bytes ≡ vec_capacity l.initial.bytes;
}
