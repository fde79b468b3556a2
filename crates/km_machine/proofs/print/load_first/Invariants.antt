use Rattle.std.proofs.Common.{◌≡◌, ◌*◌, length, take}
use Rattle.km_laws.specs.Placed.{InMemory}
use Rattle.km_model.specs.Blocks.{Block}
use Rattle.km_machine.proofs.Entries.{bytes_to}
use Rattle.km_machine.proofs.print.load_first.Given as goal

-- the bytes of the words up to here are in place
abbrev pub invariant-loop-i : goal.invariant-loop-i
invariant-loop-i l = record {
  same : l.words ≡ l.initial.words;
  bytes : (b : Block) → b.start ≡ l.span.start.0 → b.size ≡ l.span.size → InMemory (length l.initial.words) b.start b.size → take (8 * l.i) l.bytes ≡ bytes_to l.initial.words b l.i;
}
