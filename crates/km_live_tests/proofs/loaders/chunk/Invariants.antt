use Rattle.std.proofs.Common.{◌≡◌, true, length, All}
use Rattle.km_model.specs.Memory.{in_memory}
use Rattle.km_live_tests.proofs.loaders.chunk.Given as goal

-- as many words so far, each of the memory
abbrev pub invariant-loop-i : goal.invariant-loop-i
invariant-loop-i l = All (λ a. in_memory 512 a.0 ≡ true) l.at.items × (length l.at.items ≡ l.i)
