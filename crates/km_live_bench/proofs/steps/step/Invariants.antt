use Rattle.std.proofs.Common.{◌≡◌, length}
use Rattle.km_live_bench.proofs.steps.step.Given as goal

abbrev pub invariant-loop : goal.invariant-loop
invariant-loop l = length l.words.words.words ≡ length l.initial.words.words.words
