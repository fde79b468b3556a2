use Rattle.km_live_bench.specs.Turns.{IsReady}
use Rattle.km_live_bench.proofs.book.turns.Given as goal

abbrev pub invariant-loop : goal.invariant-loop
invariant-loop g l = IsReady l.baton l.by l.token
