use Rattle.std.proofs.Common.{◌≡◌, ◌+◌, drop}
use Rattle.std.specs.List.{position_from}
use Rattle.km_model.specs.Grammar.{is_foreign}
use Rattle.km_script.proofs.words.first_foreign.Given as goal

-- no byte so far is foreign
abbrev pub invariant-loop-i : goal.invariant-loop-i
invariant-loop-i l = position_from is_foreign l.column l.bytes ≡ position_from is_foreign (l.column + l.i) (drop l.i l.bytes)
