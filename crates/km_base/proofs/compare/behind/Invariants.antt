use Rattle.std.proofs.Common.{◌≡◌, drop}
use Rattle.km_base.specs.Prefix.{behind_prefix}
use Rattle.km_base.proofs.compare.behind.Given as goal

-- the bytes so far are the same
abbrev pub invariant-loop-i : goal.invariant-loop-i
invariant-loop-i l = behind_prefix l.prefix l.word ≡ behind_prefix (drop l.i l.prefix) (drop l.i l.word)
