use Rattle.std.proofs.Common.{◌≡◌, ◌++◌, take}
use Rattle.km_par.proofs.fetched.Fetched.add_all.Given as goal

-- the loads so far were added
abbrev pub invariant-loop-i : goal.invariant-loop-i
invariant-loop-i l = l.self ≡ record { size = l.initial.self.size; loads = l.initial.self.loads ++ take l.i l.loads }
