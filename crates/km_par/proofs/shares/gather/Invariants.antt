use Rattle.std.proofs.Common.{◌≡◌, ◌++◌, take}
use Rattle.std.specs.List.{flat_map}
use Rattle.km_par.proofs.shares.gather.Given as goal

-- what the loaders so far loaded was added
abbrev pub invariant-loop-i : goal.invariant-loop-i
invariant-loop-i l = l.out ≡ record { size = l.initial.out.size; loads = l.initial.out.loads ++ flat_map (λ x. x.share) (take l.i l.loaders) }
