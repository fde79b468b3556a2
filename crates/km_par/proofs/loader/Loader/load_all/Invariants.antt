use Rattle.std.proofs.Common.{take}
use Rattle.km_par.specs.Loaders.{HasLoaded}
use Rattle.km_par.proofs.loader.Loader.load_all.Given as goal

-- the words so far were loaded
abbrev pub invariant-loop-i : goal.invariant-loop-i
invariant-loop-i l = HasLoaded (take l.i l.at) l.fn.self record { hand = l.self-inside.hand; share = l.self-inside.share.items }
