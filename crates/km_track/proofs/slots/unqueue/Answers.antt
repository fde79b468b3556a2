use Rattle.std.proofs.Common.{sym, ap}
use Rattle.km_links.proofs.Distinct.{without_none}
use Rattle.km_track.proofs.slots.unqueue.Goals as goal

pub returns-then-not-has : goal.returns-then-not-has
returns-then-not-has c = ap (λ ns. record c.args.links.now { grey = ns }) (sym (without_none c.args.n _ (sym (c.if-not-has.ensures {u = tt}))))
