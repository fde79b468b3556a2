use Rattle.std.proofs.Common.{refl, sym}
use Rattle.km_pages.proofs.Touching.{run_at_none}
use Rattle.km_pages.proofs.pages.run_beginning.Goals as goal

pub returns-in_default-clause-length : goal.returns-in_default-clause-length
returns-in_default-clause-length c = sym (run_at_none c.args.pages.now c.args.kind c.args.start.0 (c.in_default.ensures.nowhere refl))
