use Rattle.km_core.proofs.Cores.{core_booted}
use Rattle.km_core.proofs.events.Core.boot.Goals as goal

pub invariant_of-result : goal.invariant_of-result
invariant_of-result g c = core_booted c.args.words c.in_ok-boot.field-0 c.in_ok-boot.ensures.stands c.in_ok-boot.ensures.whole
