use Rattle.std.proofs.Common.{rules, sym, ◌∙◌}
use Rattle.km_live_map.proofs.Books.{newly}
use Rattle.km_live_map.proofs.booked.Booked.new.Goals as goal

pub invariant_of-result : goal.invariant_of-result
invariant_of-result c = (newly c.in-Ok-new.core.value _ c.args.entries _ (c.of-opening.ensures ∙ sym c.in-Ok-new.ensures.ok) c.in-Ok.ensures.items, search rules, search rules)
