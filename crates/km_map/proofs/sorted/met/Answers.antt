use Rattle.std.proofs.Common.{None, Some, sym, arith}
use Rattle.km_map.proofs.Places.{found_at}
use Rattle.km_map.proofs.Queries.{span_some, span_not, span_none}
use Rattle.km_map.proofs.sorted.met.Goals as goal

pub returns-in-Some : goal.returns-in-Some
returns-in-Some c =
    sym (span_some c.args.span.now _ c.in-Some.e.now c.requires.rising (sym (found_at _ _ _ (Some c.in-Some.e) c.requires.place (c.in-Some.ensures {u = tt}).lookup.3)) (omega arith))

pub returns-in_default : goal.returns-in_default
returns-in_default c =
    sym (span_not c.args.span.now _ c.in-Some.e.now c.requires.rising (sym (found_at _ _ _ (Some c.in-Some.e) c.requires.place (c.in-Some.ensures {u = tt}).lookup.3)) (omega arith))

pub returns-in_default-2 : goal.returns-in_default-2
returns-in_default-2 c = sym (span_none c.args.span.now _ c.requires.rising (sym (found_at _ _ _ None c.requires.place (rw c.in_default.is at c.get.ensures.lookup.3))))
