use Rattle.std.proofs.Common.{arith}
use Rattle.km_edge.proofs.Writing.{wrote_none, wrote_next}
use Rattle.km_edge.proofs.streams.write_all.Goals as goal

pub loop-at-init : goal.loop-at-init
loop-at-init g c = record { within = omega arith; wrote = wrote_none _ }

pub loop-at-preserved : goal.loop-at-preserved
loop-at-preserved g c =
    let e = c.in_ok-at.ensures in
    let next = wrote_next _ _ _ c.args.bytes.now c.loop-at.at c.in_ok-at.field-0 c.loop-at.invariant.within e.writes.1 c.loop-at.invariant.wrote e.writes.2 e.writes.3 e.kept in
    record { within = next.0; wrote = next.1 }
