use Rattle.std.proofs.Common.{Option, sym, ap, ◌∙◌}
use Rattle.km_record.specs.declared.kinds.RecId.{RecId}
use Rattle.km_track.specs.Tracker.{live_from}
use Rattle.km_scan.proofs.Whites.{skip_begins, skip_ends, skip_finds, skip_passes, walk_shorter}
use Rattle.km_scan.proofs.sums.first_behind.Goals as goal

pub loop-next-init : goal.loop-next-init
loop-next-init g c = skip_begins c.args.generation c.args.track.now.live c.first-next.result c.first-next.ensures.first

pub returns : goal.returns
returns g c = record { live = tt; rest = skip_ends c.args.generation c.args.track.now.live c.loop-next.next c.loop-next.invariant c.in_default.is }

pub returns-then-id-generation-clause-rest : goal.returns-then-id-generation-clause-rest
returns-then-id-generation-clause-rest g c =
    let t = c.args.track.now in
    ap (λ (n : Option RecId). live_from n t.live) (sym c.in-Some.is) ∙ skip_finds c.args.generation t.live t.registered c.loop-next.next c.in-Some.id c.loop-next.invariant c.first-next.ensures.rising c.in-Some.is c.if-id-generation.true

pub loop-next-preserved : goal.loop-next-preserved
loop-next-preserved g c =
    let t = c.args.track.now in
    skip_passes c.args.generation t.live t.registered c.loop-next.next c.next-next.result c.in-Some.id c.loop-next.invariant c.first-next.ensures.rising c.in-Some.is c.next-next.ensures c.if-id-generation.false

pub loop-next-smaller : goal.loop-next-smaller
loop-next-smaller g c =
    let t = c.args.track.now in
    walk_shorter t.live t.registered c.loop-next.next c.next-next.result c.in-Some.id c.loop-next.invariant.walk c.first-next.ensures.rising c.in-Some.is c.next-next.ensures
