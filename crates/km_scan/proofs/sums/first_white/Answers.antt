use Rattle.std.proofs.Common.{sym, ◌∙◌}
use Rattle.km_state.specs.StateNext.{first_white_in}
use Rattle.km_scan.specs.Stand.{tracked_from}
use Rattle.km_scan.proofs.Whites.{seek_begins, seek_ends, seek_finds, seek_passes, walk_shorter}
use Rattle.km_scan.proofs.sums.first_white.Goals as goal

pub loop-next-init : goal.loop-next-init
loop-next-init g c = seek_begins c.args.track.now.live c.args.from c.requires

pub returns-then-is_white : goal.returns-then-is_white
returns-then-is_white g c =
    let t = c.args.track.now in
    let f = seek_finds (first_white_in (tracked_from c.args.from t)) t.live t.registered c.loop-next.next c.in-Some.id c.loop-next.invariant c.is_white.ensures.rising c.in-Some.is (λ l e. sym c.if-is_white.true ∙ c.is_white.ensures.white l e) in
    record { place = c.first_word.ensures.place f.0 f.1 ∙ f.3; fits = λ stacks roll. c.first_word.ensures.fits stacks roll f.0 f.1 f.2 }

pub returns : goal.returns
returns g c =
    let t = c.args.track.now in
    record { place = seek_ends (first_white_in (tracked_from c.args.from t)) t.live c.loop-next.next c.loop-next.invariant c.in_default.is; fits = λ stacks roll. tt }

pub loop-next-preserved : goal.loop-next-preserved
loop-next-preserved g c =
    let t = c.args.track.now in
    seek_passes (first_white_in (tracked_from c.args.from t)) t.live t.registered c.loop-next.next c.next-next.result c.in-Some.id c.loop-next.invariant c.is_white.ensures.rising c.in-Some.is c.next-next.ensures
    (λ l e. sym c.if-is_white.false ∙ c.is_white.ensures.white l e)

pub loop-next-smaller : goal.loop-next-smaller
loop-next-smaller g c =
    let t = c.args.track.now in
    walk_shorter t.live t.registered c.loop-next.next c.next-next.result c.in-Some.id c.loop-next.invariant.walk c.is_white.ensures.rising c.in-Some.is c.next-next.ensures
