use Rattle.std.proofs.Common.{◌∙◌}
use Rattle.km_state.specs.StateNext.{hit_in}
use Rattle.km_track.specs.Tracker.{tracked_in}
use Rattle.km_scan.proofs.Held.{live_is}
use Rattle.km_scan.proofs.Referred.{hit_is, hit_no}
use Rattle.km_scan.proofs.hits.refer.Goals as goal

pub raise-requires-clause-live : goal.raise-requires-clause-live
raise-requires-clause-live g c = let l = (c.in-Some.ensures {u = tt}).live in live_is c.in-Some.id c.args.track.now l.0 l.1

pub returns-in-Some : goal.returns-in-Some
returns-in-Some g c =
    let t = c.args.track.now in
    let e = c.in-Some.ensures {u = tt} in
    λ place ne h. c.raise.ensures.after ∙ hit_is t c.in-Some.id e.live.0 c.raise.result (hit_in (tracked_in t) place c.args.value) (e.rising (λ f. let z : ⊥ = cc in z)) e.live.1 (c.raise.ensures.answer e.live.0 e.live.1) (e.hit place ne h)

pub returns-in_default : goal.returns-in_default
returns-in_default g c =
    let t = c.args.track.now in
    λ place ne h. hit_no t (hit_in (tracked_in t) place c.args.value) ((c.in_default.ensures {u = tt}).hit place ne h)
