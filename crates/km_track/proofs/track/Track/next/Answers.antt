use Rattle.std.proofs.Common.{refl, ap, arith}
use Rattle.km_track.specs.Tracker.{Tracker}
use Rattle.km_track.proofs.Searches.{live_id, behind_id, behind_in, read}
use Rattle.km_track.proofs.track.Track.next.Goals as goal

pub next-requires : goal.next-requires
next-requires g c =
    let seen = ap (λ (t : Tracker). t.live) c.self.view_is in
    (live_id _ _ c.args.id (rw (← seen) at c.requires)).0

pub returns-in_err-slot : goal.returns-in_err-slot
returns-in_err-slot g c =
    let seen = ap (λ (t : Tracker). t.live) c.self.view_is in
    let l = live_id _ _ c.args.id (rw (← seen) at c.requires) in
    rw (← seen, behind_id _ _ c.args.id l.1, ← c.in_err-slot.ensures {u = tt}, c.from_residual.ensures) refl

pub index-requires : goal.index-requires
index-requires g c =
    omega (arith, c.self.invariant.holds.within c.in_ok-slot.slot (behind_in _ _ _ (c.in_ok-slot.ensures {u = tt})), c.self.inside.slots.ok.0)

pub returns : goal.returns
returns g c =
    let seen = ap (λ (t : Tracker). t.live) c.self.view_is in
    let l = live_id _ _ c.args.id (rw (← seen) at c.requires) in
    let k = c.self.invariant.holds.within c.in_ok-slot.slot (behind_in _ _ _ (c.in_ok-slot.ensures {u = tt})) in
    rw (← seen, behind_id _ _ c.args.id l.1, ← c.in_ok-slot.ensures {u = tt}, read _ _ c.index.result.now k c.index.ensures) refl
