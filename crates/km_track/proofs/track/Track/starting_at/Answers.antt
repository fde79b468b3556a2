use Rattle.std.proofs.Common.{refl, ap, arith}
use Rattle.km_track.specs.Tracker.{Tracker}
use Rattle.km_track.proofs.Searches.{read}
use Rattle.km_track.proofs.Writes.{at_start, no_start}
use Rattle.km_track.proofs.track.Track.starting_at.Goals as goal

pub returns-in_err-slot : goal.returns-in_err-slot
returns-in_err-slot g c =
    let seen = ap (λ (t : Tracker). t.live) c.self.view_is in
    let h = no_start _ _ _ _ _ _ c.args.start.0 c.self.invariant.holds (c.in_err-slot.ensures {u = tt}).slot in
    rw (← seen, h, c.from_residual.ensures) refl

pub index-requires : goal.index-requires
index-requires g c =
    let holds = c.self.invariant.holds in
    let h = at_start _ _ _ _ _ _ c.args.start.0 c.in_ok-slot.slot holds (c.in_ok-slot.ensures {u = tt}).slot in
    omega (arith, holds.within c.in_ok-slot.slot h.0, c.self.inside.slots.ok.0)

pub returns : goal.returns
returns g c =
    let holds = c.self.invariant.holds in
    let seen = ap (λ (t : Tracker). t.live) c.self.view_is in
    let h = at_start _ _ _ _ _ _ c.args.start.0 c.in_ok-slot.slot holds (c.in_ok-slot.ensures {u = tt}).slot in
    rw (← seen, h.1, read _ _ c.index.result.now (holds.within c.in_ok-slot.slot h.0) c.index.ensures) refl
