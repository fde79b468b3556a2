use Rattle.std.proofs.Common.{refl, ap, arith}
use Rattle.km_model.specs.Blocks.{contains}
use Rattle.km_map.specs.Entries.{has_byte}
use Rattle.km_track.specs.Tracker.{Tracker}
use Rattle.km_track.proofs.Members.{one_byte}
use Rattle.km_track.proofs.Searches.{where_some, where_none, read}
use Rattle.km_track.proofs.track.Track.look.Goals as goal

pub returns-in_err-slot : goal.returns-in_err-slot
returns-in_err-slot g c =
    let seen = ap (λ (t : Tracker). t.live) c.self.view_is in
    let h = where_none _ _ _ _ _ _ (has_byte c.args.a.0) (λ l. contains c.args.a.0 l.tracked.block) c.self.invariant.holds (λ m. refl) (c.in_err-slot.ensures {u = tt}).slot in
    rw (← seen, h.0, c.from_residual.ensures) refl

pub index-requires : goal.index-requires
index-requires g c =
    let a = c.args.a.0 in
    let holds = c.self.invariant.holds in
    let h = where_some _ _ _ _ _ _ (has_byte a) (λ l. contains a l.tracked.block) c.in_ok-slot.slot holds (λ m. refl) (λ e f. one_byte a _ e f holds.rising) (c.in_ok-slot.ensures {u = tt}).slot in
    omega (arith, holds.within c.in_ok-slot.slot h.0, c.self.inside.slots.ok.0)

pub returns : goal.returns
returns g c =
    let a = c.args.a.0 in
    let holds = c.self.invariant.holds in
    let seen = ap (λ (t : Tracker). t.live) c.self.view_is in
    let h = where_some _ _ _ _ _ _ (has_byte a) (λ l. contains a l.tracked.block) c.in_ok-slot.slot holds (λ m. refl) (λ e f. one_byte a _ e f holds.rising) (c.in_ok-slot.ensures {u = tt}).slot in
    rw (← seen, h.1, read _ _ c.index.result.now (holds.within c.in_ok-slot.slot h.0) c.index.ensures) refl
