use Rattle.std.proofs.Common.{◌<◌, ◌^◌, length, subst, arith}
use Rattle.std.proofs.lemmas.List.{length-map}
use Rattle.km_track.specs.Holds.{live_at}
use Rattle.km_track.specs.Tracker.{AreRising, NeverMeet, Tracker}
use Rattle.km_track.proofs.Searches.{rising_live}
use Rattle.km_track.proofs.Apart.{never_meet}
use Rattle.km_track.proofs.track.Track.first.Goals as goal

pub returns-clause-rising : goal.returns-clause-rising
returns-clause-rising g c =
    subst (λ (t : Tracker). AreRising 0 t.live t.registered) c.self.view_is (rising_live c.self.inside.slots.items 0 c.self.inside.links.order c.self.inside.registered c.self.invariant.holds.ids)

pub returns-clause-apart : goal.returns-clause-apart
returns-clause-apart g c =
    let h = c.self.invariant.holds in
    subst (λ (t : Tracker). NeverMeet t.live) c.self.view_is (never_meet c.self.inside.slots.items _ c.self.inside.links.order h.rising h.orders h.kept)

pub returns-clause-few : goal.returns-clause-few
returns-clause-few g c =
    let h = c.self.invariant.holds in
    let i = c.self.invariant in
    subst (λ (t : Tracker). length t.live < 2 ^ 32) c.self.view_is
    (omega (arith, length-map c.self.inside.links.order (live_at c.self.inside.slots.items), h.count, i.within, i.small))
