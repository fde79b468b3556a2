use Rattle.std.proofs.Common.{subst, ◌≡◌, Some, refl, sym, ap, ◌∙◌}
use Rattle.km_track.specs.declared.slots.Slot.{Slot}
use Rattle.km_track.specs.Slots.{slot_at}
use Rattle.km_track.specs.Tracker.{AreRising, NeverMeet, Tracker, tracked_of}
use Rattle.km_track.proofs.Searches.{rising_live, with_id, without_slot, without_id, read}
use Rattle.km_track.proofs.Apart.{never_meet}
use Rattle.km_track.proofs.track.Track.record.Goals as goal

pub returns-then-not-has-clause-block : goal.returns-then-not-has-clause-block
returns-then-not-has-clause-block g c =
    let seen = ap (λ (t : Tracker). t.live) c.self.view_is in
    rw (← seen, without_slot c.self.inside.slots.items _ c.args.id (sym (c.if-not-has.ensures {u = tt}))) refl

pub returns-then-slot-id-clause-block : goal.returns-then-slot-id-clause-block
returns-then-slot-id-clause-block g c =
    let S = c.self.inside.slots.items in
    let id = c.args.id in
    let seen = ap (λ (t : Tracker). t.live) c.self.view_is in
    let i = sym (c.if-not-has.ensures {u = tt}) in
    let is = read S id.slot c.index-slot.result.now (c.self.invariant.holds.within id.slot i) c.index-slot.ensures in
    let e : (slot_at S id.slot).generation ≡ id.generation = ap (λ (x : Slot). x.generation) (sym is) ∙ c.if-slot-id.true in
    rw (← seen, with_id S _ id i e, is) (ap (λ k. Some (record { slot = id.slot; tracked = tracked_of k (slot_at S id.slot).«record» })) (sym e))

pub returns-else-slot-id-clause-block : goal.returns-else-slot-id-clause-block
returns-else-slot-id-clause-block g c =
    let S = c.self.inside.slots.items in
    let id = c.args.id in
    let seen = ap (λ (t : Tracker). t.live) c.self.view_is in
    let i = sym (c.if-not-has.ensures {u = tt}) in
    let is = read S id.slot c.index-slot.result.now (c.self.invariant.holds.within id.slot i) c.index-slot.ensures in
    rw (← seen, without_id S _ id (λ e. c.if-slot-id.false (ap (λ (x : Slot). x.generation) is ∙ e))) refl

pub returns-then-not-has-clause-rising : goal.returns-then-not-has-clause-rising
returns-then-not-has-clause-rising g c =
    subst (λ (t : Tracker). AreRising 0 t.live t.registered) c.self.view_is (rising_live c.self.inside.slots.items 0 c.self.inside.links.order c.self.inside.registered c.self.invariant.holds.ids)

pub returns-then-slot-id-clause-rising : goal.returns-then-slot-id-clause-rising
returns-then-slot-id-clause-rising g c =
    subst (λ (t : Tracker). AreRising 0 t.live t.registered) c.self.view_is (rising_live c.self.inside.slots.items 0 c.self.inside.links.order c.self.inside.registered c.self.invariant.holds.ids)

pub returns-else-slot-id-clause-rising : goal.returns-else-slot-id-clause-rising
returns-else-slot-id-clause-rising g c =
    subst (λ (t : Tracker). AreRising 0 t.live t.registered) c.self.view_is (rising_live c.self.inside.slots.items 0 c.self.inside.links.order c.self.inside.registered c.self.invariant.holds.ids)

pub returns-then-not-has-clause-apart : goal.returns-then-not-has-clause-apart
returns-then-not-has-clause-apart g c =
    let h = c.self.invariant.holds in
    subst (λ (t : Tracker). NeverMeet t.live) c.self.view_is (never_meet c.self.inside.slots.items _ c.self.inside.links.order h.rising h.orders h.kept)

pub returns-then-slot-id-clause-apart : goal.returns-then-slot-id-clause-apart
returns-then-slot-id-clause-apart g c =
    let h = c.self.invariant.holds in
    subst (λ (t : Tracker). NeverMeet t.live) c.self.view_is (never_meet c.self.inside.slots.items _ c.self.inside.links.order h.rising h.orders h.kept)

pub returns-else-slot-id-clause-apart : goal.returns-else-slot-id-clause-apart
returns-else-slot-id-clause-apart g c =
    let h = c.self.invariant.holds in
    subst (λ (t : Tracker). NeverMeet t.live) c.self.view_is (never_meet c.self.inside.slots.items _ c.self.inside.links.order h.rising h.orders h.kept)
