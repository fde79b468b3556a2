use Rattle.std.proofs.Common.{refl, ap, ◌∙◌, arith}
use Rattle.km_track.specs.Tracker.{Tracker, changed}
use Rattle.km_track.proofs.Writes.{wrote_noted, at_start, no_start, none_changed, viewed}
use Rattle.km_track.proofs.track.Track.annotate.Goals as goal

pub returns-in_default-clause-answer : goal.returns-in_default-clause-answer
returns-in_default-clause-answer g c =
    rw (← ap (λ (t : Tracker). t.live) c.self.view_is, no_start _ _ _ _ _ _ c.args.start.0 c.self.invariant.holds (c.in_default.ensures {u = tt}).slot) refl

pub returns-in_default-clause-block : goal.returns-in_default-clause-block
returns-in_default-clause-block g c =
    none_changed _ _ c.args.self.now (rw (← ap (λ (t : Tracker). t.live) c.self.view_is) (no_start _ _ _ _ _ _ c.args.start.0 c.self.invariant.holds (c.in_default.ensures {u = tt}).slot))

pub annotate-requires : goal.annotate-requires
annotate-requires g c =
    let h = c.self.invariant.holds in h.within c.in-Some.slot (at_start _ _ _ _ _ _ c.args.start.0 c.in-Some.slot h (c.in-Some.ensures {u = tt}).slot).0

pub invariant_of-self : goal.invariant_of-self
invariant_of-self g c =
    let i = c.self.invariant in
    let w = wrote_noted c.args.note c.self.inside.slots.items c.annotate.new.slots.items c.self.inside.links.order c.self.inside.links.grey c.self.inside.links.free _ c.self.inside.registered c.args.start.0 c.in-Some.slot i.holds (c.in-Some.ensures {u = tt}).slot c.annotate.ensures.items in
    record { holds = w.holds; room = i.room; lists = i.lists; within = omega (arith, w.long, c.annotate.new.slots.ok.0, c.self.inside.slots.ok.0); reserved = omega (arith, c.annotate.ensures.capacity); small = i.small }

pub returns-clause-answer : goal.returns-clause-answer
returns-clause-answer g c =
    let h = c.self.invariant.holds in rw (← ap (λ (t : Tracker). t.live) c.self.view_is, (at_start _ _ _ _ _ _ c.args.start.0 c.in-Some.slot h (c.in-Some.ensures {u = tt}).slot).1) refl

pub returns-clause-block : goal.returns-clause-block
returns-clause-block g c =
    let i = c.self.invariant in
    let w = wrote_noted c.args.note c.self.inside.slots.items c.annotate.new.slots.items c.self.inside.links.order c.self.inside.links.grey c.self.inside.links.free _ c.self.inside.registered c.args.start.0 c.in-Some.slot i.holds (c.in-Some.ensures {u = tt}).slot c.annotate.ensures.items in
    viewed _ _ _ _ _ _ _ _ _ _ w ∙ ap (changed _ _) c.self.view_is
