use Rattle.std.proofs.Common.{◌&&◌, not, ap, ◌∙◌, arith}
use Rattle.km_track.specs.Tracker.{Live, Tracker, changed}
use Rattle.km_track.proofs.Searches.{live_id}
use Rattle.km_track.proofs.Writes.{viewed}
use Rattle.km_track.proofs.Marks.{wrote_judged, found_id}
use Rattle.km_track.proofs.track.Track.set_verdict.Goals as goal

pub judge-requires : goal.judge-requires
judge-requires g c =
    c.self.invariant.holds.within c.args.id.slot (live_id c.self.inside.slots.items _ c.args.id (rw (← ap (λ (t : Tracker). t.live) c.self.view_is) at c.requires)).0

pub invariant_of-self : goal.invariant_of-self
invariant_of-self g c =
    let i = c.self.invariant in
    let w = wrote_judged c.args.white c.self.inside.slots.items c.judge.new.slots.items c.self.inside.links.order c.self.inside.links.grey c.self.inside.links.free _ c.self.inside.registered c.args.id i.holds (rw (← ap (λ (t : Tracker). t.live) c.self.view_is) at c.requires) c.judge.ensures.items in
    record { holds = w.holds; room = i.room; lists = i.lists; within = omega (arith, w.long, c.judge.new.slots.ok.0, c.self.inside.slots.ok.0); reserved = omega (arith, c.judge.ensures.capacity); small = i.small }

pub returns-clause-answer : goal.returns-clause-answer
returns-clause-answer g c =
    λ l e. c.judge.ensures.answer ∙ ap (λ (l : Live). c.args.white && not l.tracked.flagged) (found_id c.self.inside.slots.items _ c.args.id l (rw (← ap (λ (t : Tracker). t.live) c.self.view_is) at c.requires) (rw (← ap (λ (t : Tracker). t.live) c.self.view_is) at e))

pub returns-clause-block : goal.returns-clause-block
returns-clause-block g c =
    let i = c.self.invariant in
    let w = wrote_judged c.args.white c.self.inside.slots.items c.judge.new.slots.items c.self.inside.links.order c.self.inside.links.grey c.self.inside.links.free _ c.self.inside.registered c.args.id i.holds (rw (← ap (λ (t : Tracker). t.live) c.self.view_is) at c.requires) c.judge.ensures.items in
    viewed _ _ _ _ _ _ _ _ _ _ w ∙ ap (changed _ _) c.self.view_is
