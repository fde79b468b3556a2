use Rattle.std.proofs.Common.{ap, ◌∙◌, arith}
use Rattle.km_model.specs.Scan.{differs}
use Rattle.km_track.specs.Tracker.{Live, Tracker, changed, is_id, queued, summed}
use Rattle.km_track.specs.Holds.{live_at}
use Rattle.km_track.proofs.Searches.{with_id, live_id}
use Rattle.km_track.proofs.Marks.{summed_marked, not_queued, viewed_marked, found_id}
use Rattle.km_track.proofs.track.Track.set_sum.Goals as goal

pub keep_sum-is_changed-requires : goal.keep_sum-is_changed-requires
keep_sum-is_changed-requires g c =
    c.self.invariant.holds.within c.args.id.slot (live_id c.self.inside.slots.items _ c.args.id (rw (← ap (λ (t : Tracker). t.live) c.self.view_is) at c.requires.live)).0

pub queue_where-requires : goal.queue_where-requires
queue_where-requires g c =
    let i = c.self.invariant in
    let k = i.holds.within c.args.id.slot (live_id c.self.inside.slots.items _ c.args.id (rw (← ap (λ (t : Tracker). t.live) c.self.view_is) at c.requires.live)).0 in
    record { table = omega (arith, k, c.self.inside.slots.ok.0, i.within, i.lists); out = not_queued _ _ _ _ _ _ c.args.id.slot i.holds (c.requires.white (live_at c.self.inside.slots.items c.args.id.slot) (rw (← ap (λ (t : Tracker). t.live) c.self.view_is) (with_id c.self.inside.slots.items _ c.args.id (live_id c.self.inside.slots.items _ c.args.id (rw (← ap (λ (t : Tracker). t.live) c.self.view_is) at c.requires.live)).0 (live_id c.self.inside.slots.items _ c.args.id (rw (← ap (λ (t : Tracker). t.live) c.self.view_is) at c.requires.live)).1))) }

pub invariant_of-self : goal.invariant_of-self
invariant_of-self g c =
    let i = c.self.invariant in
    let m = summed_marked c.self.inside.slots.items c.keep_sum-is_changed.new.slots.items c.self.inside.links.order c.self.inside.links.grey c.self.inside.links.free _ c.self.inside.registered c.args.id c.keep_sum-is_changed.result c.args.sum i.holds (rw (← ap (λ (t : Tracker). t.live) c.self.view_is) at c.requires.live) (c.requires.white (live_at c.self.inside.slots.items c.args.id.slot) (rw (← ap (λ (t : Tracker). t.live) c.self.view_is) (with_id c.self.inside.slots.items _ c.args.id (live_id c.self.inside.slots.items _ c.args.id (rw (← ap (λ (t : Tracker). t.live) c.self.view_is) at c.requires.live)).0 (live_id c.self.inside.slots.items _ c.args.id (rw (← ap (λ (t : Tracker). t.live) c.self.view_is) at c.requires.live)).1))) c.keep_sum-is_changed.ensures.items c.keep_sum-is_changed.ensures.answer in
    rw c.queue_where.ensures (record { holds = m.holds; room = i.room; lists = i.lists; within = omega (arith, m.wrote.long, c.keep_sum-is_changed.new.slots.ok.0, c.self.inside.slots.ok.0); reserved = omega (arith, c.keep_sum-is_changed.ensures.capacity); small = i.small })

pub returns-clause-answer : goal.returns-clause-answer
returns-clause-answer g c =
    λ l e. c.keep_sum-is_changed.ensures.answer ∙ ap (λ (l : Live). differs l.tracked.kept c.args.sum) (found_id c.self.inside.slots.items _ c.args.id l (rw (← ap (λ (t : Tracker). t.live) c.self.view_is) at c.requires.live) (rw (← ap (λ (t : Tracker). t.live) c.self.view_is) at e))

pub returns-clause-after : goal.returns-clause-after
returns-clause-after g c =
    let i = c.self.invariant in
    let m = summed_marked c.self.inside.slots.items c.keep_sum-is_changed.new.slots.items c.self.inside.links.order c.self.inside.links.grey c.self.inside.links.free _ c.self.inside.registered c.args.id c.keep_sum-is_changed.result c.args.sum i.holds (rw (← ap (λ (t : Tracker). t.live) c.self.view_is) at c.requires.live) (c.requires.white (live_at c.self.inside.slots.items c.args.id.slot) (rw (← ap (λ (t : Tracker). t.live) c.self.view_is) (with_id c.self.inside.slots.items _ c.args.id (live_id c.self.inside.slots.items _ c.args.id (rw (← ap (λ (t : Tracker). t.live) c.self.view_is) at c.requires.live)).0 (live_id c.self.inside.slots.items _ c.args.id (rw (← ap (λ (t : Tracker). t.live) c.self.view_is) at c.requires.live)).1))) c.keep_sum-is_changed.ensures.items c.keep_sum-is_changed.ensures.answer in
    rw c.queue_where.ensures (viewed_marked _ _ _ _ _ _ _ _ _ _ _ m ∙ ap (λ (t : Tracker). queued c.keep_sum-is_changed.result c.args.id.generation (changed (is_id c.args.id) (summed c.args.sum) t)) c.self.view_is)
