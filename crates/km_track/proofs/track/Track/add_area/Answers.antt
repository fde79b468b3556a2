use Rattle.std.proofs.Common.{ap, ◌∙◌, refl, arith}
use Rattle.km_model.specs.Blocks.{contains}
use Rattle.km_map.specs.Entries.{has_byte}
use Rattle.km_track.specs.Tracker.{Tracker, changed}
use Rattle.km_track.proofs.Members.{one_byte}
use Rattle.km_track.proofs.Searches.{where_some, where_none}
use Rattle.km_track.proofs.Writes.{viewed}
use Rattle.km_track.proofs.Areas.{refused_as, done_as, wrote_area}
use Rattle.km_track.proofs.track.Track.add_area.Goals as goal

pub returns-in_default-clause-answer : goal.returns-in_default-clause-answer
returns-in_default-clause-answer g c =
    let h = where_none _ _ _ _ _ _ (has_byte c.args.a.0) (λ l. contains c.args.a.0 l.tracked.block) c.self.invariant.holds (λ m. refl) (c.in_default.ensures {u = tt}).slot in
    rw (← ap (λ (t : Tracker). t.live) c.self.view_is, h.0) refl

pub add_area-requires-clause-within : goal.add_area-requires-clause-within
add_area-requires-clause-within g c =
    let h = c.self.invariant.holds in
    h.within c.in-Some.slot (where_some _ _ _ _ _ _ (has_byte c.args.a.0) (λ l. contains c.args.a.0 l.tracked.block) c.in-Some.slot h (λ m. refl) (λ e f. one_byte c.args.a.0 _ e f h.rising) (c.in-Some.ensures {u = tt}).slot).0

pub add_area-requires-clause-sound : goal.add_area-requires-clause-sound
add_area-requires-clause-sound g c =
    let h = c.self.invariant.holds in
    h.sound c.in-Some.slot (where_some _ _ _ _ _ _ (has_byte c.args.a.0) (λ l. contains c.args.a.0 l.tracked.block) c.in-Some.slot h (λ m. refl) (λ e f. one_byte c.args.a.0 _ e f h.rising) (c.in-Some.ensures {u = tt}).slot).0

pub add_area-requires-clause-inside : goal.add_area-requires-clause-inside
add_area-requires-clause-inside g c =
    let h = c.self.invariant.holds in
    (where_some _ _ _ _ _ _ (has_byte c.args.a.0) (λ l. contains c.args.a.0 l.tracked.block) c.in-Some.slot h (λ m. refl) (λ e f. one_byte c.args.a.0 _ e f h.rising) (c.in-Some.ensures {u = tt}).slot).2

pub returns-in-Err-clause-answer : goal.returns-in-Err-clause-answer
returns-in-Err-clause-answer g c =
    let h = c.self.invariant.holds in
    let p = where_some _ _ _ _ _ _ (has_byte c.args.a.0) (λ l. contains c.args.a.0 l.tracked.block) c.in-Some.slot h (λ m. refl) (λ e f. one_byte c.args.a.0 _ e f h.rising) (c.in-Some.ensures {u = tt}).slot in
    rw (← ap (λ (t : Tracker). t.live) c.self.view_is, p.1, c.refusal.ensures) (refused_as _ c.in-Err.fault (c.in-Err.ensures {u = tt}).answer)

pub invariant_of-self-2 : goal.invariant_of-self-2
invariant_of-self-2 g c =
    let i = c.self.invariant in
    let w = wrote_area (record { start = c.args.a; size = c.args.size }) c.self.inside.slots.items c.add_area.new.slots.items c.self.inside.links.order c.self.inside.links.grey c.self.inside.links.free _ c.self.inside.registered c.in-Some.slot i.holds (c.in-Some.ensures {u = tt}).slot (c.in_default-add_area.ensures {u = tt}).items in
    record { holds = w.holds; room = i.room; lists = i.lists; within = omega (arith, w.long, i.within, c.add_area.new.slots.ok.0, c.self.inside.slots.ok.0); reserved = omega (arith, i.reserved, c.add_area.ensures.capacity); small = i.small }

pub returns-clause-answer : goal.returns-clause-answer
returns-clause-answer g c =
    let h = c.self.invariant.holds in
    let p = where_some _ _ _ _ _ _ (has_byte c.args.a.0) (λ l. contains c.args.a.0 l.tracked.block) c.in-Some.slot h (λ m. refl) (λ e f. one_byte c.args.a.0 _ e f h.rising) (c.in-Some.ensures {u = tt}).slot in
    rw (← ap (λ (t : Tracker). t.live) c.self.view_is, p.1) (done_as _ (c.in_default-add_area.ensures {u = tt}).answer)

pub returns-clause-block : goal.returns-clause-block
returns-clause-block g c =
    let i = c.self.invariant in
    let w = wrote_area (record { start = c.args.a; size = c.args.size }) c.self.inside.slots.items c.add_area.new.slots.items c.self.inside.links.order c.self.inside.links.grey c.self.inside.links.free _ c.self.inside.registered c.in-Some.slot i.holds (c.in-Some.ensures {u = tt}).slot (c.in_default-add_area.ensures {u = tt}).items in
    viewed _ _ _ _ _ _ _ _ _ _ w ∙ ap (changed _ _) c.self.view_is
