use Rattle.std.proofs.Common.{◌<◌, ◌++◌, [], ◌∷◌, length, length-append, refl, ap, ◌∙◌, arith}
use Rattle.km_links.specs.Chains.{Lists}
use Rattle.km_track.specs.Tracker.{Tracker, registered_in}
use Rattle.km_track.proofs.Searches.{read}
use Rattle.km_track.proofs.Enters.{entered, overlaps, met_is, none_is, none_meets, slot_small, viewed_entered}
use Rattle.km_track.proofs.track.Track.register.Goals as goal

pub index-requires : goal.index-requires
index-requires g c =
    let o = overlaps c.self.inside.slots.items c.self.inside.links.order c.self.inside.links.grey c.self.inside.links.free (g.M.ObjectMap.entries c.self.inside.map) c.self.inside.registered c.in-Err.slot c.args.span c.self.invariant.holds (met_is _ _ (c.in-Err.ensures {u = tt}).answer) in
    omega (arith, c.self.invariant.holds.within c.in-Err.slot o.here, c.self.inside.slots.ok.0)

pub returns-in-Err-clause-answer : goal.returns-in-Err-clause-answer
returns-in-Err-clause-answer g c =
    let o = overlaps c.self.inside.slots.items c.self.inside.links.order c.self.inside.links.grey c.self.inside.links.free (g.M.ObjectMap.entries c.self.inside.map) c.self.inside.registered c.in-Err.slot c.args.span c.self.invariant.holds (met_is _ _ (c.in-Err.ensures {u = tt}).answer) in
    rw (← ap (λ (t : Tracker). t.live) c.self.view_is) o.some

pub returns-in-Err-clause-overlap : goal.returns-in-Err-clause-overlap
returns-in-Err-clause-overlap g c =
    let o = overlaps c.self.inside.slots.items c.self.inside.links.order c.self.inside.links.grey c.self.inside.links.free (g.M.ObjectMap.entries c.self.inside.map) c.self.inside.registered c.in-Err.slot c.args.span c.self.invariant.holds (met_is _ _ (c.in-Err.ensures {u = tt}).answer) in
    rw (read c.self.inside.slots.items c.in-Err.slot c.index.result.now (c.self.invariant.holds.within c.in-Err.slot o.here) c.index.ensures) (o.lowest c.args.self.now (ap (λ (t : Tracker). t.live) c.self.view_is))

pub invariant_of-self-2 : goal.invariant_of-self-2
invariant_of-self-2 g c =
    let i = c.self.invariant in
    let e = c.in_default.ensures {u = tt} in
    let space : length c.self.inside.links.order < c.self.inside.capacity = omega (arith, c.requires.spare, ap (λ (t : Tracker). t.spare) c.self.view_is) in
    let placed = rw (c.fresh-block.ensures, ← c.next-slot.ensures) at c.place.ensures.placed in
    let small = slot_small c.self.inside.slots.items c.place.new.slots.items c.self.inside.links.order c.self.inside.links.grey c.self.inside.links.free c.place.new.links.free (g.M.ObjectMap.entries c.self.inside.map) c.self.inside.registered c.next-slot.result c.self.inside.capacity _ i.holds placed (omega (arith, i.within, c.self.inside.slots.ok.0)) space in
    let lists = c.push_back.ensures ∙ ap (λ (l : Lists). record l { order = l.order ++ c.next-slot.result ∷ [] }) c.place.ensures.others in
    let w = entered c.self.inside.slots.items c.place.new.slots.items c.self.inside.links.order c.self.inside.links.grey c.self.inside.links.free c.place.new.links.free (g.M.ObjectMap.entries c.self.inside.map) c.self.inside.registered c.next-slot.result c.args.span c.args.minimum c.args.born i.holds placed (rw (← c.next-slot.ensures) at c.place.ensures.out) c.requires.start c.requires.size c.requires.end (rw e.entries at e.rising) in
    rw (lists, e.entries) (record { holds = w.holds; room = omega (arith, i.room, e.spare, length-append c.self.inside.links.order (c.next-slot.result ∷ [])); lists = i.lists; within = omega (arith, small.1, c.place.new.slots.ok.0); reserved = omega (arith, i.reserved, c.place.ensures.capacity); small = i.small })

pub returns-clause-answer : goal.returns-clause-answer
returns-clause-answer g c =
    rw (← ap (λ (t : Tracker). t.live) c.self.view_is, none_meets c.self.inside.slots.items c.self.inside.links.order c.self.inside.links.grey c.self.inside.links.free (g.M.ObjectMap.entries c.self.inside.map) c.self.inside.registered c.args.span c.self.invariant.holds (none_is _ (c.in_default.ensures {u = tt}).answer)) refl

pub returns-clause-block : goal.returns-clause-block
returns-clause-block g c =
    let i = c.self.invariant in
    let e = c.in_default.ensures {u = tt} in
    let space : length c.self.inside.links.order < c.self.inside.capacity = omega (arith, c.requires.spare, ap (λ (t : Tracker). t.spare) c.self.view_is) in
    let placed = rw (c.fresh-block.ensures, ← c.next-slot.ensures) at c.place.ensures.placed in
    let small = slot_small c.self.inside.slots.items c.place.new.slots.items c.self.inside.links.order c.self.inside.links.grey c.self.inside.links.free c.place.new.links.free (g.M.ObjectMap.entries c.self.inside.map) c.self.inside.registered c.next-slot.result c.self.inside.capacity _ i.holds placed (omega (arith, i.within, c.self.inside.slots.ok.0)) space in
    let lists = c.push_back.ensures ∙ ap (λ (l : Lists). record l { order = l.order ++ c.next-slot.result ∷ [] }) c.place.ensures.others in
    let w = entered c.self.inside.slots.items c.place.new.slots.items c.self.inside.links.order c.self.inside.links.grey c.self.inside.links.free c.place.new.links.free (g.M.ObjectMap.entries c.self.inside.map) c.self.inside.registered c.next-slot.result c.args.span c.args.minimum c.args.born i.holds placed (rw (← c.next-slot.ensures) at c.place.ensures.out) c.requires.start c.requires.size c.requires.end (rw e.entries at e.rising) in
    rw lists (viewed_entered _ _ _ _ _ _ _ _ c.self.inside.capacity _ _ _ w ∙ ap (λ (t : Tracker). registered_in c.next-slot.result c.args.span c.args.minimum c.args.born t) c.self.view_is)
