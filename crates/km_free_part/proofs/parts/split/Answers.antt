use Rattle.std.proofs.Common.{◌≡◌, ◌+◌, ◌-◌, ◌<◌, ◌&&◌, ltb, Some, None, if◌then◌else◌, option_map, sym, ap, ◌∙◌, subst, arith}
use Rattle.std.proofs.lemmas.Bool.{and_right, le-ltb, ne_eqb}
use Rattle.km_record.specs.Records.{block_of}
use Rattle.km_track.specs.Tracker.{Live, Tracker, begins, live_where, meets, tracked_of, unregistered_at}
use Rattle.km_free_part.specs.Parts.{front_of, rear_of, rest_registered, split_at}
use Rattle.km_free_part.proofs.Taken.{Has, has, nowhere, gone, same_live, none_where, none_with, meets_fails, begins_fails, spare_left, last_id, same_rest}
use Rattle.km_free_part.proofs.parts.split.Goals as goal

pub returns-in_default-clause-front : goal.returns-in_default-clause-front
returns-in_default-clause-front g c =
    absurd (nowhere c.args.track.now c.args.part c.args.id (c.in_default.ensures {u = tt}).rising c.requires.part (c.in_default.ensures {u = tt}).block)

pub returns-in_default-clause-rear : goal.returns-in_default-clause-rear
returns-in_default-clause-rear g c =
    absurd (nowhere c.args.track.now c.args.part c.args.id (c.in_default.ensures {u = tt}).rising c.requires.part (c.in_default.ensures {u = tt}).block)

pub returns-in_default-clause-after : goal.returns-in_default-clause-after
returns-in_default-clause-after g c =
    absurd (nowhere c.args.track.now c.args.part c.args.id (c.in_default.ensures {u = tt}).rising c.requires.part (c.in_default.ensures {u = tt}).block)

pub returns-then-not-keep-clause-after : goal.returns-then-not-keep-clause-after
returns-then-not-keep-clause-after g c =
    let t = c.args.track.now in
    let part = c.args.part in
    let e = c.in-Some.ensures {u = tt} in
    let r = c.in-Some.block.now in
    let m : Live = record { slot = c.args.id.slot; tracked = tracked_of c.args.id.generation r } in
    let h : Has t part m = has t part c.args.id m e.rising c.requires.part e.block in
    let out = gone t c.unregister.new.self part.start.0 m c.unregister.result h.is c.unregister.ensures.answer c.unregister.ensures.after in
    λ l f. subst (λ (x : Live). c.unregister.new.self ≡ unregistered_at x.tracked.block.start t) (same_live _ l m h.is f) out

pub overflow_sub-part : goal.overflow_sub-part
overflow_sub-part g c =
    let t = c.args.track.now in
    let part = c.args.part in
    let e = c.in-Some.ensures {u = tt} in
    let r = c.in-Some.block.now in
    let m : Live = record { slot = c.args.id.slot; tracked = tracked_of c.args.id.generation r } in
    let h : Has t part m = has t part c.args.id m e.rising c.requires.part e.block in
    h.low

pub register_rest-front-requires-clause-apart : goal.register_rest-front-requires-clause-apart
register_rest-front-requires-clause-apart g c =
    let t = c.args.track.now in
    let part = c.args.part in
    let e = c.in-Some.ensures {u = tt} in
    let r = c.in-Some.block.now in
    let m : Live = record { slot = c.args.id.slot; tracked = tracked_of c.args.id.generation r } in
    let h : Has t part m = has t part c.args.id m e.rising c.requires.part e.block in
    let out = gone t c.unregister.new.self part.start.0 m c.unregister.result h.is c.unregister.ensures.answer c.unregister.ensures.after in
    let front = front_of part m.tracked.block in
    λ p. subst (λ (u : Tracker). live_where (meets front) u ≡ None) (sym out) (none_where t part.start.0 (meets front) m (meets_fails m.tracked.block front (omega arith) (omega (arith, h.low, h.first))) e.apart h.is)

pub register_rest-front-requires-clause-alone : goal.register_rest-front-requires-clause-alone
register_rest-front-requires-clause-alone g c =
    let t = c.args.track.now in
    let part = c.args.part in
    let e = c.in-Some.ensures {u = tt} in
    let r = c.in-Some.block.now in
    let m : Live = record { slot = c.args.id.slot; tracked = tracked_of c.args.id.generation r } in
    let h : Has t part m = has t part c.args.id m e.rising c.requires.part e.block in
    let out = gone t c.unregister.new.self part.start.0 m c.unregister.result h.is c.unregister.ensures.answer c.unregister.ensures.after in
    λ p. subst (λ (u : Tracker). live_where (begins r.span.start.0) u ≡ None) (sym out) (none_where t part.start.0 (begins r.span.start.0) m (begins_fails m.tracked.block r.span.start.0 (omega arith) (omega (arith, h.low, h.first))) e.apart h.is)

pub register_rest-front-requires-clause-spare : goal.register_rest-front-requires-clause-spare
register_rest-front-requires-clause-spare g c =
    let t = c.args.track.now in
    let part = c.args.part in
    let e = c.in-Some.ensures {u = tt} in
    let r = c.in-Some.block.now in
    let m : Live = record { slot = c.args.id.slot; tracked = tracked_of c.args.id.generation r } in
    let h : Has t part m = has t part c.args.id m e.rising c.requires.part e.block in
    let out = gone t c.unregister.new.self part.start.0 m c.unregister.result h.is c.unregister.ensures.answer c.unregister.ensures.after in
    λ p. rw out (omega arith)

pub overflow_sub-rear : goal.overflow_sub-rear
overflow_sub-rear g c =
    let t = c.args.track.now in
    let part = c.args.part in
    let e = c.in-Some.ensures {u = tt} in
    let r = c.in-Some.block.now in
    let m : Live = record { slot = c.args.id.slot; tracked = tracked_of c.args.id.generation r } in
    let h : Has t part m = has t part c.args.id m e.rising c.requires.part e.block in
    h.high

pub register_rest-requires-clause-apart : goal.register_rest-requires-clause-apart
register_rest-requires-clause-apart g c =
    let t = c.args.track.now in
    let part = c.args.part in
    let e = c.in-Some.ensures {u = tt} in
    let r = c.in-Some.block.now in
    let m : Live = record { slot = c.args.id.slot; tracked = tracked_of c.args.id.generation r } in
    let h : Has t part m = has t part c.args.id m e.rising c.requires.part e.block in
    let out = gone t c.unregister.new.self part.start.0 m c.unregister.result h.is c.unregister.ensures.answer c.unregister.ensures.after in
    let front = front_of part m.tracked.block in
    let rear = rear_of part m.tracked.block in
    let b = m.tracked.block in
    λ p. subst (λ (u : Tracker). live_where (meets rear) u ≡ None) (sym (c.register_rest-front.ensures.after ∙ ap (rest_registered c.register_rest-front.result front (block_of 0 r)) out))
    (none_with (unregistered_at b.start t) c.register_rest-front.result front (block_of 0 r) (meets rear)
    (none_where t part.start.0 (meets rear) m (meets_fails b rear (omega (arith, h.low)) (omega (arith, h.high))) e.apart h.is)
    (λ id. and_right _ _ (le-ltb rear.start.0 (front.start.0 + front.size) (omega (arith, h.low)))))

pub register_rest-requires-clause-alone : goal.register_rest-requires-clause-alone
register_rest-requires-clause-alone g c =
    let t = c.args.track.now in
    let part = c.args.part in
    let e = c.in-Some.ensures {u = tt} in
    let r = c.in-Some.block.now in
    let m : Live = record { slot = c.args.id.slot; tracked = tracked_of c.args.id.generation r } in
    let h : Has t part m = has t part c.args.id m e.rising c.requires.part e.block in
    let out = gone t c.unregister.new.self part.start.0 m c.unregister.result h.is c.unregister.ensures.answer c.unregister.ensures.after in
    let front = front_of part m.tracked.block in
    let rear = rear_of part m.tracked.block in
    let b = m.tracked.block in
    λ p. subst (λ (u : Tracker). live_where (begins rear.start.0) u ≡ None) (sym (c.register_rest-front.ensures.after ∙ ap (rest_registered c.register_rest-front.result front (block_of 0 r)) out))
    (none_with (unregistered_at b.start t) c.register_rest-front.result front (block_of 0 r) (begins rear.start.0)
    (none_where t part.start.0 (begins rear.start.0) m (begins_fails b rear.start.0 (omega (arith, h.low)) (omega (arith, p))) e.apart h.is)
    (λ id. ne_eqb front.start.0 rear.start.0 (λ q. omega (arith, q, h.low, c.requires.sized))))

pub register_rest-requires-clause-spare : goal.register_rest-requires-clause-spare
register_rest-requires-clause-spare g c =
    let t = c.args.track.now in
    let part = c.args.part in
    let e = c.in-Some.ensures {u = tt} in
    let r = c.in-Some.block.now in
    let m : Live = record { slot = c.args.id.slot; tracked = tracked_of c.args.id.generation r } in
    let h : Has t part m = has t part c.args.id m e.rising c.requires.part e.block in
    let out = gone t c.unregister.new.self part.start.0 m c.unregister.result h.is c.unregister.ensures.answer c.unregister.ensures.after in
    let front = front_of part m.tracked.block in
    let rear = rear_of part m.tracked.block in
    let b = m.tracked.block in
    λ p. subst (λ (u : Tracker). 0 < u.spare) (sym (c.register_rest-front.ensures.after ∙ ap (rest_registered c.register_rest-front.result front (block_of 0 r)) out))
    (spare_left c.register_rest-front.result (unregistered_at b.start t) front (block_of 0 r) c.unregister.new.self.registered c.register_rest-front.ensures.id
    (λ k. omega (arith, c.requires.spare m h.is c.if-not-keep.false k p)) (omega arith))

pub returns-clause-front : goal.returns-clause-front
returns-clause-front g c =
    let t = c.args.track.now in
    let part = c.args.part in
    let e = c.in-Some.ensures {u = tt} in
    let r = c.in-Some.block.now in
    let m : Live = record { slot = c.args.id.slot; tracked = tracked_of c.args.id.generation r } in
    let h : Has t part m = has t part c.args.id m e.rising c.requires.part e.block in
    let out = gone t c.unregister.new.self part.start.0 m c.unregister.result h.is c.unregister.ensures.answer c.unregister.ensures.after in
    let front = front_of part m.tracked.block in
    λ l f. subst (λ (x : Live). option_map (λ i. i.generation) c.register_rest-front.result ≡ (if c.args.keep && ltb 0 (front_of part x.tracked.block).size then Some t.registered else None)) (same_live _ l m h.is f)
    (rw c.if-not-keep.false (c.register_rest-front.ensures.id ∙ ap (λ (u : Tracker). if ltb 0 front.size then Some u.registered else None) out))

pub returns-clause-rear : goal.returns-clause-rear
returns-clause-rear g c =
    let t = c.args.track.now in
    let part = c.args.part in
    let e = c.in-Some.ensures {u = tt} in
    let r = c.in-Some.block.now in
    let m : Live = record { slot = c.args.id.slot; tracked = tracked_of c.args.id.generation r } in
    let h : Has t part m = has t part c.args.id m e.rising c.requires.part e.block in
    let front = front_of part m.tracked.block in
    let rear = rear_of part m.tracked.block in
    let b = m.tracked.block in
    λ l f. subst (λ (x : Live). option_map (λ i. i.generation) c.register_rest.result ≡ (if c.args.keep && ltb 0 (rear_of part x.tracked.block).size then Some (c.register_rest.new.track.registered - 1) else None)) (same_live _ l m h.is f)
    (rw (c.if-not-keep.false, c.register_rest.ensures.after) (last_id c.register_rest.result (ltb 0 rear.size) rear (block_of 0 r) c.register_rest-front.new.track c.register_rest.ensures.id))

pub returns-clause-after : goal.returns-clause-after
returns-clause-after g c =
    let t = c.args.track.now in
    let part = c.args.part in
    let e = c.in-Some.ensures {u = tt} in
    let r = c.in-Some.block.now in
    let m : Live = record { slot = c.args.id.slot; tracked = tracked_of c.args.id.generation r } in
    let h : Has t part m = has t part c.args.id m e.rising c.requires.part e.block in
    let out = gone t c.unregister.new.self part.start.0 m c.unregister.result h.is c.unregister.ensures.answer c.unregister.ensures.after in
    let front = front_of part m.tracked.block in
    let rear = rear_of part m.tracked.block in
    let b = m.tracked.block in
    λ l f. subst (λ (x : Live). c.register_rest.new.track ≡ split_at part (record { front = c.register_rest-front.result; rear = c.register_rest.result }) x.tracked.block t) (same_live _ l m h.is f)
    (c.register_rest.ensures.after ∙ same_rest c.register_rest.result rear r 0 c.args.id.generation c.register_rest-front.new.track
    ∙ ap (rest_registered c.register_rest.result rear b) (c.register_rest-front.ensures.after ∙ same_rest c.register_rest-front.result front r 0 c.args.id.generation c.unregister.new.self ∙ ap (rest_registered c.register_rest-front.result front b) out))
