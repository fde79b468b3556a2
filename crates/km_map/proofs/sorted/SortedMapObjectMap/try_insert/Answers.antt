use Rattle.std.proofs.Common.{ap, refl, arith}
use Rattle.km_map.specs.Sorted.{Sorted}
use Rattle.km_map.proofs.Places.{ended_within, inserted}
use Rattle.km_map.proofs.sorted.SortedMapObjectMap.try_insert.Goals as goal

pub insert-requires : goal.insert-requires
insert-requires c = omega (arith, ended_within c.args.span.start.0 c.deref.result.now)

pub invariant_of-self : goal.invariant_of-self
invariant_of-self c =
    let done = c.in-Ok.ensures {u = tt} in
    let made = inserted _ _ _ _ _ _ c.deref.ensures.value (ap (λ (s : Sorted). s.entries) c.self.view_is) c.requires.sized c.self.invariant.rising (rw c.deref-2.ensures.value at (c.in_default.ensures {u = tt})) c.place-at.ensures done.items in
    record { rising = made.2; within = omega (arith, ap (λ (s : Sorted). s.room) c.self.view_is, c.requires.spare, done.len); reserved = omega (arith, done.capacity) }

pub returns-clause-answer : goal.returns-clause-answer
returns-clause-answer c =
    rw (inserted _ _ _ _ _ _ c.deref.ensures.value (ap (λ (s : Sorted). s.entries) c.self.view_is) c.requires.sized c.self.invariant.rising (rw c.deref-2.ensures.value at (c.in_default.ensures {u = tt})) c.place-at.ensures (c.in-Ok.ensures {u = tt}).items).0 refl

pub returns-clause-entries : goal.returns-clause-entries
returns-clause-entries c =
    (inserted _ _ _ _ _ _ c.deref.ensures.value (ap (λ (s : Sorted). s.entries) c.self.view_is) c.requires.sized c.self.invariant.rising (rw c.deref-2.ensures.value at (c.in_default.ensures {u = tt})) c.place-at.ensures (c.in-Ok.ensures {u = tt}).items).1

pub returns-clause-rising : goal.returns-clause-rising
returns-clause-rising c =
    (inserted _ _ _ _ _ _ c.deref.ensures.value (ap (λ (s : Sorted). s.entries) c.self.view_is) c.requires.sized c.self.invariant.rising (rw c.deref-2.ensures.value at (c.in_default.ensures {u = tt})) c.place-at.ensures (c.in-Ok.ensures {u = tt}).items).2
