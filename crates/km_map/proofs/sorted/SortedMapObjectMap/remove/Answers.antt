use Rattle.std.proofs.Common.{ap, arith}
use Rattle.km_map.specs.Sorted.{Sorted}
use Rattle.km_map.proofs.Places.{removed, kept_none}
use Rattle.km_map.proofs.sorted.SortedMapObjectMap.remove.Goals as goal

pub returns-in_err-slot-clause-entries : goal.returns-in_err-slot-clause-entries
returns-in_err-slot-clause-entries c = kept_none _ _ (c.in_err-slot.ensures {u = tt}).slot

pub remove-requires : goal.remove-requires
remove-requires c = omega (arith, (removed _ _ _ _ _ _ c.self.inside.entries.items c.deref.ensures.value (ap (λ (s : Sorted). s.entries) c.self.view_is) c.self.invariant.rising (c.in_ok-slot.ensures {u = tt}).slot c.place-at.ensures).0)

pub invariant_of-self : goal.invariant_of-self
invariant_of-self c =
    record { rising = ((removed _ _ _ _ _ _ _ c.deref.ensures.value (ap (λ (s : Sorted). s.entries) c.self.view_is) c.self.invariant.rising (c.in_ok-slot.ensures {u = tt}).slot c.place-at.ensures).1 c.remove.ensures.items).1; within = omega (arith, c.remove.ensures.len); reserved = omega (arith, c.remove.ensures.capacity) }

pub returns-clause-entries : goal.returns-clause-entries
returns-clause-entries c = ((removed _ _ _ _ _ _ _ c.deref.ensures.value (ap (λ (s : Sorted). s.entries) c.self.view_is) c.self.invariant.rising (c.in_ok-slot.ensures {u = tt}).slot c.place-at.ensures).1 c.remove.ensures.items).0

pub returns-clause-rising : goal.returns-clause-rising
returns-clause-rising c = ((removed _ _ _ _ _ _ _ c.deref.ensures.value (ap (λ (s : Sorted). s.entries) c.self.view_is) c.self.invariant.rising (c.in_ok-slot.ensures {u = tt}).slot c.place-at.ensures).1 c.remove.ensures.items).1
