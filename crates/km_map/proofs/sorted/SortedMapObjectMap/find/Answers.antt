use Rattle.std.proofs.Common.{sym, ap, ◌∙◌, arith}
use Rattle.km_map.specs.Sorted.{Sorted}
use Rattle.km_map.proofs.Queries.{byte_some, byte_not, byte_none}
use Rattle.km_map.proofs.sorted.SortedMapObjectMap.find.Goals as goal

pub returns-in-Some-clause-slot : goal.returns-in-Some-clause-slot
returns-in-Some-clause-slot c =
    let y = c.in-Some.e.now in
    let same = c.deref.ensures.value ∙ ap (λ (s : Sorted). s.entries) c.self.view_is in
    rw (← same) (sym (byte_some c.args.a.0 c.deref.result.now y (rw c.deref.ensures.value c.self.invariant.rising) (sym (c.in-Some.ensures {u = tt})) (omega arith)))

pub returns-in_default-clause-slot : goal.returns-in_default-clause-slot
returns-in_default-clause-slot c =
    let y = c.in-Some.e.now in
    let same = c.deref.ensures.value ∙ ap (λ (s : Sorted). s.entries) c.self.view_is in
    rw (← same) (sym (byte_not c.args.a.0 c.deref.result.now y (rw c.deref.ensures.value c.self.invariant.rising) (sym (c.in-Some.ensures {u = tt})) (omega arith)))

pub returns-in_default-2-clause-slot : goal.returns-in_default-2-clause-slot
returns-in_default-2-clause-slot c =
    let same = c.deref.ensures.value ∙ ap (λ (s : Sorted). s.entries) c.self.view_is in
    rw (← same) (sym (byte_none c.args.a.0 c.deref.result.now (rw c.deref.ensures.value c.self.invariant.rising) (sym (rw c.in_default.is at c.ending_behind.ensures))))
