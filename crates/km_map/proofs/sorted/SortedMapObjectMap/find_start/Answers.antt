use Rattle.std.proofs.Common.{sym, ap, ◌∙◌, rules}
use Rattle.km_map.specs.Sorted.{Sorted}
use Rattle.km_map.proofs.Queries.{start_some, start_not, start_none}
use Rattle.km_map.proofs.sorted.SortedMapObjectMap.find_start.Goals as goal

pub returns-in-Some-clause-slot : goal.returns-in-Some-clause-slot
returns-in-Some-clause-slot c =
    let y = c.in-Some.e.now in
    let same = c.deref.ensures.value ∙ ap (λ (s : Sorted). s.entries) c.self.view_is in
    rw (← same) (sym (start_some c.args.a.0 c.deref.result.now y (rw c.deref.ensures.value c.self.invariant.rising) (sym (c.in-Some.ensures {u = tt})) (search rules)))

pub returns-in_default-clause-slot : goal.returns-in_default-clause-slot
returns-in_default-clause-slot c =
    let y = c.in-Some.e.now in
    let same = c.deref.ensures.value ∙ ap (λ (s : Sorted). s.entries) c.self.view_is in
    rw (← same) (sym (start_not c.args.a.0 c.deref.result.now y (rw c.deref.ensures.value c.self.invariant.rising) (sym (c.in-Some.ensures {u = tt})) (search rules)))

pub returns-in_default-2-clause-slot : goal.returns-in_default-2-clause-slot
returns-in_default-2-clause-slot c =
    let same = c.deref.ensures.value ∙ ap (λ (s : Sorted). s.entries) c.self.view_is in
    rw (← same) (sym (start_none c.args.a.0 c.deref.result.now (rw c.deref.ensures.value c.self.invariant.rising) (sym (rw c.in_default.is at c.ending_behind.ensures))))
