use Rattle.std.proofs.Common.{[], ◌∙◌, refl, ap, arith}
use Rattle.km_map.specs.Sorted.{Sorted}
use Rattle.km_tree.proofs.Bounds.{went_within}
use Rattle.km_tree.proofs.Removals.{went, went_slot}
use Rattle.km_tree.proofs.tree.TreeMapObjectMap.remove.Goals as goal

pub invariant_of-self : goal.invariant_of-self
invariant_of-self c =
    let entries = ap (λ (s : Sorted). s.entries) c.self.view_is in
    let done = (went _ c.args.start.0 _ c.self.invariant.any c.deref_mut.ensures.value c.unhang-taken.ensures (omega (arith, c.self.inside.nodes.ok.0)) entries).none (c.in_err-taken.was {u = tt}) in
    record { any = done.kept; within = went_within c.self.inside.lowest c.self.inside.highest c.args.start.0 entries done.entries c.self.invariant.within }

pub returns-in_err-taken : goal.returns-in_err-taken
returns-in_err-taken c =
    let room = ap (λ (s : Sorted). s.room) c.self.view_is in
    let entries = ap (λ (s : Sorted). s.entries) c.self.view_is in
    let done = (went _ c.args.start.0 _ c.self.invariant.any c.deref_mut.ensures.value c.unhang-taken.ensures (omega (arith, c.self.inside.nodes.ok.0)) entries).none (c.in_err-taken.was {u = tt}) in
    let slot = went_slot c.args.start.0 _ c.self.invariant.any c.deref_mut.ensures.value c.unhang-taken.ensures entries in
    record { slot = c.from_residual.ensures ∙ (rw (c.in_err-taken.was {u = tt}) at slot); entries = done.entries; rising = done.rising; spare = rw c.from_residual.ensures (omega (arith, room)) }

pub index_mut-requires : goal.index_mut-requires
index_mut-requires c =
    let entries = ap (λ (s : Sorted). s.entries) c.self.view_is in
    (went [] c.args.start.0 _ c.self.invariant.any c.deref_mut.ensures.value c.unhang-taken.ensures (omega (arith, c.self.inside.nodes.ok.0)) entries).inside _ (c.in_ok-taken.was {u = tt})

pub invariant_of-self-2 : goal.invariant_of-self-2
invariant_of-self-2 c =
    let entries = ap (λ (s : Sorted). s.entries) c.self.view_is in
    let done = (went _ c.args.start.0 _ c.self.invariant.any c.deref_mut.ensures.value c.unhang-taken.ensures (omega (arith, c.self.inside.nodes.ok.0)) entries).some _ _ (c.in_ok-taken.was {u = tt}) refl in
    record { any = done.kept; within = went_within c.self.inside.lowest c.self.inside.highest c.args.start.0 entries done.entries c.self.invariant.within }

pub returns : goal.returns
returns c =
    let room = ap (λ (s : Sorted). s.room) c.self.view_is in
    let entries = ap (λ (s : Sorted). s.entries) c.self.view_is in
    let done = (went _ c.args.start.0 _ c.self.invariant.any c.deref_mut.ensures.value c.unhang-taken.ensures (omega (arith, c.self.inside.nodes.ok.0)) entries).some _ _ (c.in_ok-taken.was {u = tt}) refl in
    let slot = went_slot c.args.start.0 _ c.self.invariant.any c.deref_mut.ensures.value c.unhang-taken.ensures entries in
    record { slot = rw (c.in_ok-taken.was {u = tt}) at slot; entries = done.entries; rising = done.rising; spare = omega (arith, room) }
