use Rattle.std.proofs.Common.{◌<◌, ap, refl, arith}
use Rattle.std.proofs.lemmas.Result.{err_from_is_err_and}
use Rattle.km_map.specs.Sorted.{Sorted}
use Rattle.km_tree.proofs.Bounds.{came_within, same_within}
use Rattle.km_tree.proofs.Insertions.{any_room, any_beside, readied, refused, came}
use Rattle.km_tree.proofs.tree.TreeMapObjectMap.try_insert.Goals as goal

pub ready-self-inside-requires : goal.ready-self-inside-requires
ready-self-inside-requires c = any_room c.self.invariant.any (omega (arith, ap (λ (s : Sorted). s.room) c.self.view_is, c.requires.spare))

pub index-requires : goal.index-requires
index-requires c =
    let r = readied c.self.invariant.any (omega (arith, ap (λ (s : Sorted). s.room) c.self.view_is, c.requires.spare)) c.ready-self-inside.ensures (ap (λ (s : Sorted). s.entries) c.self.view_is) in
    omega (arith, r.kept.chained.1, c.ready-self-inside.new.nodes.ok.0)

pub try_hang-requires : goal.try_hang-requires
try_hang-requires c =
    let r = readied c.self.invariant.any (omega (arith, ap (λ (s : Sorted). s.room) c.self.view_is, c.requires.spare)) c.ready-self-inside.ensures (ap (λ (s : Sorted). s.entries) c.self.view_is) in
    record { tree = any_beside r c.deref_mut.ensures.value; sized = c.requires.sized }

pub invariant_of-self : goal.invariant_of-self
invariant_of-self c =
    let r = readied c.self.invariant.any (omega (arith, ap (λ (s : Sorted). s.room) c.self.view_is, c.requires.spare)) c.ready-self-inside.ensures (ap (λ (s : Sorted). s.entries) c.self.view_is) in
    let done = refused _ (record { span = c.args.span; slot = c.args.slot }) r c.deref_mut.ensures.value (rw (c.in_err-self-inside.was {u = tt}) at c.try_hang.ensures) (omega (arith, c.ready-self-inside.new.nodes.ok.0)) in
    record { any = done.kept; within = same_within c.self.inside.lowest c.self.inside.highest (ap (λ (s : Sorted). s.entries) c.self.view_is) done.entries c.self.invariant.within }

pub returns-in_err-self-inside : goal.returns-in_err-self-inside
returns-in_err-self-inside c =
    let r = readied c.self.invariant.any (omega (arith, ap (λ (s : Sorted). s.room) c.self.view_is, c.requires.spare)) c.ready-self-inside.ensures (ap (λ (s : Sorted). s.entries) c.self.view_is) in
    let done = refused _ (record { span = c.args.span; slot = c.args.slot }) r c.deref_mut.ensures.value (rw (c.in_err-self-inside.was {u = tt}) at c.try_hang.ensures) (omega (arith, c.ready-self-inside.new.nodes.ok.0)) in
    let p = err_from_is_err_and c.from_residual.result c.from_residual.ensures.1 in
    rw (p.1, p.2) (record { answer = rw done.met refl; entries = done.entries; rising = done.rising; spare = omega (arith, ap (λ (s : Sorted). s.room) c.self.view_is) })

pub invariant_of-self-2 : goal.invariant_of-self-2
invariant_of-self-2 c =
    let more : 0 < c.self.inside.room = omega (arith, ap (λ (s : Sorted). s.room) c.self.view_is, c.requires.spare) in
    let r = readied c.self.invariant.any more c.ready-self-inside.ensures (ap (λ (s : Sorted). s.entries) c.self.view_is) in
    let done = came _ (record { span = c.args.span; slot = c.args.slot }) c.index.result.now c.index.ensures r c.deref_mut.ensures.value (rw (c.in_ok-self-inside.was {u = tt}) at c.try_hang.ensures) c.requires.sized more (omega (arith, c.ready-self-inside.new.nodes.ok.0)) in
    record { any = done.kept; within = came_within _ (ap (λ (s : Sorted). s.entries) c.self.view_is) done.entries c.self.invariant.within (omega arith) (omega arith) (omega arith) (omega arith) }

pub returns : goal.returns
returns c =
    let more : 0 < c.self.inside.room = omega (arith, ap (λ (s : Sorted). s.room) c.self.view_is, c.requires.spare) in
    let r = readied c.self.invariant.any more c.ready-self-inside.ensures (ap (λ (s : Sorted). s.entries) c.self.view_is) in
    let done = came _ (record { span = c.args.span; slot = c.args.slot }) c.index.result.now c.index.ensures r c.deref_mut.ensures.value (rw (c.in_ok-self-inside.was {u = tt}) at c.try_hang.ensures) c.requires.sized more (omega (arith, c.ready-self-inside.new.nodes.ok.0)) in
    record { answer = rw done.apart refl; entries = done.entries; rising = done.rising; spare = omega (arith, ap (λ (s : Sorted). s.room) c.self.view_is, c.requires.spare) }
