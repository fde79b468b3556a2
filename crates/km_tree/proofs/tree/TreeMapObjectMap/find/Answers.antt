use Rattle.std.proofs.Common.{◌<◌, ◌≤◌, ◌⊎◌, inl, inr, sym, ap, arith}
use Rattle.km_map.specs.Sorted.{Sorted}
use Rattle.km_map.proofs.Queries.{byte_some, byte_not, byte_none}
use Rattle.km_tree.proofs.Bounds.{found_none}
use Rattle.km_tree.proofs.Maps.{rises, sees}
use Rattle.km_tree.proofs.tree.TreeMapObjectMap.find.Goals as goal
use Rattle.km_tree.proofs.tree.TreeMapObjectMap.find.Goals.{then-a-self-via-then-a-self, then-a-self-via-else-a-self+then-self-a}

pub returns-then-a-self : goal.returns-then-a-self
returns-then-a-self c =
    let entries = ap (λ (s : Sorted). s.entries) c.self.view_is in
    let away : (c.args.a.0 < c.self.inside.lowest) ⊎ (c.self.inside.highest ≤ c.args.a.0)
    = elim c.then-a-self.branch [ then-a-self-via-then-a-self w ↦ inl (omega (arith, w.if-a-self.true)) | then-a-self-via-else-a-self+then-self-a w ↦ inr (omega (arith, w.if-self-a.true)) ] in
    record { slot = found_none entries c.self.invariant.within away; rising = rises c.self.invariant.any entries }

pub returns-in-Some : goal.returns-in-Some
returns-in-Some c = let z = sees c.self.invariant.any c.deref.ensures.value (ap (λ (s : Sorted). s.entries) c.self.view_is) (c.in-Some.ensures {u = tt}) in record { slot = sym (byte_some c.args.a.0 _ c.in-Some.e z.rising z.first (omega arith)); rising = z.rising }

pub returns-in_default : goal.returns-in_default
returns-in_default c = let z = sees c.self.invariant.any c.deref.ensures.value (ap (λ (s : Sorted). s.entries) c.self.view_is) (c.in-Some.ensures {u = tt}) in record { slot = sym (byte_not c.args.a.0 _ c.in-Some.e z.rising z.first (omega arith)); rising = z.rising }

pub returns-in_default-2 : goal.returns-in_default-2
returns-in_default-2 c = let z = sees c.self.invariant.any c.deref.ensures.value (ap (λ (s : Sorted). s.entries) c.self.view_is) (rw c.in_default.is at c.ending_behind.ensures) in record { slot = sym (byte_none c.args.a.0 _ z.rising z.first); rising = z.rising }
