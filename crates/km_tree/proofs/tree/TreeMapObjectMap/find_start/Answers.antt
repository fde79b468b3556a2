use Rattle.std.proofs.Common.{sym, ap, rules}
use Rattle.km_map.specs.Sorted.{Sorted}
use Rattle.km_map.proofs.Queries.{start_some, start_not, start_none}
use Rattle.km_tree.proofs.Maps.{sees}
use Rattle.km_tree.proofs.tree.TreeMapObjectMap.find_start.Goals as goal

pub returns-in-Some : goal.returns-in-Some
returns-in-Some c = let z = sees c.self.invariant.any c.deref.ensures.value (ap (λ (s : Sorted). s.entries) c.self.view_is) (c.in-Some.ensures {u = tt}) in record { slot = sym (start_some c.args.a.0 _ c.in-Some.e z.rising z.first (search rules)); rising = z.rising }

pub returns-in_default : goal.returns-in_default
returns-in_default c = let z = sees c.self.invariant.any c.deref.ensures.value (ap (λ (s : Sorted). s.entries) c.self.view_is) (c.in-Some.ensures {u = tt}) in record { slot = sym (start_not c.args.a.0 _ c.in-Some.e z.rising z.first (search rules)); rising = z.rising }

pub returns-in_default-2 : goal.returns-in_default-2
returns-in_default-2 c = let z = sees c.self.invariant.any c.deref.ensures.value (ap (λ (s : Sorted). s.entries) c.self.view_is) (rw c.in_default.is at c.ending_behind.ensures) in record { slot = sym (start_none c.args.a.0 _ z.rising z.first); rising = z.rising }
