use Rattle.std.proofs.Common.{inl, refl, ap, arith}
use Rattle.km_links.specs.Chains.{Lists}
use Rattle.km_track.proofs.Enters.{next_is}
use Rattle.km_track.proofs.Marks.{head_in}
use Rattle.km_track.proofs.slots.place.Goals as goal

pub index_mut-requires : goal.index_mut-requires
index_mut-requires c =
    let popped = c.in-Some.ensures {u = tt} in
    omega (arith, c.requires.used c.in-Some.n (head_in _ _ popped.slot), c.args.slots.now.ok.0)

pub returns-in-Some-clause-placed : goal.returns-in-Some-clause-placed
returns-in-Some-clause-placed c =
    let popped = c.in-Some.ensures {u = tt} in
    let free = ap (λ (l : Lists). l.free) popped.rest in
    rw (next_is c.args.slots.now.items _ _ popped.slot) (inl (popped.slot, free, c.requires.used c.in-Some.n (head_in _ _ popped.slot), refl))
