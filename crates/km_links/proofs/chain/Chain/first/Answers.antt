use Rattle.std.proofs.Common.{◌≤◌, length, refl, ap, arith}
use Rattle.std.proofs.lemmas.Bool.{ne_eqb}
use Rattle.km_links.specs.Chains.{Chained}
use Rattle.km_links.specs.Linked.{no_slot}
use Rattle.km_links.proofs.Chains.{first_linked}
use Rattle.km_links.proofs.chain.Chain.first.Goals as goal

pub returns-then-self-clause-slot : goal.returns-then-self-clause-slot
returns-then-self-clause-slot c =
    let L = c.self.inside.nodes.items in
    let small : length L ≤ no_slot = omega (arith, c.self.inside.nodes.ok.0) in
    let seen = ap (λ (v : Chained). v.slots) c.self.view_is in
    let inv = c.self.invariant.linked in
    rw (← seen, first_linked L _ _ _ small inv, c.if-self.true) refl

pub returns-else-self-clause-slot : goal.returns-else-self-clause-slot
returns-else-self-clause-slot c =
    let L = c.self.inside.nodes.items in
    let small : length L ≤ no_slot = omega (arith, c.self.inside.nodes.ok.0) in
    let seen = ap (λ (v : Chained). v.slots) c.self.view_is in
    let inv = c.self.invariant.linked in
    rw (← seen, first_linked L _ _ _ small inv, ne_eqb c.self.inside.first no_slot c.if-self.false) refl

pub returns-then-self-clause-distinct : goal.returns-then-self-clause-distinct
returns-then-self-clause-distinct c = rw (← ap (λ (v : Chained). v.slots) c.self.view_is) c.self.invariant.linked.distinct
