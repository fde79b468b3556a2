use Rattle.std.proofs.Common.{◌≤◌, length, refl, ap, arith}
use Rattle.std.proofs.lemmas.Bool.{ne_eqb}
use Rattle.km_links.specs.Chains.{Chained}
use Rattle.km_links.specs.declared.chain.Node.{Node}
use Rattle.km_links.specs.Linked.{no_slot}
use Rattle.km_links.proofs.Chains.{behind_linked, read}
use Rattle.km_links.proofs.chain.Chain.next.Goals as goal

pub index-requires : goal.index-requires
index-requires c =
    let L = c.self.inside.nodes.items in
    let small : length L ≤ no_slot = omega (arith, c.self.inside.nodes.ok.0) in
    let seen = ap (λ (v : Chained). v.slots) c.self.view_is in
    let inv = c.self.invariant.linked in
    omega (arith, (behind_linked L _ _ _ _ c.args.slot small inv.linked inv.distinct (rw (← seen) at c.requires)).0, c.self.inside.nodes.ok.0)

pub returns-then-next : goal.returns-then-next
returns-then-next c =
    let L = c.self.inside.nodes.items in
    let small : length L ≤ no_slot = omega (arith, c.self.inside.nodes.ok.0) in
    let seen = ap (λ (v : Chained). v.slots) c.self.view_is in
    let inv = c.self.invariant.linked in
    let h = behind_linked L _ _ _ _ c.args.slot small inv.linked inv.distinct (rw (← seen) at c.requires) in
    let next = ap (λ (v : Node). v.next) (read L c.args.slot c.index.result.now h.0 c.index.ensures) in
    rw (← seen, h.1, ← next, c.if-next.true) refl

pub returns-else-next : goal.returns-else-next
returns-else-next c =
    let L = c.self.inside.nodes.items in
    let small : length L ≤ no_slot = omega (arith, c.self.inside.nodes.ok.0) in
    let seen = ap (λ (v : Chained). v.slots) c.self.view_is in
    let inv = c.self.invariant.linked in
    let h = behind_linked L _ _ _ _ c.args.slot small inv.linked inv.distinct (rw (← seen) at c.requires) in
    let next = ap (λ (v : Node). v.next) (read L c.args.slot c.index.result.now h.0 c.index.ensures) in
    rw (← seen, h.1, ← next, ne_eqb c.index.result.now.next no_slot c.if-next.false) refl
