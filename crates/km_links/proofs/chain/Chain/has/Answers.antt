use Rattle.std.proofs.Common.{◌≤◌, ◌<◌, ◌∙◌, not, eqb, length, ap, arith}
use Rattle.std.proofs.lemmas.Bool.{le-ltb}
use Rattle.km_links.specs.Chains.{Chained}
use Rattle.km_links.specs.declared.chain.Node.{Node}
use Rattle.km_links.specs.Linked.{no_slot}
use Rattle.km_links.proofs.Chains.{in_linked, out_linked, read}
use Rattle.km_links.proofs.chain.Chain.has.Goals as goal

pub returns-then-slot-len : goal.returns-then-slot-len
returns-then-slot-len c =
    let L = c.self.inside.nodes.items in
    let small : length L ≤ no_slot = omega (arith, c.self.inside.nodes.ok.0) in
    let seen = ap (λ (v : Chained). v.slots) c.self.view_is in
    let inv = c.self.invariant.linked in
    let k : c.args.slot < length L = omega (arith, c.self.inside.nodes.ok.0) in
    let node = read L c.args.slot c.index.result.now k c.index.ensures in
    rw (← seen) (ap (λ (v : Node). not (eqb v.next c.args.slot)) node ∙ in_linked L _ _ _ c.args.slot small inv k)

pub returns-else-slot-len : goal.returns-else-slot-len
returns-else-slot-len c =
    let L = c.self.inside.nodes.items in
    let seen = ap (λ (v : Chained). v.slots) c.self.view_is in
    rw (← seen, le-ltb c.args.slot c.len.result c.if-slot-len.false) (out_linked L _ _ _ c.args.slot c.self.invariant.linked (omega (arith, c.self.inside.nodes.ok.0)))
