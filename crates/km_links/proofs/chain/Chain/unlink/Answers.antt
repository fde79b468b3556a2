use Rattle.std.proofs.Common.{◌≤◌, ◌∙◌, length, ap, arith}
use Rattle.km_links.specs.Chains.{Chained, without}
use Rattle.km_links.specs.Linked.{no_slot}
use Rattle.km_links.proofs.Chains.{behind_linked, read, take_settled, same_chained}
use Rattle.km_links.proofs.chain.Chain.unlink.Goals as goal

pub index-requires : goal.index-requires
index-requires c =
    let L = c.self.inside.nodes.items in
    let small : length L ≤ no_slot = omega (arith, c.self.inside.nodes.ok.0) in
    let seen = ap (λ (v : Chained). v.slots) c.self.view_is in
    let inv = c.self.invariant.linked in
    omega (arith, (behind_linked L _ _ _ _ c.args.slot small inv.linked inv.distinct (rw (← seen) at c.requires)).0, c.self.inside.nodes.ok.0)

pub link_around-requires : goal.link_around-requires
link_around-requires c =
    let L = c.self.inside.nodes.items in
    let small : length L ≤ no_slot = omega (arith, c.self.inside.nodes.ok.0) in
    let seen = ap (λ (v : Chained). v.slots) c.self.view_is in
    let inv = c.self.invariant.linked in
    (behind_linked L _ _ _ _ c.args.slot small inv.linked inv.distinct (rw (← seen) at c.requires)).0

pub invariant_of-self : goal.invariant_of-self
invariant_of-self c =
    let L = c.self.inside.nodes.items in
    let small : length L ≤ no_slot = omega (arith, c.self.inside.nodes.ok.0) in
    let seen = ap (λ (v : Chained). v.slots) c.self.view_is in
    let inv = c.self.invariant.linked in
    let node = read L c.args.slot c.index.result.now ((behind_linked L _ _ _ _ c.args.slot small inv.linked inv.distinct (rw (← seen) at c.requires)).0) c.index.ensures in
    let done = take_settled L c.link_around.new.nodes.items c.self.inside.first c.self.inside.last c.args.slot _ _ c.index.result.now _ small inv (rw (← seen) at c.requires) node c.link_around.ensures.nodes c.end_at-self-inside.ensures c.end_at-self-inside-2.ensures in
    record { linked = done.linked; within = omega (arith, done.long, c.link_around.new.nodes.ok.0, c.self.inside.nodes.ok.0); reserved = omega (arith, c.link_around.ensures.capacity); small = omega arith }

pub returns : goal.returns
returns c =
    let L = c.self.inside.nodes.items in
    let small : length L ≤ no_slot = omega (arith, c.self.inside.nodes.ok.0) in
    let seen = ap (λ (v : Chained). v.slots) c.self.view_is in
    let inv = c.self.invariant.linked in
    let node = read L c.args.slot c.index.result.now ((behind_linked L _ _ _ _ c.args.slot small inv.linked inv.distinct (rw (← seen) at c.requires)).0) c.index.ensures in
    let done = take_settled L c.link_around.new.nodes.items c.self.inside.first c.self.inside.last c.args.slot _ _ c.index.result.now _ small inv (rw (← seen) at c.requires) node c.link_around.ensures.nodes c.end_at-self-inside.ensures c.end_at-self-inside-2.ensures in
    same_chained _ _ _ _ (done.is ∙ ap (without c.args.slot) seen) (ap (λ (v : Chained). v.capacity) c.self.view_is)
