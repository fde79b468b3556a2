use Rattle.std.proofs.Common.{◌≡◌, ◌≤◌, ◌∙◌, ◌++◌, [], ◌∷◌, false, length, ap, arith}
use Rattle.km_links.specs.Chains.{Chained, is_in}
use Rattle.km_links.specs.Linked.{no_slot, walk}
use Rattle.km_links.proofs.Chains.{reached_linked, push_settled, same_chained}
use Rattle.km_links.proofs.chain.Chain.push_back.Goals as goal

pub invariant_of-self : goal.invariant_of-self
invariant_of-self c =
    let L = c.self.inside.nodes.items in
    let small : length L ≤ no_slot = omega (arith, c.self.inside.nodes.ok.0) in
    let seen = ap (λ (v : Chained). v.slots) c.self.view_is in
    let inv = c.self.invariant.linked in
    let M = c.reach.new.nodes.items in
    let long : length M ≤ c.self.inside.capacity = c.reach.ensures.longest c.self.inside.capacity (omega (arith, c.self.inside.nodes.ok.0)) (omega (arith, ap (λ (v : Chained). v.capacity) c.self.view_is, c.requires.table)) in
    let out : is_in c.args.slot (walk (length L) L c.self.inside.first) ≡ false = rw seen c.requires.out in
    let done = push_settled M c.link_last.new.nodes.items c.self.inside.first c.self.inside.last c.args.slot _ _ (omega (arith, long)) (reached_linked L M _ _ _ inv c.reach.ensures.old c.reach.ensures.new) c.reach.ensures.reached out c.link_last.ensures.nodes c.end_at-self-inside.ensures in
    record { linked = done.linked; within = omega (arith, done.long, long, c.link_last.new.nodes.ok.0); reserved = omega (arith, c.link_last.ensures.capacity, c.reach.ensures.capacity); small = omega arith }

pub returns : goal.returns
returns c =
    let L = c.self.inside.nodes.items in
    let small : length L ≤ no_slot = omega (arith, c.self.inside.nodes.ok.0) in
    let seen = ap (λ (v : Chained). v.slots) c.self.view_is in
    let inv = c.self.invariant.linked in
    let M = c.reach.new.nodes.items in
    let long : length M ≤ c.self.inside.capacity = c.reach.ensures.longest c.self.inside.capacity (omega (arith, c.self.inside.nodes.ok.0)) (omega (arith, ap (λ (v : Chained). v.capacity) c.self.view_is, c.requires.table)) in
    let out : is_in c.args.slot (walk (length L) L c.self.inside.first) ≡ false = rw seen c.requires.out in
    let done = push_settled M c.link_last.new.nodes.items c.self.inside.first c.self.inside.last c.args.slot _ _ (omega (arith, long)) (reached_linked L M _ _ _ inv c.reach.ensures.old c.reach.ensures.new) c.reach.ensures.reached out c.link_last.ensures.nodes c.end_at-self-inside.ensures in
    same_chained _ _ _ _ (done.is ∙ ap (λ ns. ns ++ c.args.slot ∷ []) seen) (ap (λ (v : Chained). v.capacity) c.self.view_is)
