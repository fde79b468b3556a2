use Rattle.std.proofs.Common.{◌∙◌, ap}
use Rattle.km_links.specs.Chains.{with_list}
use Rattle.km_links.proofs.Distinct.{without_first}
use Rattle.km_links.proofs.Chains.{list-with_list}
use Rattle.km_links.proofs.links.Links.pop_front.Goals as goal

pub returns-clause-rest : goal.returns-clause-rest
returns-clause-rest c =
    let first = c.in_ok-slot.ensures {u = tt} in
    c.unlink.ensures ∙ ap (λ ns. with_list c.args.list ns c.args.self.now) (without_first _ _ first.distinct first.slot).1

pub returns-clause-out : goal.returns-clause-out
returns-clause-out c =
    let first = c.in_ok-slot.ensures {u = tt} in
    let h = without_first _ _ first.distinct first.slot in
    rw (c.unlink.ensures, list-with_list, h.1) h.2
