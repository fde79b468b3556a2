use Rattle.std.proofs.Common.{◌≡◌, length, sym, ap, subst, arith, not, ◌∙◌}
use Rattle.km_pages.proofs.FirstFit.{Searched, searched_held, searched_found, searched_none}
use Rattle.km_pages.proofs.pages.lowest_room.Goals as goal

pub loop-p-preserved-then-is_some : goal.loop-p-preserved-then-is_some
loop-p-preserved-then-is_some c =
    let h = c.is_some.ensures in
    searched_held c.args.pages.now c.args.n c.loop-p.p c.loop-p.free c.loop-p.invariant (ap not (sym h ∙ c.if-is_some.true))

pub returns-then-free-n : goal.returns-then-free-n
returns-then-free-n c =
    sym (searched_found c.args.pages.now c.args.n c.loop-p.p c.loop-p.free c.loop-p.invariant (ap not (sym c.is_some.ensures ∙ c.if-is_some.false)) (omega arith) (omega arith))

pub returns : goal.returns
returns c =
    let end : c.loop-p.p ≡ length c.args.pages.now = omega arith in
    sym (searched_none c.args.pages.now c.args.n c.loop-p.free (subst (λ p. Searched c.args.pages.now c.args.n p c.loop-p.free) end c.loop-p.invariant))
