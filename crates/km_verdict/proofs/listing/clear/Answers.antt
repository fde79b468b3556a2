use Rattle.std.proofs.Common.{length, sym, ap, ◌∙◌, arith}
use Rattle.km_verdict.proofs.Clears.{clear_begins, clear_left, clear_paints, clear_passes}
use Rattle.km_verdict.proofs.listing.clear.Goals as goal

pub loop-next-init : goal.loop-next-init
loop-next-init g c = clear_begins _ _ c.first-next.ensures.rising c.first-next.ensures.first

pub loop-next-preserved-then-is_listed : goal.loop-next-preserved-then-is_listed
loop-next-preserved-then-is_listed g c =
    (clear_paints _ _ _ _ _ c.in-Some.id c.loop-next.invariant c.in-Some.is (λ l f. sym c.if-is_listed.true ∙ c.is_listed.ensures.listed l f) c.next-next.ensures c.paint.ensures).0

pub loop-next-smaller-then-is_listed : goal.loop-next-smaller-then-is_listed
loop-next-smaller-then-is_listed g c =
    let on = clear_paints _ _ _ _ _ c.in-Some.id c.loop-next.invariant c.in-Some.is (λ l f. sym c.if-is_listed.true ∙ c.is_listed.ensures.listed l f) c.next-next.ensures c.paint.ensures in
    let less = on.1 in
    omega (arith, less, ap length (clear_left _ _ _ on.0), ap length (clear_left _ _ _ c.loop-next.invariant))

pub loop-next-preserved : goal.loop-next-preserved
loop-next-preserved g c =
    (clear_passes _ _ _ _ c.in-Some.id c.loop-next.invariant c.in-Some.is (λ l f. sym c.if-is_listed.false ∙ c.is_listed.ensures.listed l f) c.next-next.ensures).0

pub loop-next-smaller : goal.loop-next-smaller
loop-next-smaller g c =
    let on = clear_passes _ _ _ _ c.in-Some.id c.loop-next.invariant c.in-Some.is (λ l f. sym c.if-is_listed.false ∙ c.is_listed.ensures.listed l f) c.next-next.ensures in
    let less = on.1 in
    omega (arith, less, ap length (clear_left _ _ _ on.0), ap length (clear_left _ _ _ c.loop-next.invariant))
