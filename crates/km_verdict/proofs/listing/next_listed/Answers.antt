use Rattle.std.proofs.Common.{length, sym, ap, ◌∙◌, arith}
use Rattle.km_verdict.proofs.Listings.{look_begins, look_finds, look_goes_on, look_left}
use Rattle.km_verdict.proofs.listing.next_listed.Goals as goal

pub loop-next-init : goal.loop-next-init
loop-next-init g c = look_begins _ _ _ c.requires c.next-next.ensures

pub returns-then-is_listed : goal.returns-then-is_listed
returns-then-is_listed g c =
    look_finds _ _ _ _ c.in-Some.id c.loop-next.invariant c.is_listed.ensures.rising c.in-Some.is (λ l f. sym c.if-is_listed.true ∙ c.is_listed.ensures.listed l f)

pub loop-next-smaller : goal.loop-next-smaller
loop-next-smaller g c =
    let r = c.is_listed.ensures.rising in
    let on = look_goes_on _ _ _ _ _ c.in-Some.id c.loop-next.invariant r c.in-Some.is c.next-next-in-Some.ensures (λ l f. sym c.if-is_listed.false ∙ c.is_listed.ensures.listed l f) in
    let less = on.1 in
    omega (arith, less, ap length (look_left _ _ _ _ on.0 r), ap length (look_left _ _ _ _ c.loop-next.invariant r))

pub loop-next-preserved : goal.loop-next-preserved
loop-next-preserved g c =
    (look_goes_on _ _ _ _ _ c.in-Some.id c.loop-next.invariant c.is_listed.ensures.rising c.in-Some.is c.next-next-in-Some.ensures (λ l f. sym c.if-is_listed.false ∙ c.is_listed.ensures.listed l f)).0
