use Rattle.std.proofs.Common.{true, false, length, sym, ap, ◌∙◌, arith}
use Rattle.km_verdict.proofs.Flags.{flag_begins, flag_fits, flag_goes_on, flag_left}
use Rattle.km_verdict.proofs.verdict.flag.Goals as goal

pub loop-next-init : goal.loop-next-init
loop-next-init g c = flag_begins _ _ _ c.first-next.ensures.rising c.first-next.ensures.few c.first-next.ensures.first

pub overflow_add-new : goal.overflow_add-new
overflow_add-new g c =
    let fits = flag_fits _ _ _ _ _ (flag_goes_on _ _ _ _ _ _ _ c.in-Some.id c.loop-next.invariant c.in-Some.is c.is_unreferenced-white.result true c.is_unreferenced-white.ensures c.set_verdict.ensures.block c.next-next.ensures (λ l f. sym c.if-set_verdict.true ∙ c.set_verdict.ensures.answer l f)).0 in
    omega (arith, fits)

pub loop-next-preserved-then-set_verdict : goal.loop-next-preserved-then-set_verdict
loop-next-preserved-then-set_verdict g c =
    (flag_goes_on _ _ _ _ _ _ _ c.in-Some.id c.loop-next.invariant c.in-Some.is c.is_unreferenced-white.result true c.is_unreferenced-white.ensures c.set_verdict.ensures.block c.next-next.ensures (λ l f. sym c.if-set_verdict.true ∙ c.set_verdict.ensures.answer l f)).0

pub loop-next-smaller-then-set_verdict : goal.loop-next-smaller-then-set_verdict
loop-next-smaller-then-set_verdict g c =
    let on = flag_goes_on _ _ _ _ _ _ _ c.in-Some.id c.loop-next.invariant c.in-Some.is c.is_unreferenced-white.result true c.is_unreferenced-white.ensures c.set_verdict.ensures.block c.next-next.ensures (λ l f. sym c.if-set_verdict.true ∙ c.set_verdict.ensures.answer l f) in
    let less = on.1 in
    omega (arith, less, ap length (flag_left _ _ _ _ _ on.0), ap length (flag_left _ _ _ _ _ c.loop-next.invariant))

pub loop-next-preserved : goal.loop-next-preserved
loop-next-preserved g c =
    (flag_goes_on _ _ _ _ _ _ _ c.in-Some.id c.loop-next.invariant c.in-Some.is c.is_unreferenced-white.result false c.is_unreferenced-white.ensures c.set_verdict.ensures.block c.next-next.ensures (λ l f. sym c.if-set_verdict.false ∙ c.set_verdict.ensures.answer l f)).0

pub loop-next-smaller : goal.loop-next-smaller
loop-next-smaller g c =
    let on = flag_goes_on _ _ _ _ _ _ _ c.in-Some.id c.loop-next.invariant c.in-Some.is c.is_unreferenced-white.result false c.is_unreferenced-white.ensures c.set_verdict.ensures.block c.next-next.ensures (λ l f. sym c.if-set_verdict.false ∙ c.set_verdict.ensures.answer l f) in
    let less = on.1 in
    omega (arith, less, ap length (flag_left _ _ _ _ _ on.0), ap length (flag_left _ _ _ _ _ c.loop-next.invariant))
