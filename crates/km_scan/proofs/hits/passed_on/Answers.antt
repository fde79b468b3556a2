use Rattle.std.proofs.Common.{Option, refl, sym, ap, ◌∙◌, true, false}
use Rattle.std.specs.Prelude.{option_map}
use Rattle.km_base.specs.declared.spans.Addr.{Addr}
use Rattle.km_record.specs.declared.kinds.RecId.{RecId}
use Rattle.km_state.specs.State.{is_white_now}
use Rattle.km_track.specs.Tracker.{begins, tracked_in}
use Rattle.km_scan.specs.Stand.{hit_at}
use Rattle.km_scan.proofs.Referred.{excess_is, excess_none, looked, looked_live}
use Rattle.km_scan.proofs.hits.passed_on.Goals as goal
use Rattle.km_scan.proofs.hits.passed_on.Goals.{then-eq-via-then-eq, then-eq-via-else-eq+then-not-is_white}

pub returns-in_err-to-clause-hit : goal.returns-in_err-to-clause-hit
returns-in_err-to-clause-hit g c =
    let t = c.args.track.now in
    λ place h. ap (option_map (λ (i : RecId). i.generation)) c.from_residual-in_err-to.ensures ∙ excess_none t place c.in_ok-excess.field-0.0 (c.in_err-to.ensures {u = tt})
    ∙ ap (λ (o : Option Addr). hit_at (tracked_in t) place (option_map (λ (a : Addr). a.0) o)) (sym (c.in_ok-excess.was {u = tt}))

pub returns-then-eq-clause-hit : goal.returns-then-eq-clause-hit
returns-then-eq-clause-hit g c =
    let t = c.args.track.now in
    let a = c.in_ok-excess.field-0.0 in
    let k = looked (begins a) t c.in_ok-to.to (c.in_ok-to.ensures {u = tt}) in
    λ place h.
    elim c.then-eq.branch [
      | then-eq-via-then-eq w ↦ excess_is t place c.args.holder a c.in_ok-to.to k true (is_white_now k.it.tracked) h (sym c.eq.ensures ∙ w.if-eq.true) refl
      | then-eq-via-else-eq+then-not-is_white w ↦
          excess_is t place c.args.holder a c.in_ok-to.to k false false h (sym c.eq.ensures ∙ w.if-eq.false)
          (sym (w.is_white.ensures.white k.it (looked_live (begins a) t c.in_ok-to.to k w.is_white.ensures.rising)) ∙ w.if-not-is_white.true)
    ]
    ∙ ap (λ (o : Option Addr). hit_at (tracked_in t) place (option_map (λ (x : Addr). x.0) o)) (sym (c.in_ok-excess.was {u = tt}))

pub returns-clause-hit : goal.returns-clause-hit
returns-clause-hit g c =
    let t = c.args.track.now in
    let a = c.in_ok-excess.field-0.0 in
    let k = looked (begins a) t c.in_ok-to.to (c.in_ok-to.ensures {u = tt}) in
    λ place h. excess_is t place c.args.holder a c.in_ok-to.to k false true h (sym c.eq.ensures ∙ c.if-eq.false)
    (sym (c.is_white.ensures.white k.it (looked_live (begins a) t c.in_ok-to.to k c.is_white.ensures.rising)) ∙ c.if-not-is_white.false)
    ∙ ap (λ (o : Option Addr). hit_at (tracked_in t) place (option_map (λ (x : Addr). x.0) o)) (sym (c.in_ok-excess.was {u = tt}))

pub returns-clause-live : goal.returns-clause-live
returns-clause-live g c =
    let t = c.args.track.now in
    let a = c.in_ok-excess.field-0.0 in
    let k = looked (begins a) t c.in_ok-to.to (c.in_ok-to.ensures {u = tt}) in
    let there = looked_live (begins a) t c.in_ok-to.to k c.is_white.ensures.rising in
    (k.it, there, sym (c.is_white.ensures.white k.it there) ∙ c.if-not-is_white.false)
