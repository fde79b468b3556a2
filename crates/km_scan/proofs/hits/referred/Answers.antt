use Rattle.std.proofs.Common.{refl, sym, ap, ◌∙◌}
use Rattle.std.specs.Prelude.{option_map}
use Rattle.km_record.specs.declared.kinds.RecId.{RecId}
use Rattle.km_model.specs.Blocks.{contains}
use Rattle.km_state.specs.StateNext.{hit_block_in}
use Rattle.km_track.specs.Tracker.{tracked_in, tracked_of}
use Rattle.km_scan.proofs.Referred.{colour_black, colour_grey, colour_white, hits_black, hits_block, hits_grey, hits_none, hits_own, hits_white, looked, looked_start, looked_there}
use Rattle.km_scan.proofs.hits.referred.Goals as goal

pub returns-in_err-id-clause-hit : goal.returns-in_err-id-clause-hit
returns-in_err-id-clause-hit g c =
    λ place ne h. ap (option_map (λ (i : RecId). i.generation)) c.from_residual.ensures ∙ hits_none c.args.track.now place c.args.value c.untag.result c.untag.ensures ne (c.in_err-id.ensures {u = tt})

pub returns-then-eq-clause-hit : goal.returns-then-eq-clause-hit
returns-then-eq-clause-hit g c =
    let t = c.args.track.now in
    let k = looked (contains c.untag.result) t c.in_ok-id.id (c.in_ok-id.ensures {u = tt}) in
    λ place ne h.
    hits_own (tracked_in t) place c.args.holder k.it.tracked c.in_ok-id.id.generation h (sym (ap (λ (i : RecId). i.generation) k.its)) (sym c.eq.ensures ∙ c.if-eq.true)
    ∙ sym (hits_block t place c.args.value c.untag.result c.in_ok-id.id k c.untag.ensures ne)

pub returns-in_err-record-clause-hit : goal.returns-in_err-record-clause-hit
returns-in_err-record-clause-hit g c =
    let t = c.args.track.now in
    let k = looked (contains c.untag.result) t c.in_ok-id.id (c.in_ok-id.ensures {u = tt}) in
    let e = c.in_err-record.ensures {u = tt} in
    absurd (looked_there (contains c.untag.result) t c.in_ok-id.id k e.rising e.block)

pub returns-in-White-clause-hit : goal.returns-in-White-clause-hit
returns-in-White-clause-hit g c =
    let t = c.args.track.now in
    let id = c.in_ok-id.id in
    let r = c.in_ok-record.record.now in
    let k = looked (contains c.untag.result) t id (c.in_ok-id.ensures {u = tt}) in
    let e = c.in_ok-record.ensures {u = tt} in
    let same = looked_start (contains c.untag.result) t id k r e.rising e.block in
    λ place ne h.
    hits_white (tracked_in t) place c.args.holder (tracked_of id.generation r) id.generation h refl (sym c.eq.ensures ∙ c.if-eq.false) (colour_white id.generation r (sym c.colour.ensures ∙ c.in-White.is))
    ∙ sym (hits_block t place c.args.value c.untag.result id k c.untag.ensures ne ∙ ap (hit_block_in (tracked_in t) place) same)

pub returns-in-Black-clause-hit : goal.returns-in-Black-clause-hit
returns-in-Black-clause-hit g c =
    let t = c.args.track.now in
    let id = c.in_ok-id.id in
    let r = c.in_ok-record.record.now in
    let k = looked (contains c.untag.result) t id (c.in_ok-id.ensures {u = tt}) in
    let e = c.in_ok-record.ensures {u = tt} in
    let same = looked_start (contains c.untag.result) t id k r e.rising e.block in
    let black = colour_black id.generation r (sym c.colour.ensures ∙ c.in-Black.is) in
    λ place ne h.
    hits_black (tracked_in t) place c.args.holder (tracked_of id.generation r) id.generation h refl (sym c.eq.ensures ∙ c.if-eq.false) black.0 black.1
    ∙ sym (hits_block t place c.args.value c.untag.result id k c.untag.ensures ne ∙ ap (hit_block_in (tracked_in t) place) same)

pub returns-in-Grey-clause-hit : goal.returns-in-Grey-clause-hit
returns-in-Grey-clause-hit g c =
    let t = c.args.track.now in
    let id = c.in_ok-id.id in
    let r = c.in_ok-record.record.now in
    let k = looked (contains c.untag.result) t id (c.in_ok-id.ensures {u = tt}) in
    let e = c.in_ok-record.ensures {u = tt} in
    let same = looked_start (contains c.untag.result) t id k r e.rising e.block in
    let grey = colour_grey id.generation r (sym c.colour.ensures ∙ c.in-Grey.is) in
    λ place ne h.
    c.passed_on.ensures.hit place h
    ∙ hits_grey (tracked_in t) place c.args.holder (tracked_of id.generation r) id.generation h refl (sym c.eq.ensures ∙ c.if-eq.false) grey.0 grey.1
    ∙ sym (hits_block t place c.args.value c.untag.result id k c.untag.ensures ne ∙ ap (hit_block_in (tracked_in t) place) same)
