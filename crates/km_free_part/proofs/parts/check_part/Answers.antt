use Rattle.std.proofs.Common.{◌+◌, refl, sym, ◌∙◌, arith}
use Rattle.std.proofs.lemmas.Bool.{lt-ltb, le-ltb}
use Rattle.km_free_part.proofs.Found.{seen, inside}
use Rattle.km_free_part.proofs.parts.check_part.Goals as goal

pub returns-in_default-record : goal.returns-in_default-record
returns-in_default-record g c =
    let e = c.in_default-record.ensures {u = tt} in
    let f = sym (seen c.args.track.now c.args.part.start.0 c.in-Some.id _ e.rising refl (c.in-Some.ensures {u = tt})) ∙ sym e.block in
    rw f refl

pub overflow_sub-part : goal.overflow_sub-part
overflow_sub-part g c =
    let e = c.in-Some-record.ensures {u = tt} in
    let f = sym (seen c.args.track.now c.args.part.start.0 c.in-Some.id _ e.rising refl (c.in-Some.ensures {u = tt})) ∙ sym e.block in
    (inside c.args.track.now c.args.part.start.0 _ f).0

pub overflow_sub-block : goal.overflow_sub-block
overflow_sub-block g c =
    let e = c.in-Some-record.ensures {u = tt} in
    let f = sym (seen c.args.track.now c.args.part.start.0 c.in-Some.id _ e.rising refl (c.in-Some.ensures {u = tt})) ∙ sym e.block in
    let i = inside c.args.track.now c.args.part.start.0 _ f in
    omega (arith, i.0, i.1)

pub returns-then-part-block : goal.returns-then-part-block
returns-then-part-block g c =
    let e = c.in-Some-record.ensures {u = tt} in
    let f = sym (seen c.args.track.now c.args.part.start.0 c.in-Some.id _ e.rising refl (c.in-Some.ensures {u = tt})) ∙ sym e.block in
    let i = inside c.args.track.now c.args.part.start.0 _ f in
    let r = c.in-Some-record.block.now in
    rw (f, lt-ltb (r.span.start.0 + r.span.size) (c.args.part.start.0 + c.args.part.size) (omega (arith, i.0, i.1, c.if-part-block.true))) refl

pub returns : goal.returns
returns g c =
    let e = c.in-Some-record.ensures {u = tt} in
    let f = sym (seen c.args.track.now c.args.part.start.0 c.in-Some.id _ e.rising refl (c.in-Some.ensures {u = tt})) ∙ sym e.block in
    let i = inside c.args.track.now c.args.part.start.0 _ f in
    let r = c.in-Some-record.block.now in
    rw (f, le-ltb (r.span.start.0 + r.span.size) (c.args.part.start.0 + c.args.part.size) (omega (arith, i.0, i.1, c.if-part-block.false))) refl
