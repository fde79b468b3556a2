use Rattle.std.proofs.Common.{◌∙◌, Some, refl, sym, arith, length-set}
use Rattle.std.proofs.lemmas.Bool.{and_parts, leb-true, ltb-true, ne_eqb}
use Rattle.km_record.specs.Records.{block_of}
use Rattle.km_record.proofs.Areas.{any_met, placed, all_placed, each_end, room}
use Rattle.km_record.proofs.record.Record.add_area.Goals as goal

pub returns-then-meets_any-clause-answer : goal.returns-then-meets_any-clause-answer
returns-then-meets_any-clause-answer c =
    let met = sym (any_met c.args.area c.args.self.now.areas) ∙ sym (c.if-meets_any.ensures {u = tt}) in
    rw (room (block_of 0 c.args.self.now) _ _ c.requires.inside c.if-area-self.false, met) refl

pub returns-in_default-clause-answer : goal.returns-in_default-clause-answer
returns-in_default-clause-answer c =
    let met = sym (any_met c.args.area c.args.self.now.areas) ∙ sym (c.if-meets_any.ensures {u = tt}) in
    rw (room (block_of 0 c.args.self.now) _ _ c.requires.inside c.if-area-self.false, met, all_placed c.args.self.now.areas (c.in_default.ensures {u = tt}), c.requires.laid.places) refl

pub returns-clause-answer : goal.returns-clause-answer
returns-clause-answer c =
    let met = sym (any_met c.args.area c.args.self.now.areas) ∙ sym (c.if-meets_any.ensures {u = tt}) in
    let done = placed _ _ c.args.area c.requires.laid.packed (c.in-Some.ensures {u = tt}) in
    rw (room (block_of 0 c.args.self.now) _ _ c.requires.inside c.if-area-self.false, met, done.count, ne_eqb c.in-Some.place 4 (λ e. omega (arith, e, done.within, c.requires.laid.places))) refl

pub returns-clause-block : goal.returns-clause-block
returns-clause-block c = λ id. let done = placed _ _ c.args.area c.requires.laid.packed (c.in-Some.ensures {u = tt}) in rw done.areas refl

pub returns-clause-laid : goal.returns-clause-laid
returns-clause-laid c =
    let done = placed _ _ c.args.area c.requires.laid.packed (c.in-Some.ensures {u = tt}) in
    let s = c.requires.laid in
    let p = and_parts _ _ c.requires.inside in
    let low = leb-true _ _ p.0 in
    let high = ltb-true _ _ p.1 in
    record {
      start = s.start;
      size = s.size;
      end = s.end;
      inside = rw done.areas (each_end _ _ _ s.inside (c.requires.start, c.requires.size, low, omega arith));
      packed = done.packed;
      places = length-set c.args.self.now.areas c.in-Some.place (Some c.args.area) ∙ s.places;
    }
