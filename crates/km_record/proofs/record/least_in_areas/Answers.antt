use Rattle.std.proofs.Common.{◌+◌, ◌*◌, ◌/◌, ◌||◌, take, add-one, arith}
use Rattle.km_model.specs.Blocks.{in_areas, is_within}
use Rattle.km_record.specs.Records.{areas_in}
use Rattle.km_record.proofs.Areas.{area_at}
use Rattle.km_record.proofs.Words.{least_more, least_same, more_some, more_none}
use Rattle.km_record.proofs.record.least_in_areas.Goals as goal
use Rattle.km_record.proofs.record.least_in_areas.Goals.{in-Some, in_default}

pub least_in_area-requires-clause-start : goal.least_in_area-requires-clause-start
least_in_area-requires-clause-start c = c.requires.start

pub least_in_area-requires-clause-area : goal.least_in_area-requires-clause-area
least_in_area-requires-clause-area c = (area_at c.args.block.now.span c.args.block.now.areas c.loop-area.area-index c.in-Some.area c.requires.inside c.in-Some.is).0

pub least_in_area-requires-clause-size : goal.least_in_area-requires-clause-size
least_in_area-requires-clause-size c = (area_at c.args.block.now.span c.args.block.now.areas c.loop-area.area-index c.in-Some.area c.requires.inside c.in-Some.is).1

pub least_in_area-requires-clause-behind : goal.least_in_area-requires-clause-behind
least_in_area-requires-clause-behind c = (area_at c.args.block.now.span c.args.block.now.areas c.loop-area.area-index c.in-Some.area c.requires.inside c.in-Some.is).2

pub loop-area-preserved : goal.loop-area-preserved
loop-area-preserved c =
    let r = c.args.block.now in
    let start = r.span.start.0 in
    let seen = areas_in (take c.loop-area.area-index r.areas) in
    elim c.match-area.branch [
      | in-Some w ↦
          let a = w.in-Some.area in
          let inside = area_at r.span r.areas c.loop-area.area-index a c.requires.inside w.in-Some.is in
          rw (add-one, w.least-is, w.earlier-least.ensures) (least_same (λ i. in_areas seen (start + 8 * i) || is_within a.start.0 a.size (start + 8 * i)) _ _ _ _ (λ i. more_some r.areas c.loop-area.area-index a (start + 8 * i) w.in-Some.is)
          (least_more _ (λ i. is_within a.start.0 a.size (start + 8 * i)) _ _ _ _ c.loop-area.invariant (w.least_in_area.ensures (r.span.size / 8) (omega (arith, inside.3, c.requires.size)))))
      | in_default w ↦
          rw (add-one, w.least-is) (least_same (λ i. in_areas seen (start + 8 * i)) _ _ _ _ (λ i. more_none r.areas c.loop-area.area-index (start + 8 * i) w.in_default.is) c.loop-area.invariant)
    ]
