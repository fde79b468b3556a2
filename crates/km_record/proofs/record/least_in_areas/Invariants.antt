use Rattle.std.proofs.Common.{◌+◌, ◌*◌, ◌/◌, take}
use Rattle.km_model.specs.Blocks.{in_areas}
use Rattle.km_record.specs.Least.{IsLeast}
use Rattle.km_record.specs.Records.{areas_in}
use Rattle.km_record.proofs.record.least_in_areas.Given as goal

abbrev pub invariant-loop-area : goal.invariant-loop-area
invariant-loop-area l =
    IsLeast (λ i. in_areas (areas_in (take l.area-index l.area-items)) (l.block.span.start.0 + 8 * i)) l.from (l.block.span.size / 8) l.least
