use Rattle.std.specs.Prelude.{ℕ, ◌+◌, ◌-◌, nat_lt, [], ◌∷◌, ◌++◌, Option, Some, None, Result, Ok, Err, if◌then◌else◌}
use Rattle.km_base.specs.declared.spans.Span.{Span}
use Rattle.km_model.specs.Blocks.{Block, contains}
use Rattle.km_record.specs.declared.kinds.RecId.{RecId}
use Rattle.km_state.specs.State.{fresh}
use Rattle.km_track.specs.Tracker.{Live, Tracker, id_of, live_where, unregistered_at}
use Rattle.km_free_part.specs.declared.parts.PartFault.{PartFault}
use Rattle.km_free_part.specs.declared.parts.PartFault.TheVariants.{NoObject, NotInside}
use Rattle.km_free_part.specs.declared.parts.Pieces.{Pieces}

-- where the bytes up to an end are in the block that has the first of them: that block
abbrev pub part_in : Option Live → ℕ → Result RecId PartFault
part_in None end = Err NoObject
part_in (Some l) end = if nat_lt (l.tracked.block.start + l.tracked.block.size) end then Err NotInside else Ok (id_of l)

-- the block that a part is of
abbrev pub part_of : Span → Tracker → Result RecId PartFault
part_of part t = part_in (live_where (contains part.start.0) t) (part.start.0 + part.size)

-- what is left of a block, in front of a part and behind it
abbrev pub front_of : Span → Block → Span
front_of part b = record { start = record { 0 = b.start }; size = part.start.0 - b.start }

abbrev pub rear_of : Span → Block → Span
rear_of part b = record { start = record { 0 = part.start.0 + part.size }; size = b.start + b.size - (part.start.0 + part.size) }

-- a block that is registered for a rest of another: of that it has the minimum, the birth and whether its content is
-- scanned
abbrev pub rest_block : ℕ → Span → Block → Block
rest_block id rest b = record {
  id = id;
  start = rest.start.0;
  size = rest.size;
  born = b.born;
  minimum = b.minimum;
  no_scan = b.no_scan;
  areas = [];
  excess = None;
}

-- the tracker with a rest of a block registered last, if it is
abbrev pub rest_registered : Option RecId → Span → Block → Tracker → Tracker
rest_registered None rest b t = t
rest_registered (Some id) rest b t = record {
  live = t.live ++ record { slot = id.slot; tracked = fresh (rest_block t.registered rest b) } ∷ [];
  queue = t.queue;
  registered = t.registered + 1;
  spare = t.spare - 1;
}

-- the tracker without a block, with these of its rests
abbrev pub split_at : Span → Pieces → Block → Tracker → Tracker
split_at part pieces b t =
    rest_registered pieces.rear (rear_of part b) b (rest_registered pieces.front (front_of part b) b (unregistered_at b.start t))
