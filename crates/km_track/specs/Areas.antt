use Rattle.std.specs.Prelude.{ℕ, Option, Some, None, Result, Ok, Err}
use Rattle.km_record.specs.declared.kinds.AreaFault.{AreaFault}
use Rattle.km_record.specs.declared.kinds.AreaFault.TheVariants as fault
use Rattle.km_record.specs.Records.{area_fault}
use Rattle.km_track.specs.declared.faults.AreaRefusal.{AreaRefusal}
use Rattle.km_track.specs.declared.faults.AreaRefusal.TheVariants.{NoObject, NotInside, AreaOverlap, TooManyAreas}
use Rattle.km_track.specs.Tracker.{Live}

-- the refusal that a fault is
abbrev pub refusal_of : AreaFault → AreaRefusal
refusal_of fault.NotInside = NotInside
refusal_of fault.AreaOverlap = AreaOverlap
refusal_of fault.TooManyAreas = TooManyAreas

-- done, or the refusal that a fault is
abbrev pub unless_refused : Option AreaFault → Result (Unit {0}) AreaRefusal
unless_refused None = Ok tt
unless_refused (Some fault) = Err (refusal_of fault)

-- the answer to an added area, by the block that has its first byte
abbrev pub area_answer : Option Live → ℕ → ℕ → Result (Unit {0}) AreaRefusal
area_answer None a size = Err NoObject
area_answer (Some l) a size = unless_refused (area_fault l.tracked.block a size)
