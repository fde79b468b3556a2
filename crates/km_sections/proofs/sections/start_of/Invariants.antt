use Rattle.std.proofs.Common.{◌≡◌, drop, map}
use Rattle.km_model.specs.World.{section_named}
use Rattle.km_sections.specs.Parts.{allocation}
use Rattle.km_sections.proofs.sections.start_of.Given as goal

abbrev pub invariant-loop-part : goal.invariant-loop-part
invariant-loop-part l = section_named (map allocation (drop l.part-index l.parts)) l.name ≡ section_named (map allocation l.parts) l.name
