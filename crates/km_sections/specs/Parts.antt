use Rattle.std.specs.Prelude.{◌*◌}
use Rattle.km_base.specs.declared.sizes.TheConstants.{PAGE}
use Rattle.km_model.specs.Placement.{Allocation, SectionRun}
use Rattle.km_sections.specs.declared.sections.Part.{Part}

-- the pages of a section
abbrev pub allocation : Part → Allocation
allocation part = record { «use» = SectionRun part.name; start = part.start.0; size = PAGE * part.pages }
