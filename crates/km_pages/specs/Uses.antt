use Rattle.std.specs.Prelude.{Bool, true, false}
use Rattle.km_pages.specs.declared.runs.Use.{Use}
use Rattle.km_pages.specs.declared.runs.Use.TheVariants.{Plain, Section, Stack, Slab, Large, Vmalloc, Boot}
use Rattle.km_model.specs.Placement as model

-- whether two uses are one
abbrev pub same_use : Use → Use → Bool
same_use Plain Plain = true
same_use Section Section = true
same_use Stack Stack = true
same_use Slab Slab = true
same_use Large Large = true
same_use Vmalloc Vmalloc = true
same_use Boot Boot = true
same_use _ _ = false

-- what the pages of an allocation are for
abbrev pub use_of : model.Use → Use
use_of model.SlotTable = Section
use_of (model.SectionRun _) = Section
use_of model.StackPage = Stack
use_of model.SlabBlock = Slab
use_of model.LargeRun = Large
use_of model.PlainRun = Plain
use_of model.BootRun = Boot
use_of (model.HeadBlock _) = Slab
use_of (model.AreaRun _) = Vmalloc
