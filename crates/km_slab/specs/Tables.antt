use Rattle.km_slab.specs.declared.table.Table.{Table}
use Rattle.km_slab.specs.Blocks.{Sheets, AreMarks}

-- the slab pages of a table
abbrev pub sheets : Table → Sheets
sheets t = record { classes = t.classes.items; live = t.live }

-- its marks are those of these pages
abbrev pub IsKept : Table → Type 0
IsKept t = AreMarks t.classes.items t.free t.live t.opened t.row
