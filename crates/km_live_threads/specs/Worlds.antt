-- What a core shows of a world.
use Rattle.std.specs.Prelude.{◌≡◌, length}
use Rattle.km_core.specs.Cores.{Seen}
use Rattle.km_model.specs.Members.{Each}
use Rattle.km_model.specs.Tasks.{Task}
use Rattle.km_model.specs.World.{World}
use Rattle.km_sections.specs.Named.{AreSections}

-- a task has four registers
abbrev pub HasFourRegisters : Task → Type 0
HasFourRegisters t = length t.registers ≡ 4

-- the tasks and the sections of a core are those of a world
pub record Shows (c : Seen) (w : World) : Type 0 where
  pub tasks : c.parts.hosts.roll.tasks ≡ w.tasks
  pub registers : Each HasFourRegisters w.tasks
  pub sections : AreSections c.parts.hosts.sections w.used
