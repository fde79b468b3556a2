use Rattle.std.specs.Prelude.{◌≡◌, ℕ, ◌<◌, ◌≤◌, false, List, [], ◌∷◌, bytes_eq}
use Rattle.std.specs.List.{AllPairs}
use Rattle.km_model.specs.Tasks.{Task}
use Rattle.km_tasks.specs.declared.tasks.Live.{Live}

-- a live task, as its definition has it
abbrev pub task : Live → Task
task live = record { number = live.number; name = live.name; stack = live.stack.0; registers = live.registers }

-- no two live tasks have one name
abbrev pub AreNamed : List Task → Type 0
AreNamed tasks = AllPairs (λ (t u : Task). bytes_eq u.name t.name ≡ false) tasks

-- the numbers of live tasks rise, above one number and up to another
abbrev pub AreNumbered : ℕ → List Task → ℕ → Type 0
AreNumbered low [] high = low ≤ high
AreNumbered low (t ∷ tasks) high = (low < t.number) × AreNumbered t.number tasks high
