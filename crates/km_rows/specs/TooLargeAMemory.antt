use Rattle.std.specs.Prelude.{ℕ, List, codes}

abbrev pub script : List ℕ
script = codes "memory 4194816\n"

abbrev pub report : List ℕ
report = codes "not a command: line 1, column 8\n"
