use Rattle.std.specs.Prelude.{ℕ, List, codes}

abbrev pub script : List ℕ
script = codes "memory 4194304\nkmalloc 8\n"

abbrev pub report : List ℕ
report = codes "kmalloc 0xffff888000001000\n"
