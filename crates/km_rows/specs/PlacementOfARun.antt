use Rattle.std.specs.Prelude.{ℕ, List, codes}

abbrev pub script : List ℕ
script = codes "memory 8192\nkmalloc 32768\n"

abbrev pub report : List ℕ
report = codes "kmalloc 0xffff888000001000\n"
