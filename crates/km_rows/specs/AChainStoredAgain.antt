use Rattle.std.specs.Prelude.{ℕ, List, codes}

abbrev pub script : List ℕ
script = codes "memory 4096\nsection data 1\nkmalloc 16\nkmalloc 16\nkmalloc 16\nstore data 0xffff888000002000\nstore 0xffff888000002000 0xffff888000002010\nstore 0xffff888000002010 0xffff888000002020\ntick 1000\nbegin\nstep 513\nstore 0xffff888000002000 0xffff888000002010\nfinish\nwrite scan\nread\n"

abbrev pub report : List ℕ
report = codes "kmalloc 0xffff888000002000\nkmalloc 0xffff888000002010\nkmalloc 0xffff888000002020\n"
