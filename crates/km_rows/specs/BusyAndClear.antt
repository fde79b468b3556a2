use Rattle.std.specs.Prelude.{ℕ, List, codes}

abbrev pub script : List ℕ
script = codes "memory 4096\nscan_area 0xffff888000000000 8\nkmalloc 64\ntick 1000\nwrite scan\nwrite scan\nbegin\nread\nwrite clear\nfinish\nwrite clear\nread\nwrite scan\nread\n"

abbrev pub report : List ℕ
report = codes "kmalloc 0xffff888000001000\nkmemleak: 1 new suspected memory leaks (see /sys/kernel/debug/kmemleak)\nrefused: busy with scan 3\nrefused: busy with scan 3\n"
