use Rattle.std.specs.Prelude.{ℕ, List, codes}

abbrev pub script : List ℕ
script = codes "memory 4096\nscan_area 0xffff888000000000 8\nkmalloc 64\nwrite scan\ntick 999\nwrite scan\nread\ntick 1\nwrite scan\nread\n"

abbrev pub report : List ℕ
report = codes "kmalloc 0xffff888000001000\nkmemleak: 1 new suspected memory leaks (see /sys/kernel/debug/kmemleak)\nunreferenced object 0xffff888000001000 (size 64):\n  allocated at 0 ms, age 1000 ms\n  hex dump (first 32 bytes):\n    00 00 00 00 00 00 00 00 00 00 00 00 00 00 00 00\n    00 00 00 00 00 00 00 00 00 00 00 00 00 00 00 00\n"
