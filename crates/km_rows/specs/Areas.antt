use Rattle.std.specs.Prelude.{ℕ, List, codes}

abbrev pub script : List ℕ
script = codes "memory 4096\nsection data 1\nkmalloc 256\nkmalloc 64\nstore data 0xffff888000002000\nstore 0xffff888000002040 0xffff888000003000\nscan_area 0xffff888000002000 8\nscan_area 0xffff888000002010 8\nscan_area 0xffff888000002020 8\nscan_area 0xffff888000002020 16\nscan_area 0xffff8880000020f8 16\nscan_area 0xffff888000002030 8\nscan_area 0xffff888000002080 8\ntick 1000\nwrite scan\nwrite scan\nread\n"

abbrev pub report : List ℕ
report = codes "kmalloc 0xffff888000002000\nkmalloc 0xffff888000003000\nrefused: area overlaps\nrefused: area not inside the object\nrefused: too many areas\nkmemleak: 1 new suspected memory leaks (see /sys/kernel/debug/kmemleak)\nunreferenced object 0xffff888000003000 (size 64):\n  allocated at 0 ms, age 1000 ms\n  hex dump (first 32 bytes):\n    00 00 00 00 00 00 00 00 00 00 00 00 00 00 00 00\n    00 00 00 00 00 00 00 00 00 00 00 00 00 00 00 00\n"
