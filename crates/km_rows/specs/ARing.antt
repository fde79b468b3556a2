use Rattle.std.specs.Prelude.{ℕ, List, codes}

abbrev pub script : List ℕ
script = codes "memory 4096\nscan_area 0xffff888000000000 8\nkmalloc 32\nkmalloc 32\nkmalloc 32\nstore 0xffff888000001000 0xffff888000001020\nstore 0xffff888000001028 0xffff888000001000\nstore 0xffff888000001040 0xffff888000001050\ntick 1000\nwrite scan\nwrite scan\nread\n"

abbrev pub report : List ℕ
report = codes "kmalloc 0xffff888000001000\nkmalloc 0xffff888000001020\nkmalloc 0xffff888000001040\nkmemleak: 3 new suspected memory leaks (see /sys/kernel/debug/kmemleak)\nunreferenced object 0xffff888000001000 (size 32):\n  allocated at 0 ms, age 1000 ms\n  hex dump (first 32 bytes):\n    20 10 00 00 80 88 ff ff 00 00 00 00 00 00 00 00\n    00 00 00 00 00 00 00 00 00 00 00 00 00 00 00 00\nunreferenced object 0xffff888000001020 (size 32):\n  allocated at 0 ms, age 1000 ms\n  hex dump (first 32 bytes):\n    00 00 00 00 00 00 00 00 00 10 00 00 80 88 ff ff\n    00 00 00 00 00 00 00 00 00 00 00 00 00 00 00 00\nunreferenced object 0xffff888000001040 (size 32):\n  allocated at 0 ms, age 1000 ms\n  hex dump (first 32 bytes):\n    50 10 00 00 80 88 ff ff 00 00 00 00 00 00 00 00\n    00 00 00 00 00 00 00 00 00 00 00 00 00 00 00 00\n"
