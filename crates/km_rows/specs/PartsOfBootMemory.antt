use Rattle.std.specs.Prelude.{ℕ, List, codes}

abbrev pub script : List ℕ
script = codes "memory 4096\nscan_area 0xffff888000000000 8\nbootmem 64\nkmalloc 64\nkmalloc 64\nstore 0xffff888000001010 0xffff888000002000\nstore 0xffff888000001030 0xffff888000002040\ntick 1000\nwrite scan\nwrite scan\nread\nfree_part 0xffff888000001028 16\nwrite scan\nwrite scan\nread\n"

abbrev pub report : List ℕ
report = codes "bootmem 0xffff888000001000\nkmalloc 0xffff888000002000\nkmalloc 0xffff888000002040\nkmemleak: 1 new suspected memory leaks (see /sys/kernel/debug/kmemleak)\nunreferenced object 0xffff888000002040 (size 64):\n  allocated at 0 ms, age 1000 ms\n  hex dump (first 32 bytes):\n    00 00 00 00 00 00 00 00 00 00 00 00 00 00 00 00\n    00 00 00 00 00 00 00 00 00 00 00 00 00 00 00 00\n"
