use Rattle.std.specs.Prelude.{ℕ, List, codes}

abbrev pub script : List ℕ
script = codes "memory 4096\nkmalloc 64\ntick 1000\nwrite scan\nread\nwrite scan\nread\n"

abbrev pub report : List ℕ
report = codes "kmalloc 0xffff888000001000\nkmemleak: 1 new suspected memory leaks (see /sys/kernel/debug/kmemleak)\nunreferenced object 0xffff888000001000 (size 64):\n  allocated at 0 ms, age 1000 ms\n  hex dump (first 32 bytes):\n    00 00 00 00 00 00 00 00 00 00 00 00 00 00 00 00\n    00 00 00 00 00 00 00 00 00 00 00 00 00 00 00 00\n"
