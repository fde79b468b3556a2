use Rattle.std.specs.Prelude.{ℕ, List, codes}

abbrev pub script : List ℕ
script = codes "memory 4096\nsection data 1\nkmalloc 64\nkmalloc 64\nstore data 0xffff888000002000\ntick 1000\nwrite scan\nstore 0xffff888000002000 0xffff888000002040\nbegin\nstep 513\nkfree 0xffff888000002000\nkmalloc 64\nstep 1\nstore 0xffff888000002000 0\nfinish\nread\n"

abbrev pub report : List ℕ
report = codes "kmalloc 0xffff888000002000\nkmalloc 0xffff888000002040\nkmalloc 0xffff888000002000\nkmemleak: 1 new suspected memory leaks (see /sys/kernel/debug/kmemleak)\nunreferenced object 0xffff888000002040 (size 64):\n  allocated at 0 ms, age 1000 ms\n  hex dump (first 32 bytes):\n    00 00 00 00 00 00 00 00 00 00 00 00 00 00 00 00\n    00 00 00 00 00 00 00 00 00 00 00 00 00 00 00 00\n"
