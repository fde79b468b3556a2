use Rattle.std.specs.Prelude.{ℕ, List, codes}

abbrev pub script : List ℕ
script = codes "memory 4096\ntask t\nsection data 2\nkmalloc 64 t.r0\nstore data+8 t.r0\ntick 1000\nbegin\nstep 1025\nload t.r1 data+8\nstore data t.r1\nstore data+8 0\nfinish\nstore data+8 t.r1\nstore data 0\nbegin\nstep 1025\nstore data t.r1\nstore data+8 0\nfinish\nread\n"

abbrev pub report : List ℕ
report = codes "kmalloc 0xffff888000003000\nkmemleak: 1 new suspected memory leaks (see /sys/kernel/debug/kmemleak)\nunreferenced object 0xffff888000003000 (size 64):\n  allocated at 0 ms, age 1000 ms\n  hex dump (first 32 bytes):\n    00 00 00 00 00 00 00 00 00 00 00 00 00 00 00 00\n    00 00 00 00 00 00 00 00 00 00 00 00 00 00 00 00\n"
