use Rattle.std.specs.Prelude.{ℕ, List, codes}

abbrev pub script : List ℕ
script = codes "memory 4096\nno_scan 0xffff888000000000\nsection data 6\nwrite stack=off\nbegin\nwrite scan\nkmalloc 8\nkfree 0xffff888000002000\nkmalloc 64\nread\nwrite scan\nstore 0xffff888000002028 0xffff88800000201b\nkfree 0xffff888000002000\nstore 0xffff888000001020 0xffff888000001023\nstore 0xffff888000001020 0x0\nkmalloc 24\nkmalloc 24\nkmalloc 24\nstore 0xffff888000001020 0xffff888000002013\nkmalloc 16\nstore 0xffff888000002050 0xffff88800000300f\nkfree 0xffff888000002040\nkfree 0xffff888000003000\nkmalloc 8\nkmalloc 8\nstore 0xffff888000003008 0xffff888000002018\nfinish\nread\nwrite scan\ntick 1000\nkmalloc 64\nwrite scan\ntick 1\nkfree 0xffff888000004000\nwrite scan\nbegin\nstep 6\nwrite scan\nfinish\ntick 1000\nwrite scan\nwrite scan\nread\nwrite dump=0xffff888000000000\nwrite dump=0xffff888000001000\nwrite dump=0xffff888000002000\nwrite dump=0xffff888000002020\nwrite dump=0xffff888000003000\nwrite dump=0xffff888000003008\n"

abbrev pub report : List ℕ
report = codes "refused: busy with scan 1\nkmalloc 0xffff888000002000\nkmalloc 0xffff888000002000\nrefused: busy with scan 1\nrefused: busy with scan 1\nkmalloc 0xffff888000002000\nkmalloc 0xffff888000002020\nkmalloc 0xffff888000002040\nkmalloc 0xffff888000003000\nkmalloc 0xffff888000003000\nkmalloc 0xffff888000003008\nkmalloc 0xffff888000004000\nkmemleak: 3 new suspected memory leaks (see /sys/kernel/debug/kmemleak)\nrefused: busy with scan 5\nunreferenced object 0xffff888000002020 (size 32):\n  allocated at 0 ms, age 2001 ms\n  hex dump (first 32 bytes):\n    00 00 00 00 00 00 00 00 1b 20 00 00 80 88 ff ff\n    00 00 00 00 00 00 00 00 00 00 00 00 00 00 00 00\nunreferenced object 0xffff888000003000 (size 8):\n  allocated at 0 ms, age 2001 ms\n  hex dump (first 8 bytes):\n    00 00 00 00 00 00 00 00\nunreferenced object 0xffff888000003008 (size 8):\n  allocated at 0 ms, age 2001 ms\n  hex dump (first 8 bytes):\n    18 20 00 00 80 88 ff ff\nkmemleak: Object 0xffff888000000000 (size 4096):\nkmemleak:   allocated at 0 ms\nkmemleak:   min_count = 0\nkmemleak:   count = 0\nkmemleak:   flags = 0x5\nkmemleak:   checksum = none\nkmemleak: Object 0xffff888000001000 (size 48):\nkmemleak:   allocated at 0 ms\nkmemleak:   min_count = 0\nkmemleak:   count = 0\nkmemleak:   flags = 0x1\nkmemleak:   checksum = none\nkmemleak: Object 0xffff888000002000 (size 32):\nkmemleak:   allocated at 0 ms\nkmemleak:   min_count = 1\nkmemleak:   count = 1\nkmemleak:   flags = 0x1\nkmemleak:   checksum = none\nkmemleak: Object 0xffff888000002020 (size 32):\nkmemleak:   allocated at 0 ms\nkmemleak:   min_count = 1\nkmemleak:   count = 0\nkmemleak:   flags = 0x3\nkmemleak:   checksum = 0xfe3f688000db29e2\nkmemleak: Object 0xffff888000003000 (size 8):\nkmemleak:   allocated at 0 ms\nkmemleak:   min_count = 1\nkmemleak:   count = 0\nkmemleak:   flags = 0x3\nkmemleak:   checksum = 0x00000000000000d9\nkmemleak: Object 0xffff888000003008 (size 8):\nkmemleak:   allocated at 0 ms\nkmemleak:   min_count = 1\nkmemleak:   count = 0\nkmemleak:   flags = 0x3\nkmemleak:   checksum = 0xffff8880000020f1\n"
