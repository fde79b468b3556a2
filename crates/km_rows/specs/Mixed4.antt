use Rattle.std.specs.Prelude.{ℕ, List, codes}

abbrev pub script : List ℕ
script = codes "memory 4096\nno_scan 0xffff888000000000\nsection data 6\nwrite stack=off\nkmalloc 8\ntick 1500\nwrite dump=0xffff888000002000\nscan_area 0xffff888000002000 24\nkmalloc 8\nkmalloc 24\nbegin\nwrite dump=0xffff888000003000\nstore 0xffff888000003010 0x0\nkfree 0xffff888000002008\nstore 0xffff888000003008 0xffff888000001017\nstore 0xffff888000001000 0xffff88800000300b\nfinish\nbegin\nnot_leak 0xffff888000002000\nstore 0xffff888000003008 0xffff888000002000\nkmalloc 40\nstep 4\nkmalloc 16\nstore 0xffff888000001000 0xffff888000002007\nkmalloc 24\nno_scan 0xffff888000004000\nkfree 0xffff888000005000\ntick 1500\ntick 300\nstep 5\nstep 5\nkmalloc 8\nkmalloc 8\ntick 1\nkmalloc 32\nstep 7\nstep 5\nread\nfinish\ntick 1000\nwrite scan\nwrite scan\nread\nwrite dump=0xffff888000000000\nwrite dump=0xffff888000001000\nwrite dump=0xffff888000002000\nwrite dump=0xffff888000003000\nwrite dump=0xffff888000004000\nwrite dump=0xffff888000003020\n"

abbrev pub report : List ℕ
report = codes "kmalloc 0xffff888000002000\nkmemleak: Object 0xffff888000002000 (size 8):\nkmemleak:   allocated at 0 ms\nkmemleak:   min_count = 1\nkmemleak:   count = 0\nkmemleak:   flags = 0x1\nkmemleak:   checksum = none\nrefused: area not inside the object\nkmalloc 0xffff888000002008\nkmalloc 0xffff888000003000\nrefused: busy with scan 1\nkmalloc 0xffff888000004000\nkmalloc 0xffff888000005000\nkmalloc 0xffff888000003020\nkmalloc 0xffff888000002008\nkmalloc 0xffff888000002010\nkmalloc 0xffff888000003040\nrefused: busy with scan 2\nkmemleak: 5 new suspected memory leaks (see /sys/kernel/debug/kmemleak)\nkmemleak: 1 new suspected memory leaks (see /sys/kernel/debug/kmemleak)\nunreferenced object 0xffff888000003000 (size 32):\n  allocated at 1500 ms, age 2801 ms\n  hex dump (first 32 bytes):\n    00 00 00 00 00 00 00 00 00 20 00 00 80 88 ff ff\n    00 00 00 00 00 00 00 00 00 00 00 00 00 00 00 00\nunreferenced object 0xffff888000004000 (size 64):\n  allocated at 1500 ms, age 2801 ms\n  hex dump (first 32 bytes):\n    00 00 00 00 00 00 00 00 00 00 00 00 00 00 00 00\n    00 00 00 00 00 00 00 00 00 00 00 00 00 00 00 00\nunreferenced object 0xffff888000003020 (size 32):\n  allocated at 1500 ms, age 2801 ms\n  hex dump (first 32 bytes):\n    00 00 00 00 00 00 00 00 00 00 00 00 00 00 00 00\n    00 00 00 00 00 00 00 00 00 00 00 00 00 00 00 00\nunreferenced object 0xffff888000002008 (size 8):\n  allocated at 3300 ms, age 1001 ms\n  hex dump (first 8 bytes):\n    00 00 00 00 00 00 00 00\nunreferenced object 0xffff888000002010 (size 8):\n  allocated at 3300 ms, age 1001 ms\n  hex dump (first 8 bytes):\n    00 00 00 00 00 00 00 00\nunreferenced object 0xffff888000003040 (size 32):\n  allocated at 3301 ms, age 1000 ms\n  hex dump (first 32 bytes):\n    00 00 00 00 00 00 00 00 00 00 00 00 00 00 00 00\n    00 00 00 00 00 00 00 00 00 00 00 00 00 00 00 00\nkmemleak: Object 0xffff888000000000 (size 4096):\nkmemleak:   allocated at 0 ms\nkmemleak:   min_count = 0\nkmemleak:   count = 0\nkmemleak:   flags = 0x5\nkmemleak:   checksum = none\nkmemleak: Object 0xffff888000001000 (size 48):\nkmemleak:   allocated at 0 ms\nkmemleak:   min_count = 0\nkmemleak:   count = 0\nkmemleak:   flags = 0x1\nkmemleak:   checksum = none\nkmemleak: Object 0xffff888000002000 (size 8):\nkmemleak:   allocated at 0 ms\nkmemleak:   min_count = 0\nkmemleak:   count = 0\nkmemleak:   flags = 0x1\nkmemleak:   checksum = 0x00000000000000d9\nkmemleak: Object 0xffff888000003000 (size 32):\nkmemleak:   allocated at 1500 ms\nkmemleak:   min_count = 1\nkmemleak:   count = 0\nkmemleak:   flags = 0x3\nkmemleak:   checksum = 0xfe3f688000dac487\nkmemleak: Object 0xffff888000004000 (size 64):\nkmemleak:   allocated at 1500 ms\nkmemleak:   min_count = 1\nkmemleak:   count = 0\nkmemleak:   flags = 0x7\nkmemleak:   checksum = 0x0000056e0ddf0907\nkmemleak: Object 0xffff888000003020 (size 32):\nkmemleak:   allocated at 1500 ms\nkmemleak:   min_count = 1\nkmemleak:   count = 0\nkmemleak:   flags = 0x3\nkmemleak:   checksum = 0x000000000062a487\n"
