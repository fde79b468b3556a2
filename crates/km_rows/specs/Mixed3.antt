use Rattle.std.specs.Prelude.{ℕ, List, codes}

abbrev pub script : List ℕ
script = codes "memory 4096\nno_scan 0xffff888000000000\nsection data 6\nwrite stack=off\nbegin\nfinish\nbegin\nfinish\nstore 0xffff888000001008 0xffff88800000101f\ntick 300\nstore 0xffff888000001020 0xffff888000001007\ntick 1500\nwrite scan\nkmalloc 8\nkfree 0xffff888000002000\nbegin\nstore 0xffff888000001010 0xffff888000001020\nwrite scan\nstep 4\nstore 0xffff888000001000 0x0\nstore 0xffff888000001008 0xffff888000001013\nfinish\ntick 999\nbegin\nkmalloc 8\nwrite dump=0xffff888000002000\nwrite dump=0xffff888000002000\nstore 0xffff888000001010 0xffff888000001013\nkmalloc 24\nfinish\nkmalloc 8\nstore 0xffff888000002000 0xffff888000002000\nbegin\nstore 0xffff888000001000 0xffff888000003008\nscan_area 0xffff888000002000 8\nignore 0xffff888000002000\nscan_area 0xffff888000002000 24\nstore 0xffff888000002008 0xffff888000002003\nfinish\ntick 1000\nwrite scan\nwrite scan\nread\nwrite dump=0xffff888000000000\nwrite dump=0xffff888000001000\nwrite dump=0xffff888000002000\nwrite dump=0xffff888000003000\nwrite dump=0xffff888000002008\n"

abbrev pub report : List ℕ
report = codes "kmalloc 0xffff888000002000\nrefused: busy with scan 4\nkmalloc 0xffff888000002000\nrefused: busy with scan 5\nrefused: busy with scan 5\nkmalloc 0xffff888000003000\nkmalloc 0xffff888000002008\nrefused: area not inside the object\nkmemleak: 1 new suspected memory leaks (see /sys/kernel/debug/kmemleak)\nunreferenced object 0xffff888000002008 (size 8):\n  allocated at 2799 ms, age 1000 ms\n  hex dump (first 8 bytes):\n    03 20 00 00 80 88 ff ff\nkmemleak: Object 0xffff888000000000 (size 4096):\nkmemleak:   allocated at 0 ms\nkmemleak:   min_count = 0\nkmemleak:   count = 0\nkmemleak:   flags = 0x5\nkmemleak:   checksum = none\nkmemleak: Object 0xffff888000001000 (size 48):\nkmemleak:   allocated at 0 ms\nkmemleak:   min_count = 0\nkmemleak:   count = 0\nkmemleak:   flags = 0x1\nkmemleak:   checksum = none\nkmemleak: Object 0xffff888000002000 (size 8):\nkmemleak:   allocated at 2799 ms\nkmemleak:   min_count = -1\nkmemleak:   count = 0\nkmemleak:   flags = 0x5\nkmemleak:   checksum = 0x00000000000000d9\nkmemleak: Object 0xffff888000003000 (size 32):\nkmemleak:   allocated at 2799 ms\nkmemleak:   min_count = 1\nkmemleak:   count = 1\nkmemleak:   flags = 0x1\nkmemleak:   checksum = 0x000000000062a487\nkmemleak: Object 0xffff888000002008 (size 8):\nkmemleak:   allocated at 2799 ms\nkmemleak:   min_count = 1\nkmemleak:   count = 0\nkmemleak:   flags = 0x3\nkmemleak:   checksum = 0xffff8880000020dc\n"
