use Rattle.std.specs.Prelude.{ℕ, List, codes}

abbrev pub script : List ℕ
script = codes "memory 4096\nno_scan 0xffff888000000000\nsection data 6\nstore 0xffff888000001000 0xffff88800000101f\nwrite scan\nkmalloc 8\nstore 0xffff888000001028 0xffff888000002000\nkfree 0xffff888000002000\nwrite scan\ntick 1\ntick 999\nstore 0xffff888000001000 0x0\nkmalloc 16\nnot_leak 0xffff888000002000\nkmalloc 64\ntick 1\nbegin\nstep 5\nkfree 0xffff888000003000\nscan_area 0xffff888000002000 8\nstep 6\nkmalloc 8\nbegin\ntick 1\nkfree 0xffff888000002000\ntick 1\nkfree 0xffff888000003000\nkmalloc 8\nstore 0xffff888000001018 0xffff888000001028\nscan_area 0xffff888000002000 8\nfinish\nscan_area 0xffff888000002000 24\nkmalloc 64\ntick 300\nkmalloc 8\ntick 1500\nkfree 0xffff888000003000\ntick 1000\nwrite scan\nwrite scan\nread\nwrite dump=0xffff888000000000\nwrite dump=0xffff888000001000\nwrite dump=0xffff888000002000\nwrite dump=0xffff888000002008\n"

abbrev pub report : List ℕ
report = codes "kmalloc 0xffff888000002000\nkmalloc 0xffff888000002000\nkmalloc 0xffff888000003000\nkmalloc 0xffff888000003000\nkmalloc 0xffff888000002000\nrefused: area not inside the object\nkmalloc 0xffff888000003000\nkmalloc 0xffff888000002008\nkmemleak: 1 new suspected memory leaks (see /sys/kernel/debug/kmemleak)\nunreferenced object 0xffff888000002008 (size 8):\n  allocated at 1303 ms, age 2500 ms\n  hex dump (first 8 bytes):\n    00 00 00 00 00 00 00 00\nkmemleak: Object 0xffff888000000000 (size 4096):\nkmemleak:   allocated at 0 ms\nkmemleak:   min_count = 0\nkmemleak:   count = 0\nkmemleak:   flags = 0x5\nkmemleak:   checksum = none\nkmemleak: Object 0xffff888000001000 (size 48):\nkmemleak:   allocated at 0 ms\nkmemleak:   min_count = 0\nkmemleak:   count = 0\nkmemleak:   flags = 0x1\nkmemleak:   checksum = none\nkmemleak: Object 0xffff888000002000 (size 8):\nkmemleak:   allocated at 1003 ms\nkmemleak:   min_count = 1\nkmemleak:   count = 1\nkmemleak:   flags = 0x1\nkmemleak:   checksum = none\nkmemleak: Object 0xffff888000002008 (size 8):\nkmemleak:   allocated at 1303 ms\nkmemleak:   min_count = 1\nkmemleak:   count = 0\nkmemleak:   flags = 0x3\nkmemleak:   checksum = 0x00000000000000d9\n"
