use Rattle.std.specs.Prelude.{ℕ, List, codes}

abbrev pub script : List ℕ
script = codes "memory 4096\nno_scan 0xffff888000000000\nsection data 6\nkmalloc 64\nstore 0xffff888000002028 0xffff888000002017\nstore 0xffff888000001000 0xffff88800000201b\nstore 0xffff888000001000 0xffff88800000200b\ntick 1500\nwrite dump=0xffff888000002000\nkfree 0xffff888000002000\nread\ntick 999\nwrite scan\nbegin\nfinish\nread\nwrite scan\ntick 1000\nwrite clear\nbegin\nfinish\ntick 1000\nread\ntick 999\nwrite scan\nkmalloc 32\ntick 1\ntick 1\nstore 0xffff888000001008 0x0\nstore 0xffff888000002010 0xffff888000001000\nread\nstore 0xffff888000001028 0xffff888000002017\nkmalloc 40\nscan_area 0xffff888000003038 24\nwrite dump=0xffff888000002000\nkmalloc 8\nstore 0xffff888000001018 0xffff888000003008\ntick 1000\nwrite scan\nwrite scan\nread\nwrite dump=0xffff888000000000\nwrite dump=0xffff888000001000\nwrite dump=0xffff888000002000\nwrite dump=0xffff888000003000\nwrite dump=0xffff888000004000\n"

abbrev pub report : List ℕ
report = codes "kmalloc 0xffff888000002000\nkmemleak: Object 0xffff888000002000 (size 64):\nkmemleak:   allocated at 0 ms\nkmemleak:   min_count = 1\nkmemleak:   count = 0\nkmemleak:   flags = 0x1\nkmemleak:   checksum = none\nkmalloc 0xffff888000002000\nkmalloc 0xffff888000003000\nrefused: area not inside the object\nkmemleak: Object 0xffff888000002000 (size 32):\nkmemleak:   allocated at 5498 ms\nkmemleak:   min_count = 1\nkmemleak:   count = 0\nkmemleak:   flags = 0x1\nkmemleak:   checksum = none\nkmalloc 0xffff888000004000\nkmemleak: 1 new suspected memory leaks (see /sys/kernel/debug/kmemleak)\nunreferenced object 0xffff888000004000 (size 8):\n  allocated at 5500 ms, age 1000 ms\n  hex dump (first 8 bytes):\n    00 00 00 00 00 00 00 00\nkmemleak: Object 0xffff888000000000 (size 4096):\nkmemleak:   allocated at 0 ms\nkmemleak:   min_count = 0\nkmemleak:   count = 0\nkmemleak:   flags = 0x5\nkmemleak:   checksum = none\nkmemleak: Object 0xffff888000001000 (size 48):\nkmemleak:   allocated at 0 ms\nkmemleak:   min_count = 0\nkmemleak:   count = 0\nkmemleak:   flags = 0x1\nkmemleak:   checksum = none\nkmemleak: Object 0xffff888000002000 (size 32):\nkmemleak:   allocated at 5498 ms\nkmemleak:   min_count = 1\nkmemleak:   count = 1\nkmemleak:   flags = 0x1\nkmemleak:   checksum = none\nkmemleak: Object 0xffff888000003000 (size 64):\nkmemleak:   allocated at 5500 ms\nkmemleak:   min_count = 1\nkmemleak:   count = 1\nkmemleak:   flags = 0x1\nkmemleak:   checksum = none\nkmemleak: Object 0xffff888000004000 (size 8):\nkmemleak:   allocated at 5500 ms\nkmemleak:   min_count = 1\nkmemleak:   count = 0\nkmemleak:   flags = 0x3\nkmemleak:   checksum = 0x00000000000000d9\n"
