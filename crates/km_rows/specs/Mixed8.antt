use Rattle.std.specs.Prelude.{ℕ, List, codes}

abbrev pub script : List ℕ
script = codes "memory 4096\nno_scan 0xffff888000000000\nsection data 6\nwrite stack=off\nstore 0xffff888000001028 0xffff888000001010\nstore 0xffff888000001008 0x0\nbegin\nread\nfinish\nstore 0xffff888000001000 0x0\ntick 999\ntick 999\nwrite scan\nstore 0xffff888000001008 0x5aff888000001028\nkmalloc 8\nbegin\nstore 0xffff888000002000 0x5aff888000001028\nstep 8\nstore 0xffff888000001020 0x0\nstore 0xffff888000001010 0xff888000002007\nfinish\nkmalloc 16\nstore 0xffff888000002000 0x0\nbootmem 8\nstore 0xffff888000001028 0xff888000002007\nbegin\nstep 1\ntransient_leak 0xffff888000002000\nstore 0xffff888000001008 0x5aff888000002007\nbootmem 40\nkmalloc 32\nscan_area 0xffff888000005008 16\nstore 0xffff888000003008 0xffff888000005020\nkmalloc 16\nignore 0xffff888000006000\nstep 8\nfree_part 0xffff888000004008 16\nkmalloc 40\nfinish\ntick 1000\nwrite scan\nwrite scan\nread\nwrite dump=0xffff888000000000\nwrite dump=0xffff888000001000\nwrite dump=0xffff888000002000\nwrite dump=0xffff888000003000\nwrite dump=0xffff888000004000\nwrite dump=0xffff888000005000\n"

abbrev pub report : List ℕ
report = codes "refused: busy with scan 1\nkmalloc 0xffff888000002000\nkmalloc 0xffff888000003000\nbootmem 0xffff888000004000\nbootmem 0xffff888000005000\nkmalloc 0xffff888000006000\nkmalloc 0xffff888000003010\nrefused: no object\nkmalloc 0xffff888000007000\nkmemleak: 3 new suspected memory leaks (see /sys/kernel/debug/kmemleak)\nunreferenced object 0xffff888000003000 (size 16):\n  allocated at 1998 ms, age 1000 ms\n  hex dump (first 16 bytes):\n    00 00 00 00 00 00 00 00 20 50 00 00 80 88 ff ff\nunreferenced object 0xffff888000003010 (size 16):\n  allocated at 1998 ms, age 1000 ms\n  hex dump (first 16 bytes):\n    00 00 00 00 00 00 00 00 00 00 00 00 00 00 00 00\nunreferenced object 0xffff888000007000 (size 64):\n  allocated at 1998 ms, age 1000 ms\n  hex dump (first 32 bytes):\n    00 00 00 00 00 00 00 00 00 00 00 00 00 00 00 00\n    00 00 00 00 00 00 00 00 00 00 00 00 00 00 00 00\nkmemleak: Object 0xffff888000000000 (size 4096):\nkmemleak:   allocated at 0 ms\nkmemleak:   min_count = 0\nkmemleak:   count = 0\nkmemleak:   flags = 0x5\nkmemleak:   checksum = none\nkmemleak: Object 0xffff888000001000 (size 48):\nkmemleak:   allocated at 0 ms\nkmemleak:   min_count = 0\nkmemleak:   count = 0\nkmemleak:   flags = 0x1\nkmemleak:   checksum = none\nkmemleak: Object 0xffff888000002000 (size 8):\nkmemleak:   allocated at 1998 ms\nkmemleak:   min_count = 1\nkmemleak:   count = 1\nkmemleak:   flags = 0x1\nkmemleak:   checksum = none\nkmemleak: Object 0xffff888000003000 (size 16):\nkmemleak:   allocated at 1998 ms\nkmemleak:   min_count = 1\nkmemleak:   count = 0\nkmemleak:   flags = 0x3\nkmemleak:   checksum = 0xffff888000006a67\nkmemleak: Object 0xffff888000004000 (size 8):\nkmemleak:   allocated at 1998 ms\nkmemleak:   min_count = 0\nkmemleak:   count = 0\nkmemleak:   flags = 0x1\nkmemleak:   checksum = none\nkmemleak: Object 0xffff888000005000 (size 40):\nkmemleak:   allocated at 1998 ms\nkmemleak:   min_count = 0\nkmemleak:   count = 0\nkmemleak:   flags = 0x1\nkmemleak:   checksum = none\n"
