use Rattle.std.specs.Prelude.{ℕ, List, codes}

abbrev pub script : List ℕ
script = codes "memory 4096\nno_scan 0xffff888000000000\nsection data 6\nwrite stack=off\ntask t\nkmalloc 24\nwrite clear\nbegin\nstore 0xffff888000001008 0xff888000003008\nscan_area 0xffff888000003018 16\nbootmem 24\ntick 300\nbootmem 8\nkfree 0xffff888000005000\nstore 0xffff888000003010 0xffff888000005000\nread\nkmalloc 40\nstep 6\ntransient_leak 0xffff888000003000\nwrite scan\nkmalloc 16\nkmalloc 64\nkmalloc 40\nstore 0xffff888000006028 0xffff888000005000\nstore 0xffff888000007008 0xffff888000006058\nkmalloc 64\nno_scan 0xffff888000006000\ntransient_leak 0xffff888000007000\nwrite clear\nfree_part 0xffff888000004020 16\ntick 300\nfinish\nkmalloc 8\ntick 300\nno_scan 0xffff888000005000\ntick 300\nkmalloc 32\ntransient_leak 0xffff888000006040\ntick 1000\ntick 1000\nwrite scan\nwrite scan\nread\nwrite dump=0xffff888000000000\nwrite dump=0xffff888000001000\nwrite dump=0xffff888000003000\nwrite dump=0xffff888000004000\nwrite dump=0xffff888000005000\nwrite dump=0xffff888000006000\n"

abbrev pub report : List ℕ
report = codes "kmalloc 0xffff888000003000\nrefused: area not inside the object\nbootmem 0xffff888000004000\nbootmem 0xffff888000005000\nrefused: not allocated\nrefused: busy with scan 1\nkmalloc 0xffff888000006000\nrefused: busy with scan 1\nkmalloc 0xffff888000007000\nkmalloc 0xffff888000006040\nkmalloc 0xffff888000006080\nkmalloc 0xffff8880000060c0\nrefused: busy with scan 1\nrefused: no object\nrefused: no room\nkmalloc 0xffff888000003020\nkmemleak: 4 new suspected memory leaks (see /sys/kernel/debug/kmemleak)\nkmemleak: 2 new suspected memory leaks (see /sys/kernel/debug/kmemleak)\nunreferenced object 0xffff888000006000 (size 64):\n  allocated at 300 ms, age 2900 ms\n  hex dump (first 32 bytes):\n    00 00 00 00 00 00 00 00 00 00 00 00 00 00 00 00\n    00 00 00 00 00 00 00 00 00 00 00 00 00 00 00 00\nunreferenced object 0xffff888000007000 (size 16):\n  allocated at 300 ms, age 2900 ms\n  hex dump (first 16 bytes):\n    00 00 00 00 00 00 00 00 58 60 00 00 80 88 ff ff\nunreferenced object 0xffff888000006040 (size 64):\n  allocated at 300 ms, age 2900 ms\n  hex dump (first 32 bytes):\n    00 00 00 00 00 00 00 00 00 00 00 00 00 00 00 00\n    00 00 00 00 00 00 00 00 00 00 00 00 00 00 00 00\nunreferenced object 0xffff888000006080 (size 64):\n  allocated at 300 ms, age 2900 ms\n  hex dump (first 32 bytes):\n    00 00 00 00 00 00 00 00 00 00 00 00 00 00 00 00\n    00 00 00 00 00 00 00 00 00 00 00 00 00 00 00 00\nunreferenced object 0xffff8880000060c0 (size 64):\n  allocated at 300 ms, age 2900 ms\n  hex dump (first 32 bytes):\n    00 00 00 00 00 00 00 00 00 00 00 00 00 00 00 00\n    00 00 00 00 00 00 00 00 00 00 00 00 00 00 00 00\nunreferenced object 0xffff888000003020 (size 32):\n  allocated at 1200 ms, age 2000 ms\n  hex dump (first 32 bytes):\n    00 00 00 00 00 00 00 00 00 00 00 00 00 00 00 00\n    00 00 00 00 00 00 00 00 00 00 00 00 00 00 00 00\nkmemleak: Object 0xffff888000000000 (size 4096):\nkmemleak:   allocated at 0 ms\nkmemleak:   min_count = 0\nkmemleak:   count = 0\nkmemleak:   flags = 0x5\nkmemleak:   checksum = none\nkmemleak: Object 0xffff888000001000 (size 48):\nkmemleak:   allocated at 0 ms\nkmemleak:   min_count = 0\nkmemleak:   count = 0\nkmemleak:   flags = 0x1\nkmemleak:   checksum = none\nkmemleak: Object 0xffff888000003000 (size 32):\nkmemleak:   allocated at 0 ms\nkmemleak:   min_count = 1\nkmemleak:   count = 1\nkmemleak:   flags = 0x1\nkmemleak:   checksum = none\nkmemleak: Object 0xffff888000004000 (size 24):\nkmemleak:   allocated at 0 ms\nkmemleak:   min_count = 0\nkmemleak:   count = 0\nkmemleak:   flags = 0x1\nkmemleak:   checksum = none\nkmemleak: Object 0xffff888000005000 (size 8):\nkmemleak:   allocated at 300 ms\nkmemleak:   min_count = 0\nkmemleak:   count = 0\nkmemleak:   flags = 0x5\nkmemleak:   checksum = none\nkmemleak: Object 0xffff888000006000 (size 64):\nkmemleak:   allocated at 300 ms\nkmemleak:   min_count = 1\nkmemleak:   count = 0\nkmemleak:   flags = 0x7\nkmemleak:   checksum = 0xfe3f6dee0f0b5907\n"
