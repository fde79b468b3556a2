use Rattle.std.specs.Prelude.{ℕ, List, codes}

abbrev pub script : List ℕ
script = codes "memory 1024\nkmalloc 8\nwrite scan\nwrite dump=0xffff888000001007\nwrite dump=0xffff888000001008\nwrite dump=zz\n"

abbrev pub report : List ℕ
report = codes "kmalloc 0xffff888000001000\nkmemleak: Object 0xffff888000001000 (size 8):\nkmemleak:   allocated at 0 ms\nkmemleak:   min_count = 1\nkmemleak:   count = 1\nkmemleak:   flags = 0x1\nkmemleak:   checksum = 0x00000000000000d9\nrefused: no object\nrefused: invalid\n"
