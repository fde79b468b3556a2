use Rattle.std.specs.Prelude.{ℕ, List, codes}

abbrev pub script : List ℕ
script = codes "memory 4096\nno_scan 0xffff888000000000\nsection data 6\nwrite scan\nbegin\nfinish\nbegin\nbootmem 40\nstep 4\nwrite scan\nstep 2\nkmalloc 24\nstore 0xffff888000002000 0xffff88800000101b\nstore 0xffff888000001018 0x5aff88800000201b\nstore 0xffff888000002020 0xff88800000301f\nfinish\nwrite clear\nbegin\nstep 4\nkmalloc 8\nstore 0xffff888000001010 0xffff888000002020\nkmalloc 64\nstep 5\nkfree 0xffff888000002000\nfinish\nkmalloc 8\nbootmem 8\nfree_part 0xffff888000002020 8\nfree_part 0xffff888000002010 16\nkfree 0xffff888000006000\nstore 0xffff888000004000 0xffff888000004008\nbegin\nfree_part 0xffff888000006020 8\nwrite off\nbegin\nwrite dump=0xffff888000002000\nkfree 0xffff888000005000\ntick 1000\nwrite scan\nwrite scan\nread\nwrite dump=0xffff888000000000\nwrite dump=0xffff888000001000\nwrite dump=0xffff888000003000\nwrite dump=0xffff888000004000\nwrite dump=0xffff888000004008\nwrite dump=0xffff888000006000\n"

abbrev pub report : List ℕ
report = codes "bootmem 0xffff888000002000\nrefused: busy with scan 3\nkmalloc 0xffff888000003000\nkmalloc 0xffff888000004000\nkmalloc 0xffff888000005000\nrefused: not allocated\nkmalloc 0xffff888000004008\nbootmem 0xffff888000006000\nrefused: not allocated\nrefused: no object\nkmemleak: scan 5 stopped\nrefused: disabled\nrefused: disabled\nrefused: disabled\nrefused: disabled\nrefused: disabled\nrefused: disabled\nrefused: disabled\nrefused: disabled\nrefused: disabled\nrefused: disabled\n"
