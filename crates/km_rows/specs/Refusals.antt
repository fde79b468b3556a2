use Rattle.std.specs.Prelude.{ℕ, List, codes}

abbrev pub script : List ℕ
script = codes "memory 4096\ntask t\ntask t\nexit u\nsection data 0\nsection data 4097\nsection data 8\nsection data 8\nsection vmap 8\nload t.r0 data+4\nload t.r0 0\nstore heap 1\nload u.r0 data\nnot_leak data+8\nstep 1\nwrite scan=x\nfreepages data\nvfree data\nstore data 7\nload t.r0 data\nprint t.r0+1\n"

abbrev pub report : List ℕ
report = codes "refused: task exists\nrefused: no such task\nrefused: bad size\nrefused: bad size\nrefused: section exists\nrefused: section exists\nrefused: bad address\nrefused: bad address\nrefused: no such section\nrefused: no such task\nrefused: no object\nrefused: no scan running\nrefused: invalid\nrefused: not allocated\nrefused: not allocated\n0x0000000000000008\n"
