use Rattle.std.proofs.Common.{codes, refl}
use Rattle.std.specs.Fmt.{digits}
use Rattle.km_model.specs.Output.{IsOut}
use Rattle.km_model.specs.Answers.{answer}
use Rattle.km_model.specs.Scan.{next}
use Rattle.km_model.specs.Grammar.{line_by}
use Rattle.km_model.specs.Changes.{world_after_act}

-- the page of slots isn't scanned here, so that scans are short
listed_after_two_scans : IsOut (codes "memory 1024\nno_scan 0xffff888000000000\nkmalloc 64\ntick 1000\nwrite scan\nread\nwrite scan\nread\n") (codes "kmalloc 0xffff888000001000\nkmemleak: 1 new suspected memory leaks (see /sys/kernel/debug/kmemleak)\nunreferenced object 0xffff888000001000 (size 64):\n  allocated at 0 ms, age 1000 ms\n  hex dump (first 32 bytes):\n    00 00 00 00 00 00 00 00 00 00 00 00 00 00 00 00\n    00 00 00 00 00 00 00 00 00 00 00 00 00 00 00 00\n")
unfolding digits answer next line_by world_after_act
listed_after_two_scans = (_, (_, _, _, (refl, refl), (_, _, _, (_, refl, refl, refl), (_, _, _, (_, refl, refl, refl), (_, _, _, (_, (0, (refl, refl)), refl, refl), (_, _, _, (_, (16, refl, refl), refl, refl), (_, _, _, (_, refl, refl, refl), (_, _, _, (_, (8, refl, refl), refl, refl), (_, _, _, (_, refl, refl, refl), (refl, refl), refl), refl), refl), refl), refl), refl), refl), refl))

-- the first automatic scan comes after a minute, the second after ten more
automatic_scans : IsOut (codes "memory 1024\nno_scan 0xffff888000000000\nkmalloc 8\ntick 60000\ntick 599999\nread\ntick 1\nread\nwrite scan=1\ntick 2500\nwrite dump=0xffff888000001000\n") (codes "kmalloc 0xffff888000001000\nkmemleak: 1 new suspected memory leaks (see /sys/kernel/debug/kmemleak)\nunreferenced object 0xffff888000001000 (size 8):\n  allocated at 0 ms, age 660000 ms\n  hex dump (first 8 bytes):\n    00 00 00 00 00 00 00 00\nkmemleak: Object 0xffff888000001000 (size 8):\nkmemleak:   allocated at 0 ms\nkmemleak:   min_count = 1\nkmemleak:   count = 0\nkmemleak:   flags = 0x3\nkmemleak:   checksum = 0x00000000000000d9\n")
unfolding digits answer next line_by world_after_act
automatic_scans = (_, (_, _, _, (refl, refl), (_, _, _, (_, refl, refl, refl), (_, _, _, (_, refl, refl, refl), (_, _, _, (_, (1, (_, refl, _, (2, refl, refl), (refl, refl))), refl, refl), (_, _, _, (_, (0, (refl, refl)), refl, refl), (_, _, _, (_, refl, refl, refl), (_, _, _, (_, (1, (_, refl, _, (1, refl, refl), (refl, refl))), refl, refl), (_, _, _, (_, refl, refl, refl), (_, _, _, (_, refl, refl, refl), (_, _, _, (_, (2, (_, refl, _, (1, refl, refl), (_, refl, _, (1, refl, refl), (refl, refl)))), refl, refl), (_, _, _, (_, refl, refl, refl), (refl, refl), refl), refl), refl), refl), refl), refl), refl), refl), refl), refl), refl))

-- allocations of each host, and what their lines store
each_host : IsOut (codes "memory 4096\nscan_area 0xffff888000000000 8\ntask t\nwrite stack=off\nkzalloc 12 t.r0\npages 2 t.r1\nprint t.r1+8\nfreepages t.r1\nfreepages t.r1\nvmalloc 8 t.r2\nload t.r3 0xffff888000002018\nprint t.r3\nload t.r3 0xffff888000000000\nprint t.r3\nkfree t.r3\nvfree t.r2\nload t.r3 0xffff888000000000\nprint t.r3\nvfree t.r2\nkfree t.r0\nexit t\nprint t.r0\nexit t\n") (codes "kzalloc 0xffff888000002000\npages 0xffff888000003000\n0xffff888000003008\nrefused: not allocated\nvmalloc 0xffff888000004000\n0x0000000000000000\n0xffff888000003000\nrefused: not allocated\n0x0000000000000000\nrefused: not allocated\nrefused: no such task\nrefused: no such task\n")
unfolding digits answer next line_by world_after_act
each_host = (_, (_, _, _, (refl, refl), (_, _, _, (_, refl, refl, refl), (_, _, _, (_, refl, refl, refl), (_, _, _, (_, refl, refl, refl), (_, _, _, (_, refl, refl, refl), (_, _, _, (_, refl, refl, refl), (_, _, _, (_, refl, refl, refl), (_, _, _, (_, refl, refl, refl), (_, _, _, (_, refl, refl, refl), (_, _, _, (_, refl, refl, refl), (_, _, _, (_, refl, refl, refl), (_, _, _, (_, refl, refl, refl), (_, _, _, (_, refl, refl, refl), (_, _, _, (_, refl, refl, refl), (_, _, _, (_, refl, refl, refl), (_, _, _, (_, refl, refl, refl), (_, _, _, (_, refl, refl, refl), (_, _, _, (_, refl, refl, refl), (_, _, _, (_, refl, refl, refl), (_, _, _, (_, refl, refl, refl), (_, _, _, (_, refl, refl, refl), (_, _, _, (_, refl, refl, refl), (_, _, _, (_, refl, refl, refl), (refl, refl), refl), refl), refl), refl), refl), refl), refl), refl), refl), refl), refl), refl), refl), refl), refl), refl), refl), refl), refl), refl), refl), refl), refl))
