use Rattle.std.specs.Prelude.{ℕ, List, codes}

abbrev pub script : List ℕ
script = codes "memory 4096\nbootmem 12\nbootmem 0\nbootmem 64\nkmalloc 64\nfree_part 0xffff888000001004 8\nfree_part 0xffff888000001000 4\nfree_part 0xffff888000002000 8\nfree_part 0xffff888000001038 16\nfree_part 0xffff888000001000 64\nfree_part 0xffff888000001000 8\nkfree 0xffff888000001000\n"

abbrev pub report : List ℕ
report = codes "refused: bad size\nrefused: bad size\nbootmem 0xffff888000001000\nkmalloc 0xffff888000002000\nrefused: bad address\nrefused: bad size\nrefused: not boot memory\nrefused: area not inside the object\nrefused: no object\nrefused: not allocated\n"
