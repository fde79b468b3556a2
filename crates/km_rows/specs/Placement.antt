use Rattle.std.specs.Prelude.{ℕ, List, codes}

abbrev pub script : List ℕ
script = codes "memory 1024\nkmalloc 0\nkmalloc 32769\nkmalloc 32768\nkmalloc 4096\nkmalloc 8\nkfree 0xffff888000001008\nkfree 0xffff888000001000\nkfree 0xffff888000001000\nkmalloc 8\n"

abbrev pub report : List ℕ
report = codes "refused: bad size\nrefused: bad size\nrefused: no room\nkmalloc 0xffff888000001000\nrefused: no room\nrefused: not allocated\nrefused: not allocated\nkmalloc 0xffff888000001000\n"
