use Rattle.std.proofs.Common.{◌≡◌, ◌+◌, true, false, [], ◌∷◌, ◌++◌, Some, None, Ok, Err, codes, refl, replicate}
use Rattle.std.specs.Fmt.{digits}
use Rattle.km_base.specs.declared.acts.Reg.TheVariants.{R0, R1}
use Rattle.km_base.specs.declared.acts.FileCmd.TheVariants.{ScanEvery, Dump}
use Rattle.km_base.specs.declared.lines.Base.TheVariants.{Number, Reg, Stack, Section}
use Rattle.km_base.specs.declared.lines.Command.TheVariants as command
use Rattle.km_base.specs.declared.lines.Line.TheVariants as line
use Rattle.km_model.specs.Grammar.{line_by, line_of, file_command}
use Rattle.km_model.specs.Memory.{base}
use Rattle.km_model.specs.Output.{lines_of, status_of}
use Rattle.km_base.specs.declared.status.Status.TheVariants as status
use Rattle.km_model.specs.Text.{entry}
use Rattle.km_model.specs.Blocks.{AtLeast}

memory_line : line_of true (codes "memory 4096") ≡ Ok (line.Command (command.Memory 4096))
unfolding line_by
memory_line = refl

memory_later : line_of false (codes "memory 1024") ≡ Err (record { column = 1 })
unfolding line_by
memory_later = refl

read_first : line_of true (codes "read") ≡ Err (record { column = 1 })
unfolding line_by
read_first = refl

store_line : line_of false (codes "  store data 0xFFFF888000002000\t") ≡ Ok (line.Command (command.Store (record { base = Section (codes "data"); plus = 0 }) (record { base = Number (base + 0x2000); plus = 0 })))
unfolding line_by
store_line = refl

load_line : line_of false (codes "load t.r1 u.stack+0x10") ≡ Ok (line.Command (command.Load (record { task = codes "t"; reg = R1 }) (record { base = Stack (codes "u"); plus = 16 })))
unfolding line_by
load_line = refl

set_line : line_of false (codes "set t.r0 t.r1") ≡ Ok (line.Command (command.Set (record { task = codes "t"; reg = R0 }) (record { base = Reg (codes "t") R1; plus = 0 })))
unfolding line_by
set_line = refl

boot_line : line_of false (codes "bootmem 64 t.r0") ≡ Ok (line.Command (command.BootMem 64 (Some (record { task = codes "t"; reg = R0 }))))
unfolding line_by
boot_line = refl

part_line : line_of false (codes "free_part t.r0+8 16") ≡ Ok (line.Command (command.FreePart (record { base = Reg (codes "t") R0; plus = 8 }) 16))
unfolding line_by
part_line = refl

transient_line : line_of false (codes "transient_leak 0") ≡ Ok (line.Command (command.TransientLeak (record { base = Number 0; plus = 0 })))
unfolding line_by
transient_line = refl

largest_memory : line_of true (codes "memory 4194304") ≡ Ok (line.Command (command.Memory 4194304))
unfolding line_by
largest_memory = refl

missing_word : line_of false (codes "kmalloc") ≡ Err (record { column = 8 })
unfolding line_by
missing_word = refl

word_too_many : line_of false (codes "kmalloc 8 9") ≡ Err (record { column = 11 })
unfolding line_by
word_too_many = refl

word_too_many_behind : line_of false (codes "kmalloc 8 t.r0 x") ≡ Err (record { column = 16 })
unfolding line_by
word_too_many_behind = refl

number_too_large : line_of false (codes "kmalloc 18446744073709551616") ≡ Err (record { column = 9 })
unfolding line_by
number_too_large = refl

long_comment : line_of false (35 ∷ replicate 256 120) ≡ Err (record { column = 257 })
unfolding line_by
long_comment = refl

comment : line_of false (35 ∷ replicate 255 200) ≡ Ok line.Blank
unfolding line_by
comment = refl

foreign_byte : line_of false (codes "print 1 " ++ 200 ∷ []) ≡ Err (record { column = 9 })
unfolding line_by
foreign_byte = refl

every_hour : file_command (codes "scan=3600") ≡ Some (ScanEvery 3600)
every_hour = refl

dump_of : file_command (codes "dump=0x1f") ≡ Some (Dump 31)
dump_of = refl

no_word : file_command (codes "scan=x") ≡ None
no_word = refl

parted_lines : lines_of (codes "memory 512\n\nread") ≡ codes "memory 512" ∷ [] ∷ codes "read" ∷ []
parted_lines = refl

ended_lines : lines_of (codes "memory 512\n") ≡ codes "memory 512" ∷ []
ended_lines = refl

third_line : status_of (codes "memory 1024\nkmalloc 8\nkmaloc 8\nkmalloc 8\n") ≡ status.NotACommand 3 1
unfolding line_by
third_line = refl

entry_text : entry 1000 (replicate 1024 0) (record { id = 1; start = base + 0x1000; size = 64; born = 0; minimum = AtLeast 1; no_scan = false; areas = []; excess = None })
    ≡ codes "unreferenced object 0xffff888000001000 (size 64):\n  allocated at 0 ms, age 1000 ms\n  hex dump (first 32 bytes):\n    00 00 00 00 00 00 00 00 00 00 00 00 00 00 00 00\n    00 00 00 00 00 00 00 00 00 00 00 00 00 00 00 00\n"
unfolding digits
entry_text = refl
