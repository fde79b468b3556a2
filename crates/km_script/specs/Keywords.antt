use Rattle.std.specs.Prelude.{ℕ, List, [], ◌∷◌, Option, Some, None, bytes_eq, codes, if◌then◌else◌}
use Rattle.km_base.specs.Names.{name_of}
use Rattle.km_base.specs.declared.lines.Command.TheVariants as command
use Rattle.km_model.specs.Grammar.{Reading, allocation, alone, any_word, file_command, memory_size, number, number_within, one_word, operand, register_of, two_words}
use Rattle.km_model.specs.Pieces.{Piece}
use Rattle.km_script.specs.declared.keywords.Keyword.{Keyword}
use Rattle.km_script.specs.declared.keywords.Keyword.TheVariants as keyword

-- the word that a keyword is
abbrev pub text_of : Keyword → List ℕ
text_of keyword.Memory = codes "memory"
text_of keyword.Section = codes "section"
text_of keyword.Task = codes "task"
text_of keyword.Exit = codes "exit"
text_of keyword.Set = codes "set"
text_of keyword.Load = codes "load"
text_of keyword.Store = codes "store"
text_of keyword.Erase = codes "erase"
text_of keyword.Print = codes "print"
text_of keyword.Kmalloc = codes "kmalloc"
text_of keyword.Kzalloc = codes "kzalloc"
text_of keyword.Kfree = codes "kfree"
text_of keyword.Pages = codes "pages"
text_of keyword.FreePages = codes "freepages"
text_of keyword.Vmalloc = codes "vmalloc"
text_of keyword.Vfree = codes "vfree"
text_of keyword.BootMem = codes "bootmem"
text_of keyword.FreePart = codes "free_part"
text_of keyword.NotLeak = codes "not_leak"
text_of keyword.Ignore = codes "ignore"
text_of keyword.NoScan = codes "no_scan"
text_of keyword.ScanArea = codes "scan_area"
text_of keyword.TransientLeak = codes "transient_leak"
text_of keyword.Write = codes "write"
text_of keyword.Read = codes "read"
text_of keyword.Tick = codes "tick"
text_of keyword.Begin = codes "begin"
text_of keyword.Step = codes "step"
text_of keyword.Finish = codes "finish"

-- how the words behind a keyword are read, in a line that ends before a column
abbrev pub read_as : Keyword → ℕ → List Piece → Reading
read_as keyword.Memory end ps = one_word memory_size end ps command.Memory
read_as keyword.Section end ps = two_words name_of number end ps command.Section
read_as keyword.Task end ps = one_word name_of end ps command.Task
read_as keyword.Exit end ps = one_word name_of end ps command.Exit
read_as keyword.Set end ps = two_words register_of operand end ps command.Set
read_as keyword.Load end ps = two_words register_of operand end ps command.Load
read_as keyword.Store end ps = two_words operand operand end ps command.Store
read_as keyword.Erase end ps = one_word operand end ps command.Erase
read_as keyword.Print end ps = one_word operand end ps command.Print
read_as keyword.Kmalloc end ps = allocation end ps command.Kmalloc
read_as keyword.Kzalloc end ps = allocation end ps command.Kzalloc
read_as keyword.Kfree end ps = one_word operand end ps command.Kfree
read_as keyword.Pages end ps = allocation end ps command.Pages
read_as keyword.FreePages end ps = one_word operand end ps command.FreePages
read_as keyword.Vmalloc end ps = allocation end ps command.Vmalloc
read_as keyword.Vfree end ps = one_word operand end ps command.Vfree
read_as keyword.BootMem end ps = allocation end ps command.BootMem
read_as keyword.FreePart end ps = two_words operand number end ps command.FreePart
read_as keyword.NotLeak end ps = one_word operand end ps command.NotLeak
read_as keyword.Ignore end ps = one_word operand end ps command.Ignore
read_as keyword.NoScan end ps = one_word operand end ps command.NoScan
read_as keyword.ScanArea end ps = two_words operand number end ps command.ScanArea
read_as keyword.TransientLeak end ps = one_word operand end ps command.TransientLeak
read_as keyword.Write end ps = one_word any_word end ps (λ word. command.Write (file_command word))
read_as keyword.Read end ps = alone command.Read end ps
read_as keyword.Tick end ps = one_word (number_within 0 3600000) end ps command.Tick
read_as keyword.Begin end ps = alone command.Begin end ps
read_as keyword.Step end ps = one_word (number_within 1 1000000) end ps command.Step
read_as keyword.Finish end ps = alone command.Finish end ps

-- the keywords, in the order of the table
abbrev pub all_keywords : List Keyword
all_keywords =
    keyword.Memory ∷ keyword.Section ∷ keyword.Task ∷ keyword.Exit ∷ keyword.Set ∷ keyword.Load ∷ keyword.Store ∷ keyword.Erase ∷ keyword.Print ∷ keyword.Kmalloc ∷ keyword.Kzalloc ∷ keyword.Kfree ∷ keyword.Pages ∷ keyword.FreePages ∷ keyword.Vmalloc ∷ keyword.Vfree ∷ keyword.BootMem ∷ keyword.FreePart ∷ keyword.NotLeak ∷ keyword.Ignore ∷ keyword.NoScan ∷ keyword.ScanArea ∷ keyword.TransientLeak ∷ keyword.Write ∷ keyword.Read ∷ keyword.Tick ∷ keyword.Begin ∷ keyword.Step ∷ keyword.Finish ∷ []

-- the first of these keywords that is a word
abbrev pub keyword_in : List Keyword → List ℕ → Option Keyword
keyword_in [] word = None
keyword_in (k ∷ ks) word = if bytes_eq (text_of k) word then Some k else keyword_in ks word
