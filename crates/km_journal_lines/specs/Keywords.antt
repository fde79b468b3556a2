-- The first words of the acts.
use Rattle.std.specs.Prelude.{ℕ, List, [], ◌∷◌, Option, Some, None, bytes_eq, codes, if◌then◌else◌}
use Rattle.km_base.specs.declared.acts.Act.{Act}
use Rattle.km_base.specs.declared.acts.Act.TheVariants as act
use Rattle.km_base.specs.Names.{name_of}
use Rattle.km_entries.specs.Words.{plain_number, plain_address}
use Rattle.km_entries.specs.Reading.{Rest, bare, with_one, with_two, with_three, reg_of, file_of}
use Rattle.km_journal_lines.specs.declared.keywords.Keyword.{Keyword}
use Rattle.km_journal_lines.specs.declared.keywords.Keyword.TheVariants as keyword

-- the word that a keyword is
abbrev pub text_of : Keyword → List ℕ
text_of keyword.Section = codes "section"
text_of keyword.Task = codes "task"
text_of keyword.Exit = codes "exit"
text_of keyword.Reg = codes "reg"
text_of keyword.Load = codes "load"
text_of keyword.Store = codes "store"
text_of keyword.Kmalloc = codes "kmalloc"
text_of keyword.Kfree = codes "kfree"
text_of keyword.Pages = codes "pages"
text_of keyword.FreePages = codes "freepages"
text_of keyword.VmTake = codes "vmtake"
text_of keyword.VmGive = codes "vmgive"
text_of keyword.BootMem = codes "bootmem"
text_of keyword.FreePart = codes "free_part"
text_of keyword.NotLeak = codes "not_leak"
text_of keyword.Ignore = codes "ignore"
text_of keyword.NoScan = codes "no_scan"
text_of keyword.ScanArea = codes "scan_area"
text_of keyword.TransientLeak = codes "transient_leak"
text_of keyword.File = codes "file"
text_of keyword.Read = codes "read"
text_of keyword.Tick = codes "tick"
text_of keyword.Auto = codes "auto"
text_of keyword.Step = codes "step"
text_of keyword.Halt = codes "halt"

-- how the words after a keyword are read
abbrev pub read_as : Keyword → List (List ℕ) → Rest Act
read_as keyword.Section ws = with_two name_of plain_number act.Section ws
read_as keyword.Task ws = with_one name_of act.TaskStart ws
read_as keyword.Exit ws = with_one name_of act.TaskExit ws
read_as keyword.Reg ws = with_three name_of reg_of plain_address act.SetReg ws
read_as keyword.Load ws = with_three name_of reg_of plain_address act.Load ws
read_as keyword.Store ws = with_two plain_address plain_address act.Store ws
read_as keyword.Kmalloc ws = with_one plain_number act.Kmalloc ws
read_as keyword.Kfree ws = with_one plain_address act.Kfree ws
read_as keyword.Pages ws = with_one plain_number act.Pages ws
read_as keyword.FreePages ws = with_one plain_address act.FreePages ws
read_as keyword.VmTake ws = with_one plain_number act.VmTake ws
read_as keyword.VmGive ws = with_one plain_address act.VmGive ws
read_as keyword.BootMem ws = with_one plain_number act.BootMem ws
read_as keyword.FreePart ws = with_two plain_address plain_number act.FreePart ws
read_as keyword.NotLeak ws = with_one plain_address act.NotLeak ws
read_as keyword.Ignore ws = with_one plain_address act.Ignore ws
read_as keyword.NoScan ws = with_one plain_address act.NoScan ws
read_as keyword.ScanArea ws = with_two plain_address plain_number act.ScanArea ws
read_as keyword.TransientLeak ws = with_one plain_address act.TransientLeak ws
read_as keyword.File ws = with_one file_of act.File ws
read_as keyword.Read ws = bare act.Read ws
read_as keyword.Tick ws = with_one plain_number act.Tick ws
read_as keyword.Auto ws = bare act.AutoBegin ws
read_as keyword.Step ws = bare act.Step ws
read_as keyword.Halt ws = bare act.Halt ws

-- the keywords, in the order of the table
abbrev pub all_keywords : List Keyword
all_keywords =
    keyword.Section ∷ keyword.Task ∷ keyword.Exit ∷ keyword.Reg ∷ keyword.Load ∷ keyword.Store ∷ keyword.Kmalloc ∷ keyword.Kfree ∷ keyword.Pages ∷ keyword.FreePages ∷ keyword.VmTake ∷ keyword.VmGive ∷ keyword.BootMem ∷ keyword.FreePart ∷ keyword.NotLeak ∷ keyword.Ignore ∷ keyword.NoScan ∷ keyword.ScanArea ∷ keyword.TransientLeak ∷ keyword.File ∷ keyword.Read ∷ keyword.Tick ∷ keyword.Auto ∷ keyword.Step ∷ keyword.Halt ∷ []

-- the first of these keywords that is a word
abbrev pub keyword_in : List Keyword → List ℕ → Option Keyword
keyword_in [] word = None
keyword_in (k ∷ ks) word = if bytes_eq (text_of k) word then Some k else keyword_in ks word
