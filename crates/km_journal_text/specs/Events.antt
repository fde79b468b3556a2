-- The line of an event in three parts: what is before the name of its act, the name, and what is after it.
use Rattle.std.specs.Prelude.{ℕ, List, [], ◌∷◌, ◌++◌, Option, Some, None, codes, decimal}
use Rattle.km_base.specs.declared.acts.Act.{Act}
use Rattle.km_base.specs.declared.acts.Act.TheVariants.{Section, TaskStart, TaskExit, SetReg, Load, Store, Kmalloc, Kfree, Pages, FreePages, VmTake, VmGive, BootMem, FreePart, NotLeak, Ignore, NoScan, ScanArea, TransientLeak, File, Read, Tick, AutoBegin, Step, Halt}
use Rattle.km_base.specs.declared.acts.Answer.{Answer}
use Rattle.km_base.specs.Digits.{hex}
use Rattle.km_model.specs.Text.{as_text_line}
use Rattle.km_entries.specs.Lines.{file_word, reg_number, said_of, said_words}

-- words, each after a space
abbrev pub after_spaces : List (List ℕ) → List ℕ
after_spaces [] = []
after_spaces (w ∷ ws) = 32 ∷ w ++ after_spaces ws

-- the first word of an act
abbrev pub keyword : Act → List ℕ
keyword (Section _ _) = codes "section"
keyword (TaskStart _) = codes "task"
keyword (TaskExit _) = codes "exit"
keyword (SetReg _ _ _) = codes "reg"
keyword (Load _ _ _) = codes "load"
keyword (Store _ _) = codes "store"
keyword (Kmalloc _) = codes "kmalloc"
keyword (Kfree _) = codes "kfree"
keyword (Pages _) = codes "pages"
keyword (FreePages _) = codes "freepages"
keyword (VmTake _) = codes "vmtake"
keyword (VmGive _) = codes "vmgive"
keyword (BootMem _) = codes "bootmem"
keyword (FreePart _ _) = codes "free_part"
keyword (NotLeak _) = codes "not_leak"
keyword (Ignore _) = codes "ignore"
keyword (NoScan _) = codes "no_scan"
keyword (ScanArea _ _) = codes "scan_area"
keyword (TransientLeak _) = codes "transient_leak"
keyword (File _) = codes "file"
keyword Read = codes "read"
keyword (Tick _) = codes "tick"
keyword AutoBegin = codes "auto"
keyword Step = codes "step"
keyword Halt = codes "halt"

-- the name in an act, if there is one
abbrev pub name_in : Act → Option (List ℕ)
name_in (Section name _) = Some name
name_in (TaskStart name) = Some name
name_in (TaskExit name) = Some name
name_in (SetReg task _ _) = Some task
name_in (Load task _ _) = Some task
name_in (Store _ _) = None
name_in (Kmalloc _) = None
name_in (Kfree _) = None
name_in (Pages _) = None
name_in (FreePages _) = None
name_in (VmTake _) = None
name_in (VmGive _) = None
name_in (BootMem _) = None
name_in (FreePart _ _) = None
name_in (NotLeak _) = None
name_in (Ignore _) = None
name_in (NoScan _) = None
name_in (ScanArea _ _) = None
name_in (TransientLeak _) = None
name_in (File _) = None
name_in Read = None
name_in (Tick _) = None
name_in AutoBegin = None
name_in Step = None
name_in Halt = None

-- the words of an act after its first word and its name
abbrev pub operands_of : Act → List (List ℕ)
operands_of (Section _ n) = decimal n ∷ []
operands_of (TaskStart _) = []
operands_of (TaskExit _) = []
operands_of (SetReg _ reg value) = decimal (reg_number reg) ∷ hex value ∷ []
operands_of (Load _ reg a) = decimal (reg_number reg) ∷ hex a ∷ []
operands_of (Store a value) = hex a ∷ hex value ∷ []
operands_of (Kmalloc n) = decimal n ∷ []
operands_of (Kfree a) = hex a ∷ []
operands_of (Pages n) = decimal n ∷ []
operands_of (FreePages a) = hex a ∷ []
operands_of (VmTake n) = decimal n ∷ []
operands_of (VmGive a) = hex a ∷ []
operands_of (BootMem n) = decimal n ∷ []
operands_of (FreePart a n) = hex a ∷ decimal n ∷ []
operands_of (NotLeak a) = hex a ∷ []
operands_of (Ignore a) = hex a ∷ []
operands_of (NoScan a) = hex a ∷ []
operands_of (ScanArea a n) = hex a ∷ decimal n ∷ []
operands_of (TransientLeak a) = hex a ∷ []
operands_of (File word) = file_word word ∷ []
operands_of Read = []
operands_of (Tick n) = decimal n ∷ []
operands_of AutoBegin = []
operands_of Step = []
operands_of Halt = []

-- what is before the name: who made the event, and the first word of its act
abbrev pub before_name : ℕ → Act → List ℕ
before_name by act = decimal by ++ 32 ∷ keyword act

-- the name, after a space
abbrev pub spaced_name : Act → List ℕ
spaced_name act = elim (name_in act) [ None ↦ [] | Some name ↦ 32 ∷ name ]

-- what is after it: the act's other words and the answer
abbrev pub after_name : Act → Answer → List ℕ
after_name act answer = as_text_line (after_spaces (operands_of act) ++ codes " =" ++ after_spaces (said_words (said_of answer)))
