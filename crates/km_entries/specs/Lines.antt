-- The lines of a journal file as texts.
use Rattle.std.specs.Prelude.{◌≡◌, ℕ, ◌^◌, ◌<◌, ◌≤◌, true, List, [], ◌∷◌, ◌++◌, codes, decimal}
use Rattle.km_base.specs.declared.acts.Reg.{Reg}
use Rattle.km_base.specs.declared.acts.Reg.TheVariants.{R0, R1, R2, R3}
use Rattle.km_base.specs.declared.acts.FileCmd.{FileCmd}
use Rattle.km_base.specs.declared.acts.FileCmd.TheVariants.{Off, StackOn, StackOff, ScanOn, ScanOff, ScanEvery, Scan, Clear, Dump, Why}
use Rattle.km_base.specs.declared.acts.Act.{Act}
use Rattle.km_base.specs.declared.acts.Act.TheVariants.{Section, TaskStart, TaskExit, SetReg, Load, Store, Kmalloc, Kfree, Pages, FreePages, VmTake, VmGive, BootMem, FreePart, NotLeak, Ignore, NoScan, ScanArea, TransientLeak, File, Read, Tick, AutoBegin, Step, Halt}
use Rattle.km_base.specs.declared.acts.Answer.{Answer}
use Rattle.km_base.specs.declared.acts.Answer.TheVariants as answer
use Rattle.km_base.specs.declared.acts.Refusal.{Refusal}
use Rattle.km_base.specs.declared.acts.Refusal.TheVariants.{BadAddress, BadSize, NoRoom, NoSlot, NotAllocated, NoObject, NotInside, AreaOverlap, TooManyAreas, NoTask, TaskExists, TooManyTasks, NoSection, SectionExists, TooManySections, Busy, NoScanRunning, Disabled, Invalid, NotBoot}
use Rattle.km_base.specs.Names.{is_name}
use Rattle.km_base.specs.Digits.{hex}
use Rattle.km_model.specs.Text.{as_text_line}
use Rattle.km_entries.specs.declared.lines.Said.{Said}
use Rattle.km_entries.specs.declared.lines.Said.TheVariants as said
use Rattle.km_entries.specs.declared.lines.JournalLine.{JournalLine}
use Rattle.km_entries.specs.declared.lines.JournalLine.TheVariants as line
use Rattle.km_entries.specs.Words.{spaced}

-- the number of a register
abbrev pub reg_number : Reg → ℕ
reg_number R0 = 0
reg_number R1 = 1
reg_number R2 = 2
reg_number R3 = 3

-- a word that is written to the file
abbrev pub file_word : FileCmd → List ℕ
file_word Off = codes "off"
file_word StackOn = codes "stack=on"
file_word StackOff = codes "stack=off"
file_word ScanOn = codes "scan=on"
file_word ScanOff = codes "scan=off"
file_word (ScanEvery n) = codes "scan=" ++ decimal n
file_word Scan = codes "scan"
file_word Clear = codes "clear"
file_word (Dump a) = codes "dump=" ++ decimal a
file_word (Why a) = codes "why=" ++ decimal a

-- the words of an act
abbrev pub act_words : Act → List (List ℕ)
act_words (Section name n) = codes "section" ∷ name ∷ decimal n ∷ []
act_words (TaskStart name) = codes "task" ∷ name ∷ []
act_words (TaskExit name) = codes "exit" ∷ name ∷ []
act_words (SetReg task reg value) = codes "reg" ∷ task ∷ decimal (reg_number reg) ∷ hex value ∷ []
act_words (Load task reg a) = codes "load" ∷ task ∷ decimal (reg_number reg) ∷ hex a ∷ []
act_words (Store a value) = codes "store" ∷ hex a ∷ hex value ∷ []
act_words (Kmalloc n) = codes "kmalloc" ∷ decimal n ∷ []
act_words (Kfree a) = codes "kfree" ∷ hex a ∷ []
act_words (Pages n) = codes "pages" ∷ decimal n ∷ []
act_words (FreePages a) = codes "freepages" ∷ hex a ∷ []
act_words (VmTake n) = codes "vmtake" ∷ decimal n ∷ []
act_words (VmGive a) = codes "vmgive" ∷ hex a ∷ []
act_words (BootMem n) = codes "bootmem" ∷ decimal n ∷ []
act_words (FreePart a n) = codes "free_part" ∷ hex a ∷ decimal n ∷ []
act_words (NotLeak a) = codes "not_leak" ∷ hex a ∷ []
act_words (Ignore a) = codes "ignore" ∷ hex a ∷ []
act_words (NoScan a) = codes "no_scan" ∷ hex a ∷ []
act_words (ScanArea a n) = codes "scan_area" ∷ hex a ∷ decimal n ∷ []
act_words (TransientLeak a) = codes "transient_leak" ∷ hex a ∷ []
act_words (File word) = codes "file" ∷ file_word word ∷ []
act_words Read = codes "read" ∷ []
act_words (Tick n) = codes "tick" ∷ decimal n ∷ []
act_words AutoBegin = codes "auto" ∷ []
act_words Step = codes "step" ∷ []
act_words Halt = codes "halt" ∷ []

-- the number of a refusal
abbrev pub refusal_number : Refusal → ℕ
refusal_number BadAddress = 1
refusal_number BadSize = 2
refusal_number NoRoom = 3
refusal_number NoSlot = 4
refusal_number NotAllocated = 5
refusal_number NoObject = 6
refusal_number NotInside = 7
refusal_number AreaOverlap = 8
refusal_number TooManyAreas = 9
refusal_number NoTask = 10
refusal_number TaskExists = 11
refusal_number TooManyTasks = 12
refusal_number NoSection = 13
refusal_number SectionExists = 14
refusal_number TooManySections = 15
refusal_number (Busy _) = 16
refusal_number NoScanRunning = 17
refusal_number Disabled = 18
refusal_number Invalid = 19
refusal_number NotBoot = 20

-- the words of a refusal: its number, and of a busy one the scan's
abbrev pub refusal_numbers : Refusal → List (List ℕ)
refusal_numbers (Busy k) = decimal 16 ∷ decimal k ∷ []
refusal_numbers r = decimal (refusal_number r) ∷ []

-- the words of an answer
abbrev pub said_words : Said → List (List ℕ)
said_words said.Done = codes "done" ∷ []
said_words (said.At a) = codes "at" ∷ hex a ∷ []
said_words (said.Loaded a value) = codes "loaded" ∷ hex a ∷ hex value ∷ []
said_words (said.Ended scan new) = codes "ended" ∷ decimal scan ∷ decimal new ∷ []
said_words (said.Stopped scan) = codes "stopped" ∷ decimal scan ∷ []
said_words said.Skipped = codes "skipped" ∷ []
said_words said.Dumped = codes "dumped" ∷ []
said_words (said.Refused r) = codes "refused" ∷ refusal_numbers r

-- an answer as it is written
abbrev pub said_of : Answer → Said
said_of answer.Done = said.Done
said_of (answer.At a) = said.At a
said_of (answer.Loaded a value) = said.Loaded a value
said_of (answer.Ended scan new) = said.Ended scan new
said_of (answer.Stopped scan) = said.Stopped scan
said_of answer.Skipped = said.Skipped
said_of (answer.Dumped _) = said.Dumped
said_of (answer.Refused r) = said.Refused r

-- words of one list before those of another
abbrev pub before_words : List (List ℕ) → List (List ℕ) → List (List ℕ)
before_words [] vs = vs
before_words (w ∷ ws) vs = w ∷ before_words ws vs

-- the words of a line
abbrev pub line_words : JournalLine → List (List ℕ)
line_words (line.Head words) = codes "kmjournal" ∷ codes "1" ∷ decimal words ∷ []
line_words (line.Event by act said) = decimal by ∷ before_words (act_words act) (codes "=" ∷ said_words said)
line_words (line.Listed a) = codes "listed" ∷ hex a ∷ []
line_words (line.End n) = codes "end" ∷ decimal n ∷ []

-- a line without its line feed
abbrev pub line_bytes : JournalLine → List ℕ
line_bytes l = spaced (line_words l)

-- a line
abbrev pub journal_line_text : JournalLine → List ℕ
journal_line_text l = as_text_line (line_bytes l)

-- a word of the file whose number is in its range
abbrev pub CanBeWritten : FileCmd → Type 0
CanBeWritten (ScanEvery n) = n ≤ 86400
CanBeWritten (Dump a) = a < 2 ^ 64
CanBeWritten (Why a) = a < 2 ^ 64
CanBeWritten Off = Unit {0}
CanBeWritten StackOn = Unit {0}
CanBeWritten StackOff = Unit {0}
CanBeWritten ScanOn = Unit {0}
CanBeWritten ScanOff = Unit {0}
CanBeWritten Scan = Unit {0}
CanBeWritten Clear = Unit {0}

-- an act whose names are names and whose numbers are within 64 bits
abbrev pub CanBeMade : Act → Type 0
CanBeMade (Section name n) = (is_name name ≡ true) × (n < 2 ^ 64)
CanBeMade (TaskStart name) = is_name name ≡ true
CanBeMade (TaskExit name) = is_name name ≡ true
CanBeMade (SetReg task _ value) = (is_name task ≡ true) × (value < 2 ^ 64)
CanBeMade (Load task _ a) = (is_name task ≡ true) × (a < 2 ^ 64)
CanBeMade (Store a value) = (a < 2 ^ 64) × (value < 2 ^ 64)
CanBeMade (Kmalloc n) = n < 2 ^ 64
CanBeMade (Kfree a) = a < 2 ^ 64
CanBeMade (Pages n) = n < 2 ^ 64
CanBeMade (FreePages a) = a < 2 ^ 64
CanBeMade (VmTake n) = n < 2 ^ 64
CanBeMade (VmGive a) = a < 2 ^ 64
CanBeMade (BootMem n) = n < 2 ^ 64
CanBeMade (FreePart a n) = (a < 2 ^ 64) × (n < 2 ^ 64)
CanBeMade (NotLeak a) = a < 2 ^ 64
CanBeMade (Ignore a) = a < 2 ^ 64
CanBeMade (NoScan a) = a < 2 ^ 64
CanBeMade (ScanArea a n) = (a < 2 ^ 64) × (n < 2 ^ 64)
CanBeMade (TransientLeak a) = a < 2 ^ 64
CanBeMade (File word) = CanBeWritten word
CanBeMade Read = Unit {0}
CanBeMade (Tick n) = n < 2 ^ 64
CanBeMade AutoBegin = Unit {0}
CanBeMade Step = Unit {0}
CanBeMade Halt = Unit {0}

-- an answer whose numbers are within 64 bits
abbrev pub CanBeSaid : Said → Type 0
CanBeSaid (said.At a) = a < 2 ^ 64
CanBeSaid (said.Loaded a value) = (a < 2 ^ 64) × (value < 2 ^ 64)
CanBeSaid (said.Ended scan new) = (scan < 2 ^ 64) × (new < 2 ^ 64)
CanBeSaid (said.Stopped scan) = scan < 2 ^ 64
CanBeSaid (said.Refused (Busy scan)) = scan < 2 ^ 64
CanBeSaid _ = Unit {0}

-- a line whose parts are in their ranges
abbrev pub CanStand : JournalLine → Type 0
CanStand (line.Head words) = words < 2 ^ 64
CanStand (line.Event by act said) = (by ≤ 9) × CanBeMade act × CanBeSaid said
CanStand (line.Listed a) = a < 2 ^ 64
CanStand (line.End n) = n < 2 ^ 64
