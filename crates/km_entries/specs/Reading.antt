-- A line of a journal file read back.
use Rattle.std.specs.Prelude.{ℕ, ◌==◌, true, false, List, [], ◌∷◌, drop, find, Option, Some, None, option_map, option_and_then, bytes_eq, codes, nat_lt, length, if◌then◌else◌}
use Rattle.km_base.specs.declared.sizes.TheConstants.{LONGEST_LINE}
use Rattle.km_base.specs.declared.acts.Reg.{Reg}
use Rattle.km_base.specs.declared.acts.Reg.TheVariants.{R0, R1, R2, R3}
use Rattle.km_base.specs.declared.acts.FileCmd.{FileCmd}
use Rattle.km_base.specs.declared.acts.FileCmd.TheVariants.{Off, StackOn, StackOff, ScanOn, ScanOff, ScanEvery, Scan, Clear, Dump, Why}
use Rattle.km_base.specs.declared.acts.Act.{Act}
use Rattle.km_base.specs.declared.acts.Act.TheVariants as act
use Rattle.km_base.specs.declared.acts.Refusal.{Refusal}
use Rattle.km_base.specs.declared.acts.Refusal.TheVariants as refusal
use Rattle.km_base.specs.Names.{name_of}
use Rattle.km_model.specs.Grammar.{within}
use Rattle.km_base.specs.Prefix.{behind_prefix}
use Rattle.km_entries.specs.declared.lines.Said.{Said}
use Rattle.km_entries.specs.declared.lines.Said.TheVariants as said
use Rattle.km_entries.specs.declared.lines.JournalLine.{JournalLine}
use Rattle.km_entries.specs.declared.lines.JournalLine.TheVariants as line
use Rattle.km_entries.specs.Words.{plain_number, plain_address, words_in}
use Rattle.km_entries.specs.Lines.{refusal_number}

-- what is read of the words of a line, and the words after it
abbrev pub Rest : Type 0 → Type 0
Rest A = Option (A × List (List ℕ))

-- what the first word of these says
abbrev pub first_said : {A : Type 0} → (List ℕ → Option A) → List (List ℕ) → Option A
first_said read [] = None
first_said read (w ∷ _) = read w

-- the next word has this form; the rest is read with what it says
abbrev pub take_word : {A B : Type 0} → (List ℕ → Option A) → List (List ℕ) → (A → List (List ℕ) → Option B) → Option B
take_word read ws rest = option_and_then (λ a. rest a (drop 1 ws)) (first_said read ws)

-- no word is left
abbrev pub no_more : {A : Type 0} → A → List (List ℕ) → Option A
no_more a [] = Some a
no_more a (_ ∷ _) = None

-- an act without words of its own, or with as many as are given, of these forms
abbrev pub bare : Act → List (List ℕ) → Rest Act
bare a ws = Some (a, ws)

abbrev pub with_one : {A : Type 0} → (List ℕ → Option A) → (A → Act) → List (List ℕ) → Rest Act
with_one read make ws = take_word read ws (λ a rest. bare (make a) rest)

abbrev pub with_two : {A B : Type 0} → (List ℕ → Option A) → (List ℕ → Option B) → (A → B → Act) → List (List ℕ) → Rest Act
with_two read read' make ws = take_word read ws (λ a rest. with_one read' (make a) rest)

abbrev pub with_three : {A B C : Type 0} → (List ℕ → Option A) → (List ℕ → Option B) → (List ℕ → Option C) → (A → B → C → Act) → List (List ℕ) → Rest Act
with_three read read' read'' make ws = take_word read ws (λ a rest. with_two read' read'' (make a) rest)

-- the register of a number
abbrev pub reg_at : ℕ → Option Reg
reg_at n =
    if n == 0 then Some R0
    else (if n == 1 then Some R1
    else (if n == 2 then Some R2
    else (if n == 3 then Some R3 else None)))

-- a register, by its number
abbrev pub reg_of : List ℕ → Option Reg
reg_of word = option_and_then reg_at (plain_number word)

-- `scan=` and a period, in seconds
abbrev pub period_word : List ℕ → Option FileCmd
period_word digits = option_map ScanEvery (within 0 86400 (plain_number digits))

-- a command and an address
abbrev pub address_word : (ℕ → FileCmd) → List ℕ → Option FileCmd
address_word make digits = option_map make (plain_number digits)

-- a word that is written to the file with a number, by what is left of it after each of the three prefixes
abbrev pub numbered_by : Option (List ℕ) → Option (List ℕ) → Option (List ℕ) → Option FileCmd
numbered_by (Some digits) after_dump after_why = period_word digits
numbered_by None (Some digits) after_why = address_word Dump digits
numbered_by None None (Some digits) = address_word Why digits
numbered_by None None None = None

-- a word that is written to the file with a number
abbrev pub numbered_word : List ℕ → Option FileCmd
numbered_word word = numbered_by (behind_prefix (codes "scan=") word) (behind_prefix (codes "dump=") word) (behind_prefix (codes "why=") word)

-- a word that is written to the file
abbrev pub file_of : List ℕ → Option FileCmd
file_of word =
    if bytes_eq (codes "off") word then Some Off
    else (if bytes_eq (codes "stack=on") word then Some StackOn
    else (if bytes_eq (codes "stack=off") word then Some StackOff
    else (if bytes_eq (codes "scan=on") word then Some ScanOn
    else (if bytes_eq (codes "scan=off") word then Some ScanOff
    else (if bytes_eq (codes "scan") word then Some Scan
    else (if bytes_eq (codes "clear") word then Some Clear
    else numbered_word word))))))

-- an act's first word, and how the words after it are read
pub record Form : Type 0 where
  pub keyword : List ℕ
  pub read : List (List ℕ) → Rest Act

-- the table of acts
abbrev pub forms : List Form
forms =
    record { keyword = codes "section"; read = with_two name_of plain_number act.Section }
    ∷ record { keyword = codes "task"; read = with_one name_of act.TaskStart }
    ∷ record { keyword = codes "exit"; read = with_one name_of act.TaskExit }
    ∷ record { keyword = codes "reg"; read = with_three name_of reg_of plain_address act.SetReg }
    ∷ record { keyword = codes "load"; read = with_three name_of reg_of plain_address act.Load }
    ∷ record { keyword = codes "store"; read = with_two plain_address plain_address act.Store }
    ∷ record { keyword = codes "kmalloc"; read = with_one plain_number act.Kmalloc }
    ∷ record { keyword = codes "kfree"; read = with_one plain_address act.Kfree }
    ∷ record { keyword = codes "pages"; read = with_one plain_number act.Pages }
    ∷ record { keyword = codes "freepages"; read = with_one plain_address act.FreePages }
    ∷ record { keyword = codes "vmtake"; read = with_one plain_number act.VmTake }
    ∷ record { keyword = codes "vmgive"; read = with_one plain_address act.VmGive }
    ∷ record { keyword = codes "bootmem"; read = with_one plain_number act.BootMem }
    ∷ record { keyword = codes "free_part"; read = with_two plain_address plain_number act.FreePart }
    ∷ record { keyword = codes "not_leak"; read = with_one plain_address act.NotLeak }
    ∷ record { keyword = codes "ignore"; read = with_one plain_address act.Ignore }
    ∷ record { keyword = codes "no_scan"; read = with_one plain_address act.NoScan }
    ∷ record { keyword = codes "scan_area"; read = with_two plain_address plain_number act.ScanArea }
    ∷ record { keyword = codes "transient_leak"; read = with_one plain_address act.TransientLeak }
    ∷ record { keyword = codes "file"; read = with_one file_of act.File }
    ∷ record { keyword = codes "read"; read = bare act.Read }
    ∷ record { keyword = codes "tick"; read = with_one plain_number act.Tick }
    ∷ record { keyword = codes "auto"; read = bare act.AutoBegin }
    ∷ record { keyword = codes "step"; read = bare act.Step }
    ∷ record { keyword = codes "halt"; read = bare act.Halt }
    ∷ []

-- the first of these forms that has the word is read
abbrev pub read_form : List Form → List ℕ → List (List ℕ) → Rest Act
read_form [] word ws = None
read_form (form ∷ forms) word ws = elim (bytes_eq form.keyword word) [ true ↦ form.read ws | false ↦ read_form forms word ws ]

-- an act, and the words after it
abbrev pub act_of : List (List ℕ) → Rest Act
act_of [] = None
act_of (w ∷ ws) = read_form forms w ws

-- the refusals whose number stands alone
abbrev pub refusals : List Refusal
refusals =
    refusal.BadAddress ∷ refusal.BadSize ∷ refusal.NoRoom ∷ refusal.NoSlot ∷ refusal.NotAllocated ∷ refusal.NoObject ∷ refusal.NotInside
    ∷ refusal.AreaOverlap ∷ refusal.TooManyAreas ∷ refusal.NoTask ∷ refusal.TaskExists ∷ refusal.TooManyTasks ∷ refusal.NoSection
    ∷ refusal.SectionExists ∷ refusal.TooManySections ∷ refusal.NoScanRunning ∷ refusal.Disabled ∷ refusal.Invalid ∷ refusal.NotBoot ∷ []

-- the refusal of a number that stands alone
abbrev pub refusal_at : ℕ → Option Refusal
refusal_at n = find (λ r. refusal_number r == n) refusals

-- a refusal by its number: after that of the busy one stands the scan's
abbrev pub refusal_by : ℕ → List (List ℕ) → Option Said
refusal_by n ws =
    if n == 16 then take_word plain_number ws (λ k rest. no_more (said.Refused (refusal.Busy k)) rest)
    else option_and_then (λ r. no_more (said.Refused r) ws) (refusal_at n)

-- an answer, by its first word and those after it
abbrev pub said_by : List ℕ → List (List ℕ) → Option Said
said_by w ws =
    if bytes_eq (codes "done") w then no_more said.Done ws
    else (if bytes_eq (codes "at") w then take_word plain_address ws (λ a rest. no_more (said.At a) rest)
    else (if bytes_eq (codes "loaded") w then take_word plain_address ws (λ a rest. take_word plain_address rest (λ value more. no_more (said.Loaded a value) more))
    else (if bytes_eq (codes "ended") w then take_word plain_number ws (λ scan rest. take_word plain_number rest (λ new more. no_more (said.Ended scan new) more))
    else (if bytes_eq (codes "stopped") w then take_word plain_number ws (λ scan rest. no_more (said.Stopped scan) rest)
    else (if bytes_eq (codes "skipped") w then no_more said.Skipped ws
    else (if bytes_eq (codes "dumped") w then no_more said.Dumped ws
    else (if bytes_eq (codes "refused") w then take_word plain_number ws refusal_by else None)))))))

-- an answer
abbrev pub said_in : List (List ℕ) → Option Said
said_in [] = None
said_in (w ∷ ws) = said_by w ws

-- `=`, and what stands after it
abbrev pub after_equals : List (List ℕ) → Option Said
after_equals [] = None
after_equals (w ∷ ws) = if bytes_eq (codes "=") w then said_in ws else None

-- an event after the number of who made it
abbrev pub event_in : ℕ → List (List ℕ) → Option JournalLine
event_in by ws = option_and_then (λ (made : Act × List (List ℕ)). option_map (line.Event by made.0) (after_equals made.1)) (act_of ws)

-- the number of who made an event
abbrev pub maker_of : List ℕ → Option ℕ
maker_of word = within 0 9 (plain_number word)

-- the first line, after its first word: the version and the number of words
abbrev pub head_in : List (List ℕ) → Option JournalLine
head_in [] = None
head_in (w ∷ ws) = if bytes_eq (codes "1") w then take_word plain_number ws (λ n rest. no_more (line.Head n) rest) else None

-- the first or last line, or that of a listed block, by its first word and those after it
abbrev pub named_line : List ℕ → List (List ℕ) → Option JournalLine
named_line w ws =
    if bytes_eq (codes "listed") w then take_word plain_address ws (λ a rest. no_more (line.Listed a) rest)
    else (if bytes_eq (codes "kmjournal") w then head_in ws
    else (if bytes_eq (codes "end") w then take_word plain_number ws (λ n rest. no_more (line.End n) rest) else None))

-- a line, by its first word and those after it: an event begins with the number of who made it
abbrev pub line_by_word : List ℕ → List (List ℕ) → Option JournalLine
line_by_word w ws = elim (maker_of w) [ Some by ↦ event_in by ws | None ↦ named_line w ws ]

-- a line by its words
abbrev pub line_by_words : List (List ℕ) → Option JournalLine
line_by_words [] = None
line_by_words (w ∷ ws) = line_by_word w ws

-- a line without its line feed, of at most 256 bytes; `None` where it is of no form
unfoldable pub journal_line : List ℕ → Option JournalLine
journal_line bytes = if nat_lt LONGEST_LINE (length bytes) then None else line_by_words (words_in bytes)
