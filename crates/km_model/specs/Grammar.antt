use Rattle.std.specs.Prelude.{ℕ, ◌+◌, ◌%◌, Bool, true, false, ◌&&◌, not, nat_le, nat_lt, ◌==◌, List, [], ◌∷◌, length, Option, Some, None, Result, Ok, Err, option_map, position, bytes_eq, codes, if◌then◌else◌}
use Rattle.km_base.specs.declared.sizes.TheConstants.{LONGEST_LINE, MOST_WORDS, PAGE_WORDS, TOO_LONG}
use Rattle.km_base.specs.declared.acts.Reg.{Reg}
use Rattle.km_base.specs.declared.acts.Reg.TheVariants.{R0, R1, R2, R3}
use Rattle.km_base.specs.declared.acts.FileCmd.{FileCmd}
use Rattle.km_base.specs.declared.acts.FileCmd.TheVariants.{Off, StackOn, StackOff, ScanOn, ScanOff, ScanEvery, Scan, Clear, Dump}
use Rattle.km_base.specs.Numbers.{number_of}
use Rattle.km_base.specs.Names.{name_of}
use Rattle.km_base.specs.Prefix.{behind_prefix}
use Rattle.km_base.specs.declared.lines.Base.{Base}
use Rattle.km_base.specs.declared.lines.Base.TheVariants as base
use Rattle.km_base.specs.declared.lines.Operand.{Operand}
use Rattle.km_base.specs.declared.lines.RegName.{RegName}
use Rattle.km_base.specs.declared.lines.Command.{Command}
use Rattle.km_base.specs.declared.lines.Command.TheVariants as command
use Rattle.km_base.specs.declared.lines.Line.{Line}
use Rattle.km_base.specs.declared.lines.Line.TheVariants as line
use Rattle.km_base.specs.declared.lines.NotACommand.{NotACommand}
use Rattle.km_model.specs.Held.{same_bool}
use Rattle.km_model.specs.Pieces.{Piece, pieces, is_blank, up_to, behind_first}

-- the value of an `Ok`
abbrev pub ok_value : {A E : Type 0} → Result A E → Option A
ok_value (Ok a) = Some a
ok_value (Err _) = None

-- a number within 64 bits
abbrev pub number : List ℕ → Option ℕ
number word = ok_value (number_of word)

-- a number, if it is in a range
abbrev pub within : ℕ → ℕ → Option ℕ → Option ℕ
within low high None = None
within low high (Some n) = if nat_le low n && nat_le n high then Some n else None

-- a number in a range
abbrev pub number_within : ℕ → ℕ → List ℕ → Option ℕ
number_within low high word = within low high (number word)

-- a number, if it is a multiple of another
abbrev pub multiple_of : ℕ → Option ℕ → Option ℕ
multiple_of m None = None
multiple_of m (Some n) = if n % m == 0 then Some n else None

-- a number of words that a memory can have
abbrev pub memory_size : List ℕ → Option ℕ
memory_size word = multiple_of PAGE_WORDS (number_within PAGE_WORDS MOST_WORDS word)

-- r0 to r3
abbrev pub register_suffix : List ℕ → Option Reg
register_suffix word =
    if bytes_eq word (codes "r0") then Some R0
    else (if bytes_eq word (codes "r1") then Some R1
    else (if bytes_eq word (codes "r2") then Some R2
    else (if bytes_eq word (codes "r3") then Some R3 else None)))

-- a task and a register, if both are there
abbrev pub reg_name : Option (List ℕ) → Option Reg → Option RegName
reg_name (Some task) (Some reg) = Some (record { task = task; reg = reg })
reg_name _ _ = None

-- TASK.r0 to TASK.r3
abbrev pub register_of : List ℕ → Option RegName
register_of word =
    elim (behind_first 46 word) [ None ↦ None | Some suffix ↦ reg_name (name_of (up_to 46 word)) (register_suffix suffix) ]

-- a register as the base of an operand
abbrev pub register_base : RegName → Base
register_base r = base.Reg r.task r.reg

-- a number, a register, a stack or a section
abbrev pub base_of : List ℕ → Option Base
base_of word =
    elim (number word) [
      | Some n ↦ Some (base.Number n)
      | None ↦ elim (behind_first 46 word) [
        | None ↦ option_map base.Section (name_of word)
        | Some suffix ↦
            if bytes_eq suffix (codes "stack")
            then option_map base.Stack (name_of (up_to 46 word))
            else option_map register_base (register_of word)
      ]
    ]

-- a base and a number, if both are there
abbrev pub with_plus : Option Base → Option ℕ → Option Operand
with_plus (Some b) (Some n) = Some (record { base = b; plus = n })
with_plus _ _ = None

-- a base, or a base, `+` and a number
abbrev pub operand : List ℕ → Option Operand
operand word =
    elim (behind_first 43 word) [
      | None ↦ with_plus (base_of word) (Some 0)
      | Some n ↦ with_plus (base_of (up_to 43 word)) (number n)
    ]

-- a word that is written to the file
abbrev pub file_command : List ℕ → Option FileCmd
file_command word =
    if bytes_eq word (codes "off") then Some Off
    else (if bytes_eq word (codes "stack=on") then Some StackOn
    else (if bytes_eq word (codes "stack=off") then Some StackOff
    else (if bytes_eq word (codes "scan=on") then Some ScanOn
    else (if bytes_eq word (codes "scan=off") then Some ScanOff
    else (if bytes_eq word (codes "scan") then Some Scan
    else (if bytes_eq word (codes "clear") then Some Clear
    else (elim (behind_prefix (codes "scan=") word) [
      | Some n ↦ option_map ScanEvery (number_within 0 86400 n)
      | None ↦ elim (behind_prefix (codes "dump=") word) [ Some n ↦ option_map Dump (number n) | None ↦ None ]
    ])))))))

-- a command, or the column of the first word that doesn't fit or is missing
abbrev pub Reading : Type 0
Reading = Result Command NotACommand

-- a line that is refused at a column
abbrev pub refused_at : ℕ → Reading
refused_at column = Err (record { column = column })

-- no word is left
abbrev pub at_end : List Piece → Command → Reading
at_end [] c = Ok c
at_end (p ∷ _) c = refused_at p.column

-- the next word has this form; the rest is read with what it says. A word that is missing is missing at `end`
abbrev pub then_word : {A : Type 0} → (List ℕ → Option A) → ℕ → List Piece → (A → List Piece → Reading) → Reading
then_word read end [] rest = refused_at end
then_word read end (p ∷ ps) rest = elim (read p.bytes) [ None ↦ refused_at p.column | Some a ↦ rest a ps ]

-- one word of this form, and no other
abbrev pub one_word : {A : Type 0} → (List ℕ → Option A) → ℕ → List Piece → (A → Command) → Reading
one_word read end ps make = then_word read end ps (λ a rest. at_end rest (make a))

-- one word of each of these forms, and no other
abbrev pub two_words : {A B : Type 0} → (List ℕ → Option A) → (List ℕ → Option B) → ℕ → List Piece → (A → B → Command) → Reading
two_words read read' end ps make = then_word read end ps (λ a rest. one_word read' end rest (make a))

-- a register or nothing
abbrev pub may_name_register : List Piece → (Option RegName → Command) → Reading
may_name_register [] make = Ok (make None)
may_name_register (p ∷ ps) make =
    elim (register_of p.bytes) [ None ↦ refused_at p.column | Some r ↦ at_end ps (make (Some r)) ]

-- a number, and a register or nothing
abbrev pub allocation : ℕ → List Piece → (ℕ → Option RegName → Command) → Reading
allocation end ps make = then_word number end ps (λ n rest. may_name_register rest (make n))

-- a command's first word, and how the words behind it are read in a line that ends before a column
pub record Rule : Type 0 where
  pub keyword : List ℕ
  pub read : ℕ → List Piece → Reading

-- no words at all
abbrev pub alone : Command → ℕ → List Piece → Reading
alone c end ps = at_end ps c

-- a word of any form
abbrev pub any_word : List ℕ → Option (List ℕ)
any_word word = Some word

-- the table of commands
abbrev pub rules : List Rule
rules =
    record { keyword = codes "memory"; read = λ end ps. one_word memory_size end ps command.Memory }
    ∷ record { keyword = codes "section"; read = λ end ps. two_words name_of number end ps command.Section }
    ∷ record { keyword = codes "task"; read = λ end ps. one_word name_of end ps command.Task }
    ∷ record { keyword = codes "exit"; read = λ end ps. one_word name_of end ps command.Exit }
    ∷ record { keyword = codes "set"; read = λ end ps. two_words register_of operand end ps command.Set }
    ∷ record { keyword = codes "load"; read = λ end ps. two_words register_of operand end ps command.Load }
    ∷ record { keyword = codes "store"; read = λ end ps. two_words operand operand end ps command.Store }
    ∷ record { keyword = codes "erase"; read = λ end ps. one_word operand end ps command.Erase }
    ∷ record { keyword = codes "print"; read = λ end ps. one_word operand end ps command.Print }
    ∷ record { keyword = codes "kmalloc"; read = λ end ps. allocation end ps command.Kmalloc }
    ∷ record { keyword = codes "kzalloc"; read = λ end ps. allocation end ps command.Kzalloc }
    ∷ record { keyword = codes "kfree"; read = λ end ps. one_word operand end ps command.Kfree }
    ∷ record { keyword = codes "pages"; read = λ end ps. allocation end ps command.Pages }
    ∷ record { keyword = codes "freepages"; read = λ end ps. one_word operand end ps command.FreePages }
    ∷ record { keyword = codes "vmalloc"; read = λ end ps. allocation end ps command.Vmalloc }
    ∷ record { keyword = codes "vfree"; read = λ end ps. one_word operand end ps command.Vfree }
    ∷ record { keyword = codes "bootmem"; read = λ end ps. allocation end ps command.BootMem }
    ∷ record { keyword = codes "free_part"; read = λ end ps. two_words operand number end ps command.FreePart }
    ∷ record { keyword = codes "not_leak"; read = λ end ps. one_word operand end ps command.NotLeak }
    ∷ record { keyword = codes "ignore"; read = λ end ps. one_word operand end ps command.Ignore }
    ∷ record { keyword = codes "no_scan"; read = λ end ps. one_word operand end ps command.NoScan }
    ∷ record { keyword = codes "scan_area"; read = λ end ps. two_words operand number end ps command.ScanArea }
    ∷ record { keyword = codes "transient_leak"; read = λ end ps. one_word operand end ps command.TransientLeak }
    ∷ record { keyword = codes "write"; read = λ end ps. one_word any_word end ps (λ word. command.Write (file_command word)) }
    ∷ record { keyword = codes "read"; read = alone command.Read }
    ∷ record { keyword = codes "tick"; read = λ end ps. one_word (number_within 0 3600000) end ps command.Tick }
    ∷ record { keyword = codes "begin"; read = alone command.Begin }
    ∷ record { keyword = codes "step"; read = λ end ps. one_word (number_within 1 1000000) end ps command.Step }
    ∷ record { keyword = codes "finish"; read = alone command.Finish }
    ∷ []

-- the first of these rules that has the word is applied
abbrev pub apply_rule : List Rule → Piece → ℕ → List Piece → Reading
apply_rule [] p end ps = refused_at p.column
apply_rule (rule ∷ rules) p end ps =
    elim (bytes_eq rule.keyword p.bytes) [ true ↦ rule.read end ps | false ↦ apply_rule rules p end ps ]

-- a command as a line
abbrev pub as_line : Reading → Result Line NotACommand
as_line (Ok c) = Ok (line.Command c)
as_line (Err e) = Err e

-- the words of a line that ends before a column, by a table of commands. The first command is `memory`, and no other
abbrev pub words_read : List Rule → Bool → ℕ → List Piece → Result Line NotACommand
words_read table first end [] = Ok line.Blank
words_read table first end (p ∷ ps) =
    if same_bool (bytes_eq p.bytes (codes "memory")) first
    then as_line (apply_rule table p end ps)
    else Err (record { column = p.column })

-- a comment's first byte that isn't a blank is `#`
abbrev pub is_comment : List Piece → Bool
is_comment [] = false
is_comment (p ∷ _) = elim p.bytes [ [] ↦ false | c ∷ _ ↦ c == 35 ]

-- a byte that no command has
abbrev pub is_foreign : ℕ → Bool
is_foreign c = not (is_blank c) && not (nat_le 32 c && nat_le c 126)

-- a line that is neither blank nor a comment
abbrev pub command_line : List Rule → Bool → List ℕ → Result Line NotACommand
command_line table first bytes =
    elim (position is_foreign bytes) [
      | Some i ↦ Err (record { column = i + 1 })
      | None ↦ words_read table first (length bytes + 1) (pieces bytes)
    ]

-- a line without its line feed, by a table of commands; `first` says that no command was read before
unfoldable pub line_by : List Rule → Bool → List ℕ → Result Line NotACommand
line_by table first bytes =
    if nat_lt LONGEST_LINE (length bytes) then Err (record { column = TOO_LONG })
    else (if is_comment (pieces bytes) then Ok line.Blank
    else (elim (pieces bytes) [ [] ↦ Ok line.Blank | _ ∷ _ ↦ command_line table first bytes ]))

-- the same by the whole table
abbrev pub line_of : Bool → List ℕ → Result Line NotACommand
line_of first bytes = line_by rules first bytes
