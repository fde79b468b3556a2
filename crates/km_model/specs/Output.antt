use Rattle.std.specs.Prelude.{◌≡◌, ℕ, zero, suc, ◌+◌, ◌-◌, Bool, true, false, nat_le, ◌==◌, List, [], ◌∷◌, ◌++◌, flat_map, take, length, Result, Ok, Err, codes, if◌then◌else◌}
use Rattle.km_base.specs.declared.sizes.TheConstants.{LONGEST_INPUT, LONGEST_LINE}
use Rattle.km_base.specs.declared.acts.Act.{Act}
use Rattle.km_base.specs.declared.acts.Act.TheVariants as act
use Rattle.km_base.specs.declared.acts.Answer.{Answer}
use Rattle.km_base.specs.declared.acts.Answer.TheVariants.{Done, At, Loaded, Ended, Stopped, Skipped, Dumped, Refused}
use Rattle.km_base.specs.declared.acts.Refusal.{Refusal}
use Rattle.km_base.specs.declared.lines.Command.{Command}
use Rattle.km_base.specs.declared.lines.Command.TheVariants.{Memory, Kmalloc, Kzalloc, Pages, Vmalloc, BootMem, Print}
use Rattle.km_base.specs.declared.lines.Line.{Line}
use Rattle.km_base.specs.declared.lines.Line.TheVariants as line
use Rattle.km_base.specs.declared.lines.NotACommand.{NotACommand}
use Rattle.km_base.specs.declared.status.Status.{Status}
use Rattle.km_base.specs.declared.status.Status.TheVariants as status
use Rattle.km_model.specs.History.{History}
use Rattle.km_model.specs.Verdict.{listing}
use Rattle.km_model.specs.Follows.{Run, first_run, past_of}
use Rattle.km_model.specs.Grammar.{Rule, rules, line_by, line_of}
use Rattle.km_model.specs.Operands.{operand_value}
use Rattle.km_model.specs.Text.{at_text, value_text, refusal_text, new_text, stopped_text, not_a_command_text, entry, dump_text}
use Rattle.km_model.specs.Expansion.{world_after, first_acts, Makes}

-- the entries that a read prints after a history, where the words hold this
abbrev pub listing_text : List ℕ → History → List ℕ
listing_text memory h = flat_map (entry (world_after h).now memory) (listing (past_of h))

-- what the answer to an act prints, where the words hold this; `word` is the first word of the line. No line writes `why`, so nothing is said of what it prints
abbrev pub answer_text : List ℕ → List ℕ → History → Act → Answer → List ℕ
answer_text memory word h act.Read Done = listing_text memory h
answer_text memory word h _ Done = []
answer_text memory word h _ (At a) = at_text word a
answer_text memory word h _ (Loaded _ _) = []
answer_text memory word h _ (Ended _ new) = new_text new
answer_text memory word h _ (Stopped scan) = stopped_text scan
answer_text memory word h _ Skipped = []
answer_text memory word h _ (Dumped info) = dump_text info
answer_text memory word h _ (Refused r) = refusal_text r

-- what the newest events of a history print, as many as are counted, where the words hold this
abbrev pub events_text : List ℕ → List ℕ → ℕ → History → List ℕ
events_text memory word zero h = []
events_text memory word (suc n) [] = []
events_text memory word (suc n) (e ∷ h) = events_text memory word n h ++ answer_text memory word h e.act e.answer

-- the first word of an allocation
abbrev pub keyword : Command → List ℕ
keyword (Kmalloc _ _) = codes "kmalloc"
keyword (Kzalloc _ _) = codes "kzalloc"
keyword (Pages _ _) = codes "pages"
keyword (Vmalloc _ _) = codes "vmalloc"
keyword (BootMem _ _) = codes "bootmem"
keyword _ = []

-- the text of a value that was found
abbrev pub print_value : Result ℕ Refusal → List ℕ
print_value (Ok v) = value_text v
print_value (Err _) = []

-- what a line prints besides its events
abbrev pub print_text : History → Command → List ℕ
print_text h (Print value) = print_value (operand_value (world_after h) value)
print_text h _ = []

-- what a line prints that leads from one run to another. A line that reads does nothing else, so that the words which
-- it shows are those before it
abbrev pub line_text : Run → Command → Run → List ℕ
line_text run c run' =
    elim (first_acts (world_after run.history) c) [
      | Err r ↦ refusal_text r
      | Ok _ ↦
          print_text run.history c
          ++ events_text run.memory (keyword c) (length run'.history - length run.history) run'.history
    ]

-- a byte stands before the first piece of a list
abbrev pub put_in_first : ℕ → List (List ℕ) → List (List ℕ)
put_in_first c [] = (c ∷ []) ∷ []
put_in_first c (l ∷ ls) = (c ∷ l) ∷ ls

-- the pieces between line feeds: one more than there are line feeds
abbrev pub between_line_feeds : List ℕ → List (List ℕ)
between_line_feeds [] = [] ∷ []
between_line_feeds (c ∷ cs) = if c == 10 then [] ∷ between_line_feeds cs else put_in_first c (between_line_feeds cs)

-- the lines without the piece behind the last line feed, if that is dropped
abbrev pub all_but_last : (List ℕ → Bool) → List (List ℕ) → List (List ℕ)
all_but_last dropped [] = []
all_but_last dropped (l ∷ []) = if dropped l then [] else l ∷ []
all_but_last dropped (l ∷ m ∷ ls) = l ∷ all_but_last dropped (m ∷ ls)

-- whether a piece has no byte
abbrev pub is_empty : List ℕ → Bool
is_empty [] = true
is_empty (_ ∷ _) = false

-- the greatest length of a script
abbrev pub limit : ℕ
limit = LONGEST_INPUT

-- a line that isn't whole within the limit counts only if its byte 257 is within it
abbrev pub is_unread : List ℕ → Bool
is_unread l = nat_le (length l) LONGEST_LINE

-- the lines of some bytes, without the piece after the last line feed where that is dropped
abbrev pub lines_in : (List ℕ → Bool) → List ℕ → List (List ℕ)
lines_in dropped bytes = all_but_last dropped (between_line_feeds bytes)

-- the lines of an input, as far as it is read under a limit
abbrev pub lines_within : ℕ → List ℕ → List (List ℕ)
lines_within most bytes = if nat_le (length bytes) most then lines_in is_empty bytes else lines_in is_unread (take most bytes)

-- the lines of a script, as far as they are read
abbrev pub lines_of : List ℕ → List (List ℕ)
lines_of bytes = lines_within limit bytes

-- how a script ends by a line, as it was read, and by the lines behind it; `first`: no command was read yet, `n`: the line's number
abbrev pub status_then : Bool → ℕ → Result Line NotACommand → (Bool → Status) → Status
status_then first n (Err e) rest = status.NotACommand n e.column
status_then first n (Ok line.Blank) rest = rest first
status_then first n (Ok (line.Command _)) rest = rest false

-- how a script of these lines ends, by a table of commands
abbrev pub status_from : List Rule → Status → Bool → ℕ → List (List ℕ) → Status
status_from table otherwise first n [] = otherwise
status_from table otherwise first n (l ∷ ls) =
    status_then first n (line_by table first l) (λ first'. status_from table otherwise first' (n + 1) ls)

-- how a script ends that has no line that is no command
abbrev pub end_of_script : List ℕ → Status
end_of_script bytes = if nat_le (length bytes) limit then status.Ok else status.TooLong

-- how a script ends by a table of commands, where nothing fails
abbrev pub status_by : List Rule → List ℕ → Status
status_by table bytes = status_from table (end_of_script bytes) true 1 (lines_of bytes)

-- the same by the whole table
abbrev pub status_of : List ℕ → Status
status_of bytes = status_by rules bytes

-- the number of command lines in a line, as it was read, and in the lines behind it
abbrev pub commands_then : Bool → Result Line NotACommand → (Bool → ℕ) → ℕ
commands_then first (Err _) rest = 0
commands_then first (Ok line.Blank) rest = rest first
commands_then first (Ok (line.Command _)) rest = rest false + 1

-- the number of command lines, by a table of commands
abbrev pub commands_in : List Rule → Bool → List (List ℕ) → ℕ
commands_in table first [] = 0
commands_in table first (l ∷ ls) = commands_then first (line_by table first l) (λ first'. commands_in table first' ls)

-- a script between two lines: not begun, or with its run
pub data Script : Type 0 where
  Fresh : Script
  Begun : (run : Run) → Script

-- whether no command was read yet
abbrev pub is_fresh : Script → Bool
is_fresh Fresh = true
is_fresh (Begun _) = false

-- a command leads from one state of a script to another, and prints a text
abbrev pub Leads : Script → Command → Script → List ℕ → Type 0
Leads Fresh (Memory words) s out = (s ≡ Begun (first_run words)) × (out ≡ [])
Leads Fresh _ s out = ⊥
Leads (Begun run) c s out = (run' : Run) × Makes run c run' × (s ≡ Begun run') × (out ≡ line_text run c run')

-- a line that isn't refused
abbrev pub LeadsLine : Script → Line → Script → List ℕ → Type 0
LeadsLine s line.Blank s' out = (s' ≡ s) × (out ≡ [])
LeadsLine s (line.Command c) s' out = Leads s c s' out

-- a line number n, as it was read, and then what the lines behind it lead to
abbrev pub LineThen : Result Line NotACommand → Script → ℕ → (Script → Script → List ℕ → Type 0) → Script → List ℕ → Type 0
LineThen (Err e) s n Rest s' out = (s' ≡ s) × (out ≡ not_a_command_text n e.column)
LineThen (Ok l) s n Rest s' out =
    (between : Script) × (text rest : List ℕ) × LeadsLine s l between text × Rest between s' rest × (out ≡ text ++ rest)

-- these lines lead from one state to another, up to the first that is no command, and print a text
abbrev pub Prints : Script → ℕ → List (List ℕ) → Script → List ℕ → Type 0
Prints s n [] s' out = (s' ≡ s) × (out ≡ [])
Prints s n (l ∷ ls) s' out = LineThen (line_of (is_fresh s) l) s n (λ between end rest. Prints between (n + 1) ls end rest) s' out

-- the output of a script, and where it leads
abbrev pub IsRun : List ℕ → Script → List ℕ → Type 0
IsRun bytes s out = Prints Fresh 1 (lines_of bytes) s out

-- the output of a script
abbrev pub IsOut : List ℕ → List ℕ → Type 0
IsOut bytes out = (s : Script) × IsRun bytes s out
