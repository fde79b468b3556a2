-- A journal file: the text of a history, and the first line that a check refuses.
use Rattle.std.specs.Prelude.{◌≡◌, ℕ, ◌+◌, ◌%◌, ◌^◌, ◌≤◌, Bool, true, false, ◌&&◌, nat_le, nat_lt, ◌==◌, List, [], ◌∷◌, ◌++◌, map, flat_map, length, take, count_by, Some, None, codes, decimal, if◌then◌else◌}
use Rattle.km_base.specs.declared.sizes.TheConstants.{LONGEST_LINE, MOST_WORDS, PAGE_WORDS}
use Rattle.km_base.specs.declared.acts.Act.{Act}
use Rattle.km_base.specs.declared.acts.Act.TheVariants as act
use Rattle.km_base.specs.declared.acts.Answer.{Answer}
use Rattle.km_base.specs.declared.acts.Refusal.{Refusal}
use Rattle.km_base.specs.declared.acts.Refusal.TheVariants.{Busy}
use Rattle.km_base.specs.declared.acts.Answer.TheVariants as answer
use Rattle.km_model.specs.History.{History}
use Rattle.km_model.specs.Blocks.{Block}
use Rattle.km_model.specs.Past.{Past, world, completes}
use Rattle.km_model.specs.Verdict.{listing}
use Rattle.km_model.specs.Answers.{answer as answer_of}
use Rattle.km_model.specs.Follows.{Follows, past_of}
use Rattle.km_model.specs.Headline.{IsMemorySize}
use Rattle.km_model.specs.Text.{as_text_line}
use Rattle.km_model.specs.Output.{between_line_feeds}
use Rattle.km_rounds.specs.declared.entry.Entry.{Entry}
use Rattle.km_rounds.specs.Journals.{event_of}
use Rattle.km_entries.specs.declared.sizes.TheConstants.{LONGEST_JOURNAL}
use Rattle.km_entries.specs.declared.lines.Said.{Said}
use Rattle.km_entries.specs.declared.lines.Said.TheVariants as said
use Rattle.km_entries.specs.declared.lines.JournalLine.{JournalLine}
use Rattle.km_entries.specs.declared.lines.JournalLine.TheVariants as line
use Rattle.km_entries.specs.declared.status.CheckStatus.{CheckStatus}
use Rattle.km_entries.specs.declared.status.CheckStatus.TheVariants as check
use Rattle.km_entries.specs.Lines.{said_of, journal_line_text, refusal_number, CanBeMade, CanBeSaid}
use Rattle.km_entries.specs.Reading.{journal_line}

-- the history of some entries, the newest first: of each entry, who made it (0 the script, else a worker of a round) is left out
abbrev pub history_in : List Entry → History
history_in ns = map event_of ns

-- the starts of the blocks that are listed after an event
abbrev pub listed_after : Past → Act → Answer → List ℕ
listed_after past act.Read answer.Done = map (λ (b : Block). b.start) (listing past)
listed_after past _ _ = []

-- their lines
abbrev pub listed_text : List ℕ → List ℕ
listed_text starts = flat_map (λ a. journal_line_text (line.Listed a)) starts

-- the line of an event, and those that follow it
abbrev pub entry_text : Past → Entry → List ℕ
entry_text past n =
    journal_line_text (line.Event n.by n.act (said_of n.answer)) ++ listed_text (listed_after past n.act n.answer)

-- the lines of a history
abbrev pub events_text : List Entry → List ℕ
events_text [] = []
events_text (n ∷ ns) = events_text ns ++ entry_text (past_of (history_in ns)) n

-- the journal file of a history that began with so many words
abbrev pub journal_text : ℕ → List Entry → List ℕ
journal_text words ns = journal_line_text (line.Head words) ++ events_text ns ++ journal_line_text (line.End (length ns))

-- a history without a made-up number: who made each event, its act and its answer are in their ranges
abbrev pub AreInRange : List Entry → Type 0
AreInRange [] = Unit {0}
AreInRange (n ∷ ns) = (n.by ≤ 9) × CanBeMade n.act × CanBeSaid (said_of n.answer) × AreInRange ns

-- whether an act would move the moment too far
abbrev pub is_too_late : ℕ → Act → Bool
is_too_late now (act.Tick n) = nat_lt (2 ^ 62) (now + n)
is_too_late now _ = false

-- a history none of whose events moves the moment too far
abbrev pub AreTimely : List Entry → Type 0
AreTimely [] = Unit {0}
AreTimely (n ∷ ns) = (is_too_late (world (past_of (history_in ns))).now n.act ≡ false) × AreTimely ns

-- a history whose journal can be checked: its events follow, from a memory of so many words on
pub record IsJournal (words : ℕ) (ns : List Entry) : Type 0 where
  pub memory : IsMemorySize words
  pub in_range : AreInRange ns
  pub follows : Follows words (history_in ns)
  pub timely : AreTimely ns

-- what the lines so far say: none was read; the number of words, the history, and the starts that are still to be listed; or all
pub data Checked : Type 0 where
  Unbegun : Checked
  Going : (words : ℕ) → (ns : List Entry) → (owed : List ℕ) → Checked
  Over : (words : ℕ) → (ns : List Entry) → Checked

-- what a line is: the next one, wrong, or no line of a journal there
pub data Verdict : Type 0 where
  Right : (after : Checked) → Verdict
  IsWrong : Verdict
  IsNoLine : Verdict

-- right if a test holds, else wrong
abbrev pub right_if : Bool → Checked → Verdict
right_if holds after = if holds then Right after else IsWrong

-- whether a memory can have so many words
abbrev pub is_memory_size : ℕ → Bool
is_memory_size words = words % PAGE_WORDS == 0 && nat_le PAGE_WORDS words && nat_le words MOST_WORDS

-- the value that a line gives for a load, or 0
abbrev pub told_in : Said → ℕ
told_in (said.Loaded _ value) = value
told_in _ = 0

-- whether a list is empty
abbrev pub are_none : List ℕ → Bool
are_none [] = true
are_none (_ ∷ _) = false

-- the scan that a refusal names, or 0
abbrev pub scan_of : Refusal → ℕ
scan_of (Busy k) = k
scan_of _ = 0

-- whether two answers are the same as they are written
abbrev pub same_said : Said → Said → Bool
same_said said.Done said.Done = true
same_said (said.At a) (said.At b) = a == b
same_said (said.Loaded a value) (said.Loaded b other) = a == b && value == other
same_said (said.Ended scan new) (said.Ended other more) = scan == other && new == more
same_said (said.Stopped scan) (said.Stopped other) = scan == other
same_said said.Skipped said.Skipped = true
same_said said.Dumped said.Dumped = true
same_said (said.Refused r) (said.Refused q) = refusal_number r == refusal_number q && scan_of r == scan_of q
same_said _ _ = false

-- an event that was answered stands before the earlier ones
abbrev pub with_entry : ℕ → List Entry → ℕ → Act → Answer → Checked
with_entry words ns by act given = Going words (record { by = by; act = act; answer = given } ∷ ns) (listed_after (past_of (history_in ns)) act given)

-- an event line: its answer has to be the one that the lines before it give, where the line gives the value of a load
abbrev pub event_verdict : ℕ → List Entry → ℕ → Act → Said → Verdict
event_verdict words ns by act said =
    let given = answer_of words (past_of (history_in ns)) act (told_in said) in
    right_if (same_said (said_of given) said) (with_entry words ns by act given)

-- a line after the first
abbrev pub going_verdict : ℕ → List Entry → List ℕ → JournalLine → Verdict
going_verdict words ns owed (line.Head _) = IsNoLine
going_verdict words ns owed (line.Event by act said) =
    if is_too_late (world (past_of (history_in ns))).now act then IsNoLine
    else (if are_none owed then event_verdict words ns by act said else IsWrong)
going_verdict words ns [] (line.Listed a) = IsWrong
going_verdict words ns (b ∷ owed) (line.Listed a) = right_if (a == b) (Going words ns owed)
going_verdict words ns owed (line.End n) = right_if (are_none owed && n == length ns) (Over words ns)

-- a line
abbrev pub verdict_of : Checked → JournalLine → Verdict
verdict_of Unbegun (line.Head words) = if is_memory_size words then Right (Going words [] []) else IsNoLine
verdict_of Unbegun _ = IsNoLine
verdict_of (Going words ns owed) l = going_verdict words ns owed l
verdict_of (Over words ns) l = IsNoLine

-- the bytes of a line without its line feed
abbrev pub verdict : Checked → List ℕ → Verdict
verdict c bytes = elim (journal_line bytes) [ None ↦ IsNoLine | Some l ↦ verdict_of c l ]

-- how a check ends, and what the right lines before that say
pub record Outcome : Type 0 where
  pub status : CheckStatus
  pub after : Checked

-- by the verdict on line n
abbrev pub outcome_then : ℕ → Checked → Verdict → (Checked → Outcome) → Outcome
outcome_then n c (Right after) rest = rest after
outcome_then n c IsWrong rest = record { status = check.Wrong n; after = c }
outcome_then n c IsNoLine rest = record { status = check.NotALine n; after = c }

-- how a check ends from line n on; `end` is said of the piece after the last line feed
abbrev pub outcome_from : (ℕ → Checked → List ℕ → CheckStatus) → ℕ → Checked → List (List ℕ) → Outcome
outcome_from end n c [] = record { status = end n c []; after = c }
outcome_from end n c (l ∷ []) = record { status = end n c l; after = c }
outcome_from end n c (l ∷ m ∷ ls) = outcome_then n c (verdict c l) (λ after. outcome_from end (n + 1) after (m ∷ ls))

-- whether all lines were read
abbrev pub is_over : Checked → Bool
is_over (Over _ _) = true
is_over _ = false

-- at the end of the input: a piece without a line feed is no line
abbrev pub at_end : ℕ → Checked → List ℕ → CheckStatus
at_end n c (_ ∷ _) = check.NotALine n
at_end n c [] = if is_over c then check.Ok else check.Cut

-- where the input goes on after the limit: a piece that is too long for a line is none
abbrev pub at_limit : ℕ → Checked → List ℕ → CheckStatus
at_limit n c rest = if nat_le (length rest) LONGEST_LINE then check.TooLong else check.NotALine n

-- the most bytes of a journal file
abbrev pub limit : ℕ
limit = LONGEST_JOURNAL

-- how a check of a journal file ends
abbrev pub outcome_of : List ℕ → Outcome
outcome_of bytes =
    if nat_le (length bytes) limit
    then outcome_from at_end 1 Unbegun (between_line_feeds bytes)
    else outcome_from at_limit 1 Unbegun (between_line_feeds (take limit bytes))

-- the number of completed scans
abbrev pub scans_completed : List Entry → ℕ
scans_completed ns = count_by (λ (n : Entry). completes n.answer) ns

-- the text of a whole journal
abbrev pub ok_text : ℕ → ℕ → List ℕ
ok_text events scans = as_text_line (codes "kmcheck: ok, " ++ decimal events ++ codes " events, " ++ decimal scans ++ codes " scans")

-- the texts of a line that is wrong, and of one that is no line
abbrev pub wrong_text : ℕ → List ℕ
wrong_text n = as_text_line (codes "kmcheck: wrong at line " ++ decimal n)

abbrev pub no_line_text : ℕ → List ℕ
no_line_text n = as_text_line (codes "kmcheck: not a journal line: " ++ decimal n)

-- the text of a journal without its end
abbrev pub cut_text : List ℕ
cut_text = as_text_line (codes "kmcheck: cut")

-- the text of a journal that was read to its end
abbrev pub text_over : Checked → List ℕ
text_over (Over words ns) = ok_text (length ns) (scans_completed ns)
text_over _ = []

-- what a check that ends so writes
abbrev pub outcome_text : CheckStatus → Checked → List ℕ
outcome_text check.Ok c = text_over c
outcome_text (check.Wrong n) c = wrong_text n
outcome_text (check.NotALine n) c = no_line_text n
outcome_text check.Cut c = cut_text
outcome_text _ c = []

-- what a check of some bytes writes
abbrev pub check_text : List ℕ → List ℕ
check_text bytes = let end = outcome_of bytes in outcome_text end.status end.after
