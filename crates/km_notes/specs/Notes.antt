-- What is noted of events: the lines of a journal file.
use Rattle.std.specs.Prelude.{◌≡◌, ℕ, List, [], ◌∷◌, ◌++◌, flat_map, map, Result}
use Rattle.km_base.specs.declared.acts.Act.{Act}
use Rattle.km_base.specs.declared.acts.Act.TheVariants.{Read}
use Rattle.km_base.specs.declared.acts.Answer.{Answer}
use Rattle.km_base.specs.declared.acts.Answer.TheVariants.{Done}
use Rattle.km_base.specs.declared.lines.Command.{Command}
use Rattle.km_edge.specs.declared.errors.Failed.{Failed}
use Rattle.km_edge.specs.Streams.{SinkState, WritesAll}
use Rattle.km_model.specs.History.{Event, History}
use Rattle.km_model.specs.Blocks.{Block}
use Rattle.km_model.specs.Follows.{Run, past_of}
use Rattle.km_model.specs.Expansion.{Makes}
use Rattle.km_state.specs.State.{listing_in}
use Rattle.km_track.specs.Tracker.{Live, Tracker}
use Rattle.km_machine.specs.Machines.{For, Simulation}
use Rattle.km_machine.specs.Sayings.{Saying}
use Rattle.km_rounds.specs.declared.entry.Entry.{Entry}
use Rattle.km_rounds.specs.Journals.{Journal, entry, with_journal}
use Rattle.km_entries.specs.declared.lines.JournalLine.TheVariants as line
use Rattle.km_entries.specs.Lines.{journal_line_text, said_of}
use Rattle.km_entries.specs.File.{entry_text, events_text, history_in, listed_text}

-- the line of an event: who made it, the act, and what it was answered
abbrev pub event_line : ℕ → Act → Answer → List ℕ
event_line by act given = journal_line_text (line.Event by act (said_of given))

-- the line of a listed block, by its start
abbrev pub listed_line : ℕ → List ℕ
listed_line start = journal_line_text (line.Listed start)

-- what is noted of an act of a script and its answer, after a history: its line, and those of the blocks that it lists
abbrev pub noted : Saying
noted memory h act given = entry_text (past_of h) (entry 0 act given)

-- the lines of the entries of a journal that reads nothing
abbrev pub journal_lines : Journal → List ℕ
journal_lines journal = flat_map (λ (e : Entry). event_line e.by e.act e.answer) journal

-- entries with those of a journal, which is in order, in front of them
abbrev pub with_entries : List Entry → Journal → List Entry
with_entries ns [] = ns
with_entries ns (e ∷ journal) = with_entries (e ∷ ns) journal

-- no entry of a journal reads the file
abbrev pub ReadsNothing : Journal → Type 0
ReadsNothing [] = Unit {0}
ReadsNothing (e ∷ journal) = (¬ (e.act ≡ Read)) × ReadsNothing journal

-- the starts of the listed ones of these blocks
abbrev pub starts_in : List Live → List ℕ
starts_in ls = map (λ (b : Block). b.start) (listing_in (map (λ (l : Live). l.tracked) ls))

-- the lines of the listed blocks, after a read that was answered so
abbrev pub lines_of_answer : Answer → Tracker → List ℕ
lines_of_answer Done t = listed_text (starts_in t.live)
lines_of_answer _ t = []

-- events of a script as entries
abbrev pub by_script : History → List Entry
by_script events = map (λ (e : Event). entry 0 e.act e.answer) events

-- what the events of a journal file grew by was written, or written up to a fault
pub record Notes (ns ns' : List Entry) (k k' : SinkState) (written : Result (Unit {0}) Failed) : Type 0 where
  pub text : List ℕ
  pub grown : events_text ns' ≡ events_text ns ++ text
  pub wrote : WritesAll k k' text written

-- a line was run. Its events stand in front of those before it, whoever made these, and the journal file has grown by theirs
pub record NotesLine (next : Simulation) (run : Run) (c : Command) (k k' : SinkState) (result : Result (Unit {0}) Failed) : Type 0 where
  pub behind : Run
  pub makes : Makes run c behind
  pub stands : For next behind
  pub new : History
  pub added : behind.history ≡ new ++ run.history
  pub noted : (ns : List Entry) → history_in ns ≡ run.history → Notes ns (by_script new ++ ns) k k' result

-- the journal file grows by the lines of a journal that reads nothing
abbrev pub EntriesAreNoted : Type 0
EntriesAreNoted =
    (ns : List Entry) (journal : Journal) → ReadsNothing journal
    → (history_in (with_entries ns journal) ≡ with_journal (history_in ns) journal) × (events_text (with_entries ns journal) ≡ events_text ns ++ journal_lines journal)
