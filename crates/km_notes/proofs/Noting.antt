-- What is noted of events is what the journal file grows by.
use Rattle.std.proofs.Common.{◌≡◌, ℕ, List, [], ◌∷◌, ◌++◌, length, map, Some, Result, Ok, Err, refl, sym, ap, ◌∙◌, subst, arith, append_assoc, length-append}
use Rattle.std.proofs.lemmas.List.{append-nil}
use Rattle.std.proofs.lemmas.List.Concat.{flat_map-cons}
use Rattle.km_base.specs.declared.acts.Act.{Act}
use Rattle.km_base.specs.declared.acts.Act.TheVariants as act
use Rattle.km_base.specs.declared.acts.Answer.{Answer}
use Rattle.km_base.specs.declared.acts.Answer.TheVariants as answer
use Rattle.km_base.specs.declared.acts.FileCmd.TheVariants as file
use Rattle.km_base.specs.declared.acts.Refusal.{Refusal}
use Rattle.km_base.specs.declared.lines.Command.{Command}
use Rattle.km_base.specs.declared.lines.Command.TheVariants as command
use Rattle.km_base.specs.declared.lines.Operand.{Operand}
use Rattle.km_edge.specs.declared.errors.Failed.{Failed}
use Rattle.km_edge.specs.Streams.{SinkState, WritesAll, Wrote}
use Rattle.km_edge.proofs.Writing.{wrote_none}
use Rattle.km_model.specs.History.{History}
use Rattle.km_model.specs.Blocks.{Block}
use Rattle.km_model.specs.Changes.{world_after_act}
use Rattle.km_model.specs.Follows.{Run, happens, past_of, told_answer}
use Rattle.km_model.specs.Expansion.{Makes, behind_acts, first_acts, world_after}
use Rattle.km_model.specs.Operands.{operand_value, then_do}
use Rattle.km_model.specs.Past.{Past}
use Rattle.km_model.specs.Verdict.{listing}
use Rattle.km_model.proofs.FollowLaws.{makes_keeps}
use Rattle.km_state.specs.State.{listing_in}
use Rattle.km_state.proofs.StandsLaws.{listing_stands}
use Rattle.km_machine.specs.Machines.{For, Simulation}
use Rattle.km_machine.specs.Lines.{HasSaid, SaysLine}
use Rattle.km_machine.specs.Sayings.{said_of}
use Rattle.km_rounds.specs.declared.entry.Entry.{Entry}
use Rattle.km_rounds.specs.Journals.{Journal, entry, with_journal}
use Rattle.km_entries.specs.File.{entry_text, events_text, history_in, listed_after, listed_text}
use Rattle.km_notes.specs.Notes.{EntriesAreNoted, NotesLine, ReadsNothing, by_script, event_line, journal_lines, lines_of_answer, noted, starts_in, with_entries}

-- events stand before others
abbrev Extends : History → Run → Type 0
Extends h run = (new : History) × (run.history ≡ new ++ h)

-- a line's events stand before those that there were
pub line_extends : (run : Run) (c : Command) (behind : Run) → Makes run c behind → Extends run.history behind
line_extends run c behind makes =
    makes_keeps (Extends run.history) (λ r a e. (record { act = a; answer = told_answer r a } ∷ e.0, ap (λ h. record { act = a; answer = told_answer r a } ∷ h) e.1)) run c behind makes ([], refl)

-- the history of entries is that of the events
pub script_history : (new : History) (ns : List Entry) → history_in (by_script new ++ ns) ≡ new ++ history_in ns
script_history [] ns = refl
script_history (e ∷ new) ns = ap (λ h. e ∷ h) (script_history new ns)

-- the journal file grows by what is noted of each event
pub grows : (memory : List ℕ) (new h : History) (ns : List Entry) → history_in ns ≡ h → events_text (by_script new ++ ns) ≡ events_text ns ++ said_of noted memory (length new) (new ++ h)
grows memory [] h ns e = sym (append-nil (events_text ns))
grows memory (x ∷ new) h ns e =
    let last = entry 0 x.act x.answer in
    ap (λ t. t ++ entry_text (past_of (history_in (by_script new ++ ns))) last) (grows memory new h ns e)
    ∙ ap (λ g. (events_text ns ++ said_of noted memory (length new) (new ++ h)) ++ entry_text (past_of g) last) (script_history new ns ∙ ap (λ g. new ++ g) e)
    ∙ append_assoc (events_text ns) (said_of noted memory (length new) (new ++ h)) (noted memory (new ++ h) x.act x.answer)

-- a line that was run and noted
pub noted_line : (next : Simulation) (run : Run) (c : Command) (k k' : SinkState) (written : Result (Unit {0}) Failed) (behind : Run) → Makes run c behind → For next behind
    → HasSaid noted run behind k k' written → NotesLine next run c k k' written
noted_line next run c k k' written behind makes stands said =
    let e = line_extends run c behind makes in
    let count : said.count ≡ length e.0 = omega (arith, said.grown, ap length e.1, length-append e.0 run.history) in
    record {
      behind = behind;
      makes = makes;
      stands = stands;
      new = e.0;
      added = e.1;
      noted = λ ns is. record {
        text = said_of noted run.memory (length e.0) (e.0 ++ run.history);
        grown = grows run.memory e.0 run.history ns is;
        wrote = subst (λ h. WritesAll k k' (said_of noted run.memory (length e.0) h) written) e.1 (subst (λ n. WritesAll k k' (said_of noted run.memory n behind.history) written) count said.wrote);
      };
    }

-- a line that makes no event notes nothing
pub nothing_noted : (next : Simulation) (run : Run) (c : Command) (k k' : SinkState) → Makes run c run → For next run → k' ≡ k → NotesLine next run c k k' (Ok tt)
nothing_noted next run c k k' makes stands same = record {
  behind = run;
  makes = makes;
  stands = stands;
  new = [];
  added = refl;
  noted = λ ns is. record { text = []; grown = sym (append-nil (events_text ns)); wrote = subst (λ x. Wrote k x []) (sym same) (wrote_none k) };
}

-- a line that is refused makes no event
stays : (run behind : Run) (c : Command) (r : Refusal) → first_acts (world_after run.history) c ≡ Err r → Makes run c behind → behind ≡ run
stays run behind (command.Write (Some file.Scan)) r e makes = absurd (let z : ⊥ = cc in z)
stays run behind (command.Step n) r e makes = absurd (let z : ⊥ = cc in z)
stays run behind command.Finish r e makes = absurd (let z : ⊥ = cc in z)
stays run behind (command.Tick n) r e makes = absurd (let z : ⊥ = cc in z)
stays run behind c r e makes = sym makes ∙ ap (behind_acts run c) e

pub refused_noted : (next : Simulation) (run : Run) (c : Command) (k k' : SinkState) (r : Refusal) → SaysLine noted next run c k k' (Err r) → NotesLine next run c k k' (Ok tt)
refused_noted next run c k k' r s =
    let same = stays run s.behind c r s.said.0 s.makes in
    nothing_noted next run c k k' (subst (λ x. Makes run c x) same s.makes) (subst (λ x. For next x) same s.stands) s.said.1

-- nor does one that shows a value
shows_makes : (run : Run) (o : Operand) → Makes run (command.Print o) run
shows_makes run o = by_value (operand_value (world_after run.history) o)
  where
    by_value : (v : Result ℕ Refusal) → behind_acts run (command.Print o) (then_do v (λ _. Ok [])) ≡ run
    by_value (Ok v) = refl
    by_value (Err r) = refl

pub shown_noted : (machine : Simulation) (run : Run) (o : Operand) (k : SinkState) → For machine run → NotesLine machine run (command.Print o) k k (Ok tt)
shown_noted machine run o k f = nothing_noted machine run (command.Print o) k k (shows_makes run o) f refl

-- a read changes no listing
listing_kept : (h : History) → listing (past_of (record { act = act.Read; answer = answer.Done } ∷ h)) ≡ listing (past_of h)
unfolding world_after_act
listing_kept h = refl

-- the blocks that a machine lists after a read that was done are those that the read lists
starts_listed : (machine : Simulation) (run : Run) → For machine (happens run act.Read) → answer.Done ≡ told_answer run act.Read
    → starts_in machine.core.parts.objects.tracker.live ≡ map (λ (b : Block). b.start) (listing (past_of run.history))
starts_listed machine run f done =
    ap (map (λ (b : Block). b.start))
    (sym (ap listing_in f.stands.parts.objects.tracked) ∙ listing_stands machine.core.parts.words (happens run act.Read).history f.state f.stands.history
    ∙ ap (λ (x : Answer). listing (past_of (record { act = act.Read; answer = x } ∷ run.history))) (sym done) ∙ listing_kept run.history)

-- so the lines after a read are those that the journal file has
pub read_lines : (machine : Simulation) (run : Run) (given : Answer) → For machine (happens run act.Read) → given ≡ told_answer run act.Read
    → event_line 0 act.Read given ++ lines_of_answer given machine.core.parts.objects.tracker ≡ entry_text (past_of run.history) (entry 0 act.Read given)
read_lines machine run answer.Done f e = ap (λ xs. event_line 0 act.Read answer.Done ++ listed_text xs) (starts_listed machine run f e)
read_lines machine run (answer.At a) f e = refl
read_lines machine run (answer.Loaded a v) f e = refl
read_lines machine run (answer.Ended k n) f e = refl
read_lines machine run (answer.Stopped k) f e = refl
read_lines machine run answer.Skipped f e = refl
read_lines machine run (answer.Dumped i) f e = refl
read_lines machine run (answer.Refused r) f e = refl

-- an act that doesn't read lists nothing
reads_alone : (past : Past) (a : Act) (given : Answer) → ¬ (a ≡ act.Read) → listed_after past a given ≡ []
reads_alone past (act.Section _ _) given n = refl
reads_alone past (act.TaskStart _) given n = refl
reads_alone past (act.TaskExit _) given n = refl
reads_alone past (act.SetReg _ _ _) given n = refl
reads_alone past (act.Load _ _ _) given n = refl
reads_alone past (act.Store _ _) given n = refl
reads_alone past (act.Kmalloc _) given n = refl
reads_alone past (act.Kfree _) given n = refl
reads_alone past (act.Pages _) given n = refl
reads_alone past (act.FreePages _) given n = refl
reads_alone past (act.VmTake _) given n = refl
reads_alone past (act.VmGive _) given n = refl
reads_alone past (act.BootMem _) given n = refl
reads_alone past (act.FreePart _ _) given n = refl
reads_alone past (act.NotLeak _) given n = refl
reads_alone past (act.Ignore _) given n = refl
reads_alone past (act.NoScan _) given n = refl
reads_alone past (act.ScanArea _ _) given n = refl
reads_alone past (act.TransientLeak _) given n = refl
reads_alone past (act.File _) given n = refl
reads_alone past act.Read given n = absurd (n refl)
reads_alone past (act.Tick _) given n = refl
reads_alone past act.AutoBegin given n = refl
reads_alone past act.Step given n = refl
reads_alone past act.Halt given n = refl

-- so its line is all that is noted of it
other_lines : (past : Past) (e : Entry) → ¬ (e.act ≡ act.Read) → entry_text past e ≡ event_line e.by e.act e.answer
other_lines past e n = ap (λ xs. event_line e.by e.act e.answer ++ listed_text xs) (reads_alone past e.act e.answer n) ∙ append-nil (event_line e.by e.act e.answer)

-- the history of a journal's entries
journal_history : (ns : List Entry) (journal : Journal) → history_in (with_entries ns journal) ≡ with_journal (history_in ns) journal
journal_history ns [] = refl
journal_history ns (e ∷ journal) = journal_history (e ∷ ns) journal

-- the journal file grows by their lines
journal_grows : (ns : List Entry) (journal : Journal) → ReadsNothing journal → events_text (with_entries ns journal) ≡ events_text ns ++ journal_lines journal
journal_grows ns [] none = sym (append-nil (events_text ns))
journal_grows ns (e ∷ journal) none =
    let line = event_line e.by e.act e.answer in
    journal_grows (e ∷ ns) journal none.1
    ∙ ap (λ t. (events_text ns ++ t) ++ journal_lines journal) (other_lines (past_of (history_in ns)) e none.0)
    ∙ append_assoc (events_text ns) line (journal_lines journal)
    ∙ ap (λ t. events_text ns ++ t) (sym (flat_map-cons (λ (x : Entry). event_line x.by x.act x.answer) e journal))

pub entries_noted : EntriesAreNoted
entries_noted ns journal none = (journal_history ns journal, journal_grows ns journal none)
