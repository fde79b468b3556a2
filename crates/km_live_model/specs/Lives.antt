-- What a live script comes to and prints. Several histories and texts are allowed, since the workers of a round share
-- words and a core.
use Rattle.std.specs.Prelude.{◌≡◌, ℕ, ◌+◌, Bool, List, [], ◌∷◌, ◌++◌, flat_map, map, Ok, Err, codes, decimal, slice_index, if◌then◌else◌}
use Rattle.km_base.specs.declared.acts.Act.{Act}
use Rattle.km_base.specs.declared.acts.Act.TheVariants.{SetReg}
use Rattle.km_base.specs.declared.acts.Reg.{Reg}
use Rattle.km_base.specs.declared.acts.Reg.TheVariants.{R0, R1, R2, R3}
use Rattle.km_base.specs.declared.acts.Answer.{Answer}
use Rattle.km_base.specs.declared.acts.Answer.TheVariants.{Ended, Stopped}
use Rattle.km_base.specs.declared.status.Status.{Status}
use Rattle.km_base.specs.declared.status.Status.TheVariants as status
use Rattle.km_model.specs.History.{History}
use Rattle.km_model.specs.Tasks.{place_of}
use Rattle.km_model.specs.Follows.{Run, past_of, all_happen}
use Rattle.km_model.specs.Text.{as_text_line, new_text, stopped_text, refusal_text, not_a_command_text}
use Rattle.km_model.specs.Output.{Script, Fresh, Begun, Leads, is_fresh, lines_of, end_of_script}
use Rattle.km_rounds.specs.declared.entry.Entry.{Entry}
use Rattle.km_rounds.specs.Orders.{Order, words_after}
use Rattle.km_rounds.specs.Journals.{Journal, with_journal}
use Rattle.km_live_model.specs.declared.lines.LiveLine.{LiveLine}
use Rattle.km_live_model.specs.declared.lines.LiveLine.TheVariants as live
use Rattle.km_live_model.specs.LiveGrammar.{LiveReading}
use Rattle.km_live_model.specs.Threads.{Thread, Threads, no_threads, line_at, threads_after, end_at}
use Rattle.km_live_model.specs.Courses.{Mutator}
use Rattle.km_live_model.specs.Rounds.{Job, jobs_at, IsRound}

-- a full journal
abbrev pub journal_full_text : ℕ → List ℕ
journal_full_text n = as_text_line (codes "kmlive: journal full at " ++ decimal n ++ codes " entries")

-- what an answer in a journal prints: the end of a scan alone
abbrev pub scan_text : Answer → List ℕ
scan_text (Ended _ new) = new_text new
scan_text (Stopped scan) = stopped_text scan
scan_text _ = []

-- what a round prints
abbrev pub round_text : ℕ → Journal → Bool → List ℕ
round_text entries journal full =
    flat_map (λ (e : Entry). scan_text e.answer) journal ++ (if full then journal_full_text entries else [])

-- the registers of a thread become its task's
abbrev pub register_acts : List ℕ → List ℕ → List Act
register_acts task registers =
    map (λ (reg : Reg). SetReg task reg (slice_index registers (place_of reg))) (R0 ∷ R1 ∷ R2 ∷ R3 ∷ [])

-- those of all threads, in their order
abbrev pub all_register_acts : List Job → List Mutator → List Act
all_register_acts [] ends = []
all_register_acts (job ∷ jobs) [] = []
all_register_acts (job ∷ jobs) (m ∷ ends) = register_acts job.task m.registers ++ all_register_acts jobs ends

-- a run with a journal and the words that an order leaves
abbrev pub with_round : Run → Journal → Order → Run
with_round r journal order = record r { history = with_journal r.history journal; memory = words_after r.memory order }

-- a round of these jobs leads from one run to another, and prints a text
pub record RoundLeads (r : Run) (jobs : List Job) (scans gap entries : ℕ) (r' : Run) (out : List ℕ) : Type 0 where
  pub journal : Journal
  pub order : Order
  pub ends : List Mutator
  pub full : Bool
  pub is_round : IsRound r.words r.history r.memory jobs scans gap entries journal order ends full
  pub after : r' ≡ all_happen (with_round r journal order) (all_register_acts jobs ends)
  pub printed : out ≡ round_text entries journal full

-- a `round` line does, or it is refused
abbrev pub LeadsByRound : Run → List Thread → ℕ → ℕ → ℕ → Run → List ℕ → Type 0
LeadsByRound r threads scans gap entries r' out =
    elim (jobs_at (past_of r.history) threads) [
      | Err refusal ↦ (r' ≡ r) × (out ≡ refusal_text refusal)
      | Ok jobs ↦ RoundLeads r jobs scans gap entries r' out
    ]

-- a live script between two lines: what the lines came to, and the threads that stand
pub record LiveScript : Type 0 where
  pub script : Script
  pub threads : Threads

-- before the first line
abbrev pub live_start : LiveScript
live_start = record { script = Fresh; threads = no_threads }

-- a `round` line leads from one state of a script to another, and prints a text. None stands before `memory`
abbrev pub RoundLine : Script → List Thread → ℕ → ℕ → ℕ → Script → List ℕ → Type 0
RoundLine Fresh threads scans gap entries s out = ⊥
RoundLine (Begun run) threads scans gap entries s out =
    (run' : Run) × LeadsByRound run threads scans gap entries run' out × (s ≡ Begun run')

-- a line that isn't refused leads from one state to another
abbrev pub LeadsLive : Script → List Thread → LiveLine → Script → List ℕ → Type 0
LeadsLive s threads (live.Command c) s' out = Leads s c s' out
LeadsLive s threads (live.Round scans gap entries) s' out = RoundLine s threads scans gap entries s' out
LeadsLive s threads live.Blank s' out = (s' ≡ s) × (out ≡ [])
LeadsLive s threads (live.Thread _) s' out = (s' ≡ s) × (out ≡ [])
LeadsLive s threads live.End s' out = (s' ≡ s) × (out ≡ [])
LeadsLive s threads (live.InThread _) s' out = (s' ≡ s) × (out ≡ [])

-- what the end of a script prints
abbrev pub end_text : Status → List ℕ
end_text (status.NotACommand n column) = not_a_command_text n column
end_text _ = []

-- a line number n, as it was read, and then what the lines after it lead to
abbrev pub LiveLineThen : LiveReading → LiveScript → ℕ → (LiveScript → LiveScript → List ℕ → Type 0) → LiveScript → List ℕ → Type 0
LiveLineThen (Err e) s n Rest s' out = (s' ≡ s) × (out ≡ not_a_command_text n e.column)
LiveLineThen (Ok l) s n Rest s' out =
    (script : Script) × (text rest : List ℕ) × LeadsLive s.script s.threads.standing l script text
    × Rest (record { script = script; threads = threads_after s.threads l }) s' rest × (out ≡ text ++ rest)

-- these lines lead from one state to another, up to the first that is refused, and print a text. `otherwise` is how the
-- script ends where no line is refused
abbrev pub LivePrints : Status → LiveScript → ℕ → List (List ℕ) → LiveScript → List ℕ → Type 0
LivePrints otherwise s n [] s' out = (s' ≡ s) × (out ≡ end_text (end_at otherwise s.threads n))
LivePrints otherwise s n (l ∷ ls) s' out =
    LiveLineThen (line_at (is_fresh s.script) s.threads l) s n (λ between end rest. LivePrints otherwise between (n + 1) ls end rest) s' out

-- an output of a live script, and where it leads
abbrev pub IsLiveRun : List ℕ → LiveScript → List ℕ → Type 0
IsLiveRun bytes s out = LivePrints (end_of_script bytes) live_start 1 (lines_of bytes) s out

-- an output of a live script
abbrev pub LiveOut : List ℕ → List ℕ → Type 0
LiveOut bytes out = (s : LiveScript) × IsLiveRun bytes s out

-- the history that the lines of a script came to
abbrev pub history_in : Script → History
history_in Fresh = []
history_in (Begun run) = run.history

-- the history that a live script comes to
abbrev pub live_history : LiveScript → History
live_history s = history_in s.script

-- a history arises from the lines of a live script in order
abbrev pub Lives : List ℕ → History → Type 0
Lives bytes h = (s : LiveScript) × (out : List ℕ) × IsLiveRun bytes s out × (live_history s ≡ h)
