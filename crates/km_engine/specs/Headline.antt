-- The headline: what is listed was forgotten, and what was forgotten is listed.
use Rattle.std.specs.Prelude.{◌≡◌, ◌≢◌, ℕ, true, false, List, ◌∷◌, ◌++◌, Ok, Err}
use Rattle.km_base.specs.declared.acts.Act.TheVariants as act
use Rattle.km_base.specs.declared.acts.Answer.TheVariants.{Done}
use Rattle.km_base.specs.declared.acts.Refusal.{Refusal}
use Rattle.km_base.specs.declared.lines.Command.{Command}
use Rattle.km_base.specs.declared.lines.Command.TheVariants.{Read}
use Rattle.km_base.specs.declared.lines.Line.TheVariants as line
use Rattle.km_base.specs.declared.status.Status.{Status}
use Rattle.km_base.specs.declared.status.Status.TheVariants as status
use Rattle.km_model.specs.History.{History}
use Rattle.km_model.specs.Follows.{Run, HasOwnWords, told_answer}
use Rattle.km_model.specs.Grammar.{rules, line_of}
use Rattle.km_model.specs.Expansion.{Makes, first_acts, world_after}
use Rattle.km_model.specs.Headline.{IsMemorySize, ListedAreNotHeldAt, ForgottenAreListedAt, ListedAreLiveAt, NewAtMostOnceAt}
use Rattle.km_model.specs.Memory.{memory_after}
use Rattle.km_model.specs.Output.{Script, Fresh, Begun, Prints, line_text, lines_of, listing_text, status_from}
use Rattle.km_model.specs.Text.{refusal_text}
use Rattle.km_converse.specs.Converse.{ForgottenAreNewOnceAt}
use Rattle.km_edge.specs.Streams.{SourceState, SinkState}
use Rattle.km_reader.specs.Causes.{EndsFrom}
use Rattle.km_reader.specs.Lines.{IsLeft, IsPrefix, whole_lines}
use Rattle.km_engine.specs.Outcome.{scripts}

-- what the detector promises after a history, and of what came later
pub record IsRight (words : ℕ) (later h : History) : Type 0 where
  -- no listed block was held throughout the last completed scan
  pub listed_are_not_held : ListedAreNotHeldAt words h
  -- what nothing mentioned during two completed scans is listed, and was new once
  pub forgotten_are_listed : ForgottenAreListedAt words h
  -- and is new at no later scan
  pub forgotten_are_new_once : ForgottenAreNewOnceAt words later h
  -- no freed block is listed
  pub listed_are_live : ListedAreLiveAt h
  -- no block was new twice
  pub new_at_most_once : NewAtMostOnceAt h

-- of these lines, a command: those before it are not refused, led to a run and printed a text
pub record Reaches (lines : List (List ℕ)) (run : Run) (c : Command) (text : List ℕ) : Type 0 where
  pub before : List (List ℕ)
  pub bytes : List ℕ
  pub after : List (List ℕ)
  pub parts : lines ≡ before ++ bytes ∷ after
  pub unrefused : status_from rules status.Ok true 1 before ≡ status.Ok
  pub prints : Prints Fresh 1 before (Begun run) text
  pub reads : line_of false bytes ≡ Ok (line.Command c)

-- what the lines show that led to a run and printed a text
pub record Shows (lines : List (List ℕ)) (last : Run) (out : List ℕ) : Type 0 where
  -- the words hold what the history stored, and held it at each load
  pub own_words : IsMemorySize last.words × HasOwnWords last
  -- so at each moment of the history the detector is right
  pub right : (later before : History) → last.history ≡ later ++ before → IsRight last.words later before
  -- each command led on from the run before it, and its text stands after those of the lines before it
  pub texts : (run : Run) (c : Command) (text : List ℕ) → Reaches lines run c text
      → (run' : Run) × Makes run c run' × ((later : History) × (last.history ≡ later ++ run'.history)) × IsPrefix (text ++ line_text run c run') out
  -- each read that is accepted shows what is listed at its moment, and the words as they are then
  pub reads : (run : Run) (text : List ℕ) → Reaches lines run Read text → told_answer run act.Read ≡ Done
      → IsPrefix (text ++ listing_text (memory_after run.words run.history) run.history) out
  -- each command whose operands are refused shows the cause
  pub refusals : (run : Run) (c : Command) (text : List ℕ) (r : Refusal) → Reaches lines run c text → first_acts (world_after run.history) c ≡ Err r
      → IsPrefix (text ++ refusal_text r) out

-- the lines that were run, of some bytes of which these were taken: the whole ones where a read failed
abbrev pub lines_run : List ℕ → List ℕ → Status → List (List ℕ)
lines_run bytes taken status.ReadFault = whole_lines taken
lines_run bytes taken status.WriteFault = lines_of taken
lines_run bytes taken status.NoMemory = lines_of taken
lines_run bytes taken status.Ok = lines_of bytes
lines_run bytes taken (status.NotACommand _ _) = lines_of bytes
lines_run bytes taken status.TooLong = lines_of bytes
lines_run bytes taken (status.BadWords _) = lines_of bytes

-- lines led to an end and a text, and this was written of the text: all of it, unless a write failed or there was no memory
pub record AreShown (lines : List (List ℕ)) (written : List ℕ) (ended : Status) : Type 0 where
  pub end : Script
  pub out : List ℕ
  pub prints : Prints Fresh 1 lines end out
  pub front : IsPrefix written out
  pub whole : ended ≢ status.WriteFault → ended ≢ status.NoMemory → written ≡ out
  pub shows : (run : Run) → end ≡ Begun run → Shows lines run out

-- what a run over a source has shown, by the bytes that it took and those that came out
abbrev pub Headline : (s s' : SourceState) (k k' : SinkState) (ended : Status) → EndsFrom scripts s s' k k' ended → Type 0
Headline s s' k k' ended run =
    (remaining : List ℕ) → IsLeft s'.left remaining → AreShown (lines_run (run.taken ++ remaining) run.taken ended) run.written ended
