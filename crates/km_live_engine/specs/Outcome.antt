-- What a run of a live script writes, as the table of causes takes it.
use Rattle.std.specs.Prelude.{◌≡◌, ℕ, ◌≤◌, Bool, true, false, List, [], ◌∷◌, ◌++◌, length, Ok}
use Rattle.km_base.specs.declared.status.Status.{Status}
use Rattle.km_base.specs.declared.status.Status.TheVariants as status
use Rattle.km_model.specs.Output.{is_empty, is_fresh, limit, lines_in, lines_of}
use Rattle.km_reader.specs.Causes.{Language}
use Rattle.km_reader.specs.Lines.{whole_lines}
use Rattle.km_forms.specs.Checks.{cause_of}
use Rattle.km_machine.specs.Lines.{is_memory}
use Rattle.km_live_model.specs.declared.lines.LiveLine.{LiveLine}
use Rattle.km_live_model.specs.declared.lines.LiveLine.TheVariants as live
use Rattle.km_live_model.specs.Threads.{line_at, live_status_from, live_status_of, no_threads}
use Rattle.km_live_model.specs.Lives.{LiveOut, LivePrints, LiveScript, live_start}

-- no line among the whole ones of these bytes is refused
abbrev pub GoesOn : List ℕ → Type 0
GoesOn taken = live_status_from status.ReadFault true no_threads 1 (whole_lines taken) ≡ status.ReadFault

-- these bytes lead to a text by their whole lines
abbrev pub IsOutOfWhole : List ℕ → List ℕ → Type 0
IsOutOfWhole bytes out = (s : LiveScript) × LivePrints status.ReadFault live_start 1 (whole_lines bytes) s out

-- whether a line may ask for memory
abbrev pub asks_for_memory : LiveLine → Bool
asks_for_memory live.Blank = false
asks_for_memory (live.Command c) = is_memory c
asks_for_memory (live.Thread _) = false
asks_for_memory live.End = true
asks_for_memory (live.InThread _) = true
asks_for_memory (live.Round _ _ _) = true

-- some lines, of which none is refused, led to a script and a text, and the line after them asks for memory
pub record LeadsToNeed (lines : List (List ℕ)) (bytes written : List ℕ) : Type 0 where
  pub script : LiveScript
  pub line : LiveLine
  pub unrefused : live_status_from status.NoMemory true no_threads 1 lines ≡ status.NoMemory
  pub prints : LivePrints status.NoMemory live_start 1 lines script written
  pub reads : line_at (is_fresh script.script) script.threads bytes ≡ Ok line
  pub asks : asks_for_memory line ≡ true

-- of the bytes that were taken, some line asks for memory; what was written is the text of those before it, and at most 4096
-- bytes are after it
pub record EndsAtNeed (taken written : List ℕ) : Type 0 where
  pub before : List (List ℕ)
  pub bytes : List ℕ
  pub others : List (List ℕ)
  pub lines : lines_of taken ≡ before ++ bytes ∷ others
  pub leads : LeadsToNeed before bytes written
  pub prefix : List ℕ
  pub after : List ℕ
  pub parts : taken ≡ prefix ++ after
  pub up_to : lines_in is_empty prefix ≡ before ++ bytes ∷ []
  pub few : length after ≤ 4096

-- live scripts: what a run writes is one of the outputs of the lines
abbrev pub live_scripts : Language Status
live_scripts = record {
  limit = limit;
  cause = cause_of;
  status_of = live_status_of;
  IsOut = LiveOut;
  GoesOn = GoesOn;
  IsOutOfWhole = IsOutOfWhole;
  IsShort = EndsAtNeed;
}
