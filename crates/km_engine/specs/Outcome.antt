-- What a run of some bytes writes, as the table of causes takes it.
use Rattle.std.specs.Prelude.{◌≡◌, ℕ, ◌≤◌, true, List, [], ◌∷◌, ◌++◌, length, Ok}
use Rattle.km_base.specs.declared.lines.Command.TheVariants.{Memory}
use Rattle.km_base.specs.declared.lines.Line.TheVariants as line
use Rattle.km_base.specs.declared.status.Status.{Status}
use Rattle.km_model.specs.Grammar.{line_of}
use Rattle.km_model.specs.Output.{Script, Fresh, Prints, IsOut, is_empty, limit, lines_of, status_of, lines_in}
use Rattle.km_reader.specs.Causes.{Language}
use Rattle.km_reader.specs.Lines.{whole_lines}
use Rattle.km_forms.specs.Checks.{cause_of}
use Rattle.km_forms.specs.Counts.{GoesOn}

-- these bytes lead to a text by their whole lines
abbrev pub IsOutOfWhole : List ℕ → List ℕ → Type 0
IsOutOfWhole bytes out = (s : Script) × Prints Fresh 1 (whole_lines bytes) s out

-- the first command of the bytes that were taken is `memory`, no line before it is refused, and at most 4096 bytes are behind its line
pub record EndsBehindMemory (taken : List ℕ) : Type 0 where
  pub before : List (List ℕ)
  pub memory : List ℕ
  pub others : List (List ℕ)
  pub words : ℕ
  pub lines : lines_of taken ≡ before ++ memory ∷ others
  pub blank : Prints Fresh 1 before Fresh []
  pub is_memory : line_of true memory ≡ Ok (line.Command (Memory words))
  pub front : List ℕ
  pub behind : List ℕ
  pub parts : taken ≡ front ++ behind
  pub up_to : lines_in is_empty front ≡ before ++ memory ∷ []
  pub few : length behind ≤ 4096

-- scripts that are run: what a run writes is the output of the lines
abbrev pub scripts : Language Status
scripts = record {
  limit = limit;
  cause = cause_of;
  status_of = status_of;
  IsOut = IsOut;
  GoesOn = GoesOn;
  IsOutOfWhole = IsOutOfWhole;
  IsShort = λ taken written. (written ≡ []) × EndsBehindMemory taken;
}
