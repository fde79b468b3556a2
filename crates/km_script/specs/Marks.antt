use Rattle.std.specs.Prelude.{◌≡◌, ℕ, Bool, ◌==◌, nat_lt, List, Option, Some, None, if◌then◌else◌}
use Rattle.std.specs.List.{position_from}
use Rattle.km_model.specs.Grammar.{is_foreign}
use Rattle.km_script.specs.declared.marks.Marks.{Marks}

-- a place, if something is there
abbrev pub if_here : Bool → ℕ → Option ℕ
if_here is_here place = if is_here then Some place else None

-- the first of two places, of which the second stands behind the first
abbrev pub or_first : Option ℕ → Option ℕ → Option ℕ
or_first (Some first) behind = Some first
or_first None behind = behind

-- a place, if it is below an end
abbrev pub if_below : ℕ → Option ℕ → Option ℕ
if_below end None = None
if_below end (Some place) = if nat_lt place end then Some place else None

-- what is noted of bytes of which the first stands at a column
pub record AreMarks (marks : Marks) (column : ℕ) (bytes : List ℕ) : Type 0 where
  pub dot : marks.dot ≡ position_from (λ c. c == 46) 0 bytes
  pub plus : marks.plus ≡ position_from (λ c. c == 43) 0 bytes
  pub foreign : marks.foreign ≡ position_from is_foreign column bytes
