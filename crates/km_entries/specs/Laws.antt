-- Laws of the lines of a journal file.
use Rattle.std.specs.Prelude.{◌≡◌, ℕ, List, Some}
use Rattle.km_entries.specs.declared.lines.JournalLine.{JournalLine}
use Rattle.km_entries.specs.Lines.{CanStand, line_bytes}
use Rattle.km_entries.specs.Reading.{journal_line}

-- the text of a line is read as that line
abbrev pub TextsAreRead : Type 0
TextsAreRead = (l : JournalLine) → CanStand l → journal_line (line_bytes l) ≡ Some l

-- a line that is read is the text of what is read of it, and its parts are in their ranges
abbrev pub ReadLinesAreTexts : Type 0
ReadLinesAreTexts = (bytes : List ℕ) (l : JournalLine) → journal_line bytes ≡ Some l → (bytes ≡ line_bytes l) × CanStand l
