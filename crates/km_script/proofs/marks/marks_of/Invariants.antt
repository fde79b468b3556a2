use Rattle.std.proofs.Common.{◌≡◌, ◌+◌, drop, take, length}
use Rattle.std.specs.List.{position_or_len}
use Rattle.km_model.specs.Pieces.{is_blank}
use Rattle.km_script.specs.Marks.{AreMarks}
use Rattle.km_script.proofs.marks.marks_of.Given as goal

-- no byte so far is blank, and what is noted is noted of them
abbrev pub invariant-loop-i : goal.invariant-loop-i
invariant-loop-i l =
    (position_or_len is_blank l.bytes ≡ l.i + position_or_len is_blank (drop l.i l.bytes))
    × AreMarks l.marks l.column (take l.i l.bytes)
    × (l.marks.length ≡ length l.bytes)
