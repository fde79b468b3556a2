use Rattle.std.proofs.Common.{◌≡◌, ◌+◌, drop}
use Rattle.std.specs.List.{prefix_len}
use Rattle.km_model.specs.Pieces.{is_blank}
use Rattle.km_script.proofs.words.first_visible.Given as goal

-- all bytes so far are blank
abbrev pub invariant-loop-i : goal.invariant-loop-i
invariant-loop-i l = prefix_len is_blank l.bytes ≡ l.i + prefix_len is_blank (drop l.i l.bytes)
