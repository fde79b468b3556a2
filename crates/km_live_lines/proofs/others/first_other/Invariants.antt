use Rattle.std.proofs.Common.{◌≡◌, find, length}
use Rattle.km_live_model.specs.LiveGrammar.{names_other}
use Rattle.km_live_lines.proofs.others.first_other.Given as goal

abbrev pub invariant-loop-word : goal.invariant-loop-word
invariant-loop-word l = find (names_other l.own) l.words.pieces ≡ find (names_other l.own) l.initial.words.pieces

abbrev pub decreases-loop-word : goal.decreases-loop-word
decreases-loop-word l = length l.words.pieces
