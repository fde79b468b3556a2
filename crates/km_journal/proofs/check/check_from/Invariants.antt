use Rattle.std.proofs.Common.{◌+◌, ◌-◌, length}
use Rattle.km_entries.specs.File.{limit}
use Rattle.km_reader.specs.Reading.{rest_in}
use Rattle.km_journal.proofs.Checking.{Checking}
use Rattle.km_journal.proofs.check.check_from.Given as goal

-- the lines that were given were right
abbrev pub invariant-loop-check : goal.invariant-loop-check
invariant-loop-check g l = Checking (g.S.Source.state l.initial.source) (g.S.Source.state l.source) l.reader l.check.number l.check.replay

abbrev pub decreases-loop-check : goal.decreases-loop-check
decreases-loop-check g l = (limit + 1 - l.reader.taken) + length (rest_in l.reader)
