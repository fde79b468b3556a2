use Rattle.std.proofs.Common.{◌+◌, ◌-◌, length}
use Rattle.km_model.specs.Output.{limit}
use Rattle.km_reader.specs.Reading.{rest_in}
use Rattle.km_forms.proofs.Going.{Going}
use Rattle.km_forms.proofs.count.count_script.Given as goal

-- the lines that were given were counted
abbrev pub invariant-loop-count : goal.invariant-loop-count
invariant-loop-count g l = Going (g.S.Source.state l.initial.source) (g.S.Source.state l.source) l.reader l.count

abbrev pub decreases-loop-count : goal.decreases-loop-count
decreases-loop-count g l = (limit + 1 - l.reader.taken) + length (rest_in l.reader)
