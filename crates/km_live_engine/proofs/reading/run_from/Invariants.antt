use Rattle.std.proofs.Common.{◌+◌, ◌-◌, length}
use Rattle.km_model.specs.Output.{limit}
use Rattle.km_reader.specs.Reading.{rest_in}
use Rattle.km_live_engine.proofs.Runs.{Running}
use Rattle.km_live_engine.proofs.reading.run_from.Given as goal

-- the lines that were given were run
abbrev pub invariant-loop-script : goal.invariant-loop-script
invariant-loop-script g l =
    Running (g.S.Source.state l.initial.source) (g.S.Source.state l.source) (g.K.Sink.state l.initial.sink) (g.K.Sink.state l.sink) l.script l.reader

abbrev pub decreases-loop-script : goal.decreases-loop-script
decreases-loop-script g l = (limit + 1 - l.reader.taken) + length (rest_in l.reader)
