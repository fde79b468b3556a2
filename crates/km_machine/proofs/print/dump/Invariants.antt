use Rattle.std.proofs.Common.{take}
use Rattle.std.specs.Prelude.{flat_map}
use Rattle.km_edge.specs.Streams.{Wrote}
use Rattle.km_model.specs.Text.{as_text_line, dump_lines}
use Rattle.km_machine.proofs.print.dump.Given as goal

-- the lines up to here were written
abbrev pub invariant-loop-place : goal.invariant-loop-place
invariant-loop-place g l = Wrote (g.K.Sink.state l.initial.sink) (g.K.Sink.state l.sink) (flat_map as_text_line (take l.place (dump_lines l.info)))
