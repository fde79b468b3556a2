use Rattle.std.proofs.Common.{◌≤◌, ◌-◌, length, take}
use Rattle.km_edge.specs.Streams.{Wrote}
use Rattle.km_edge.proofs.streams.write_all.Given as goal

-- the bytes up to here were written
abbrev pub invariant-loop-at : goal.invariant-loop-at
invariant-loop-at g l = record {
  within : l.at ≤ length l.bytes;
  wrote : Wrote (g.K.Sink.state l.initial.sink) (g.K.Sink.state l.sink) (take l.at l.bytes);
}

abbrev pub decreases-loop-at : goal.decreases-loop-at
decreases-loop-at g l = length l.bytes - l.at
