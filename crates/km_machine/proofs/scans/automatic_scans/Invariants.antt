use Rattle.std.proofs.Common.{◌-◌, ◌*◌}
use Rattle.km_model.specs.Follows.{Run}
use Rattle.km_machine.specs.Machines.{For, Spent}
use Rattle.km_machine.proofs.Ticking.{Pacing}
use Rattle.km_machine.proofs.scans.automatic_scans.Given as goal

-- so many automatic scans were made and said
abbrev pub invariant-loop : goal.invariant-loop
invariant-loop g l = record {
  pacing : (run : Run) → For l.initial.machine run
      → Pacing (g.W.Witness.says l.witness) l.target run l.counter l.machine (g.K.Sink.state l.initial.sink) (g.K.Sink.state l.sink) l.written;
  spent : Spent l.initial.machine l.machine (33554434 * l.counter) (l.target - l.initial.machine.core.parts.settings.now);
}
