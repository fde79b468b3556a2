use Rattle.std.proofs.Common.{Ok, Err, refl, subst}
use Rattle.km_live_engine.specs.Session.{LiveSession}
use Rattle.km_live_engine.specs.Steps.{Runs}
use Rattle.km_live_engine.proofs.Lines.{command_runs, round_line_ends, round_line_runs}
use Rattle.km_live_engine.proofs.script.LiveScript.run.Goals as goal

pub returns-in-Command-clause-runs : goal.returns-in-Command-clause-runs
returns-in-Command-clause-runs g c =
    let k = g.K.Sink.state c.args.sink.now in
    let k' = g.K.Sink.state c.run_command.new.sink in
    let old : LiveSession = record { number = c.self.inside.number; machine = c.self.inside.machine; threads = c.self.inside.threads } in
    let new : LiveSession = record { number = c.self.inside.number; machine = c.run_command.new.machine; threads = c.self.inside.threads } in
    subst (λ t. Runs t new c.args.line.now k k' c.run_command.result) c.self.view_is
    (command_runs old new c.args.line.now c.in-Command.command k k' c.run_command.result c.in-Command.is refl c.run_command.ensures.runs)

pub returns-in-Ok-clause-runs : goal.returns-in-Ok-clause-runs
returns-in-Ok-clause-runs g c =
    let k = g.K.Sink.state c.args.sink.now in
    let k' = g.K.Sink.state c.run-ran.new.sink in
    let old : LiveSession = record { number = c.self.inside.number; machine = c.self.inside.machine; threads = c.self.inside.threads } in
    let new : LiveSession = record { number = c.self.inside.number; machine = c.run-ran.new.machine; threads = c.new.result } in
    subst (λ t. Runs t new c.args.line.now k k' (Ok tt)) c.self.view_is
    (round_line_runs old new c.args.line.now c.in-Round.scans c.in-Round.gap c.in-Round.entries k k' c.in-Round.is c.new.ensures c.in-Ok.ensures.ran)

pub returns-in-Err-clause-runs : goal.returns-in-Err-clause-runs
returns-in-Err-clause-runs g c =
    let k = g.K.Sink.state c.args.sink.now in
    let k' = g.K.Sink.state c.run-ran.new.sink in
    let old : LiveSession = record { number = c.self.inside.number; machine = c.self.inside.machine; threads = c.self.inside.threads } in
    let new : LiveSession = record { number = c.self.inside.number; machine = c.run-ran.new.machine; threads = c.self.inside.threads } in
    subst (λ t. Runs t new c.args.line.now k k' (Err c.in-Err.ended)) c.self.view_is
    (round_line_ends old new c.args.line.now c.in-Round.scans c.in-Round.gap c.in-Round.entries k k' c.in-Err.ended c.in-Round.is c.in-Err.ensures.ran)
