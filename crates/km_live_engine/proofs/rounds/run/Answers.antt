use Rattle.std.proofs.Common.{sym, subst}
use Rattle.km_live_engine.specs.Steps.{RunsThreads}
use Rattle.km_live_engine.proofs.Lines.{round_ran, round_stopped}
use Rattle.km_live_engine.proofs.rounds.run.Goals as goal

pub returns-in-Ok-wrote-clause-ran : goal.returns-in-Ok-wrote-clause-ran
returns-in-Ok-wrote-clause-ran g c =
    let k = g.K.Sink.state c.args.sink.now in
    let k' = g.K.Sink.state c.run_threads.new.sink in
    round_ran c.args.machine.now c.in-Some.before c.in-Ok.after c.args.threads.now.standing c.args.scans c.args.gap c.args.entries k k' (sym c.in-Some.ensures.value)
    (subst (λ x. RunsThreads c.in-Some.before c.args.threads.now.standing c.args.scans c.args.gap c.args.entries c.in-Ok.after k k' x) c.in-Ok-wrote.is c.in-Ok.ensures.ran)

pub returns-in-Err-wrote-clause-ran : goal.returns-in-Err-wrote-clause-ran
returns-in-Err-wrote-clause-ran g c =
    let k = g.K.Sink.state c.args.sink.now in
    let k' = g.K.Sink.state c.run_threads.new.sink in
    round_stopped c.args.machine.now c.in-Some.before c.in-Ok.after c.args.threads.now.standing c.args.scans c.args.gap c.args.entries k k' c.in-Err-wrote.field-0
    (sym c.in-Some.ensures.value)
    (subst (λ x. RunsThreads c.in-Some.before c.args.threads.now.standing c.args.scans c.args.gap c.args.entries c.in-Ok.after k k' x) c.in-Err-wrote.is c.in-Ok.ensures.ran)
