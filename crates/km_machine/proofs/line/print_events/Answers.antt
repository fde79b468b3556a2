use Rattle.std.proofs.Common.{Ok, Err, subst}
use Rattle.km_base.specs.declared.lines.Command.{Command}
use Rattle.km_machine.specs.Lines.{SaysLine}
use Rattle.km_machine.proofs.Lines.{printed, refused, texts_of}
use Rattle.km_machine.proofs.line.print_events.Goals as goal

pub returns-in-Ok-clause-runs : goal.returns-in-Ok-clause-runs
returns-in-Ok-clause-runs g c = λ run f.
    let line = c.args.command.now in
    let next = c.events.new.self in
    let k = g.K.Sink.state c.args.sink.now in
    let k' = g.K.Sink.state c.events.new.sink in
    printed next run line k k' c.in-Ok.written c.requires.later.1
    (subst (λ (x : Command). SaysLine (texts_of x) next run line k k' (Ok c.in-Ok.written)) c.of.ensures (c.in-Ok.ensures.says run f))

pub returns-in-Err-clause-runs : goal.returns-in-Err-clause-runs
returns-in-Err-clause-runs g c = λ run f.
    let line = c.args.command.now in
    let next = c.events.new.self in
    let k = g.K.Sink.state c.args.sink.now in
    let k' = g.K.Sink.state c.events.new.sink in
    refused next run line k k' (g.K.Sink.state c.refuse.new.sink) c.in-Err.refusal c.refuse.result
    (subst (λ (x : Command). SaysLine (texts_of x) next run line k k' (Err c.in-Err.refusal)) c.of.ensures (c.in-Err.ensures.says run f)) c.refuse.ensures
