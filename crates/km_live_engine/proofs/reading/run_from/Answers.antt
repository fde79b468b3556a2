use Rattle.km_live_engine.proofs.Runs.{running_beyond, running_end, running_ended, running_fault, running_line, running_long, running_numbered, running_rest, running_rest_ended, running_shrinks, running_space, running_stands, running_start}
use Rattle.km_live_engine.proofs.reading.run_from.Goals as goal

pub loop-script-init : goal.loop-script-init
loop-script-init g c = running_start (g.S.Source.state c.args.source.now) (g.K.Sink.state c.args.sink.now) c.args.script.now c.new-reader.result c.requires c.new-reader.ensures

pub line-requires-in-Line-clause-stands : goal.line-requires-in-Line-clause-stands
line-requires-in-Line-clause-stands g c κs within = running_stands _ _ _ _ c.loop-script.script _ c.loop-script.invariant

pub line-requires-in-Line-clause-numbered : goal.line-requires-in-Line-clause-numbered
line-requires-in-Line-clause-numbered g c κs within = running_numbered _ _ _ _ c.loop-script.script _ c.loop-script.invariant

pub line-requires-in-Line-clause-room : goal.line-requires-in-Line-clause-room
line-requires-in-Line-clause-room g c κs within =
    running_space _ _ _ _ _ c.loop-script.script _ c.next.new.self c.line.result.now c.loop-script.invariant c.in-Line.ensures.step c.line.ensures

pub returns-in-Err : goal.returns-in-Err
returns-in-Err g c =
    let step = c.in-Line.ensures in
    running_ended _ _ _ _ _ _ c.loop-script.script c.line-in-Line.new.self _ c.next.new.self c.line.result.now c.in-Err.ended c.loop-script.invariant step.step step.is step.faults c.line.ensures c.in-Err.ensures.runs

pub loop-script-smaller : goal.loop-script-smaller
loop-script-smaller g c =
    let step = c.in-Line.ensures in running_shrinks _ _ _ _ _ c.loop-script.script _ c.next.new.self c.loop-script.invariant step.step step.is

pub loop-script-preserved : goal.loop-script-preserved
loop-script-preserved g c =
    let step = c.in-Line.ensures in
    let ran = c.in_default.ensures in
    running_line _ _ _ _ _ _ c.loop-script.script c.line-in-Line.new.self _ c.next.new.self c.line.result.now c.loop-script.invariant step.step step.is step.faults c.line.ensures ran.runs ran.number ran.room

pub line-requires-in-Rest-2-clause-stands : goal.line-requires-in-Rest-2-clause-stands
line-requires-in-Rest-2-clause-stands g c κs within = running_stands _ _ _ _ c.loop-script.script _ c.loop-script.invariant

pub line-requires-in-Rest-2-clause-numbered : goal.line-requires-in-Rest-2-clause-numbered
line-requires-in-Rest-2-clause-numbered g c κs within = running_numbered _ _ _ _ c.loop-script.script _ c.loop-script.invariant

pub line-requires-in-Rest-2-clause-room : goal.line-requires-in-Rest-2-clause-room
line-requires-in-Rest-2-clause-room g c κs within =
    running_space _ _ _ _ _ c.loop-script.script _ c.next.new.self c.line-in-Rest.result.now c.loop-script.invariant c.in-Rest.ensures.step c.line-in-Rest.ensures

pub returns-in-Ok : goal.returns-in-Ok
returns-in-Ok g c =
    let step = c.in-Rest.ensures in
    running_rest _ _ _ _ _ _ _ c.loop-script.script c.line-in-Rest-2.new.self _ c.next.new.self c.line-in-Rest.result.now c.end.result c.loop-script.invariant step.step step.is step.faults c.line-in-Rest.ensures
    c.in-Ok.ensures.runs c.in-Ok.ensures.number c.end.ensures

pub returns-in-Err-line : goal.returns-in-Err-line
returns-in-Err-line g c =
    let step = c.in-Rest.ensures in
    running_rest_ended _ _ _ _ _ _ c.loop-script.script c.line-in-Rest-2.new.self _ c.next.new.self c.line-in-Rest.result.now c.in-Err-line.ended c.loop-script.invariant step.step step.is step.faults c.line-in-Rest.ensures c.in-Err-line.ensures.runs

pub returns-in-Long : goal.returns-in-Long
returns-in-Long g c =
    let step = c.in-Long.ensures in
    running_long _ _ _ _ _ _ c.loop-script.script _ c.next.new.self c.number.result c.refuse.result c.loop-script.invariant step.step step.is step.faults c.number.ensures c.refuse.ensures

pub returns-in-End : goal.returns-in-End
returns-in-End g c =
    let step = c.in-End.ensures in running_end _ _ _ _ _ _ c.loop-script.script _ c.next.new.self c.end-in-End.result c.loop-script.invariant step.step step.is step.faults c.end-in-End.ensures

pub returns-in-Fault : goal.returns-in-Fault
returns-in-Fault g c =
    let step = c.in-Fault.ensures in running_fault _ _ _ _ _ c.loop-script.script _ c.next.new.self c.loop-script.invariant step.step step.is step.faults

pub returns-in-TooLong : goal.returns-in-TooLong
returns-in-TooLong g c =
    let step = c.in-TooLong.ensures in running_beyond _ _ _ _ _ c.loop-script.script _ c.next.new.self c.loop-script.invariant step.step step.is step.faults
