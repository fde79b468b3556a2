use Rattle.km_forms.proofs.Going.{going_beyond, going_end, going_fault, going_line, going_long, going_refused, going_rest, going_rest_refused, going_shrinks, going_start}
use Rattle.km_forms.proofs.count.count_script.Goals as goal

pub loop-count-init : goal.loop-count-init
loop-count-init g c = going_start (g.S.Source.state c.args.source.now) c.new-reader.result c.new-count.result c.new-reader.ensures c.new-count.ensures

pub returns-in-Err : goal.returns-in-Err
returns-in-Err g c =
    let step = c.in-Line.ensures in
    let stop = c.in-Err.ensures in
    going_refused _ _ _ _ c.next.new.self c.loop-count.count c.line.result.now c.in-Err.ended c.loop-count.invariant step.step step.is step.faults c.line.ensures (stop.0, stop.1, stop.2)

pub loop-count-smaller : goal.loop-count-smaller
loop-count-smaller g c =
    let step = c.in-Line.ensures in going_shrinks _ _ _ _ c.next.new.self c.loop-count.count c.loop-count.invariant step.step step.is

pub loop-count-preserved : goal.loop-count-preserved
loop-count-preserved g c =
    let step = c.in-Line.ensures in
    going_line _ _ _ _ c.next.new.self c.loop-count.count c.line-in-Line.new.self c.line.result.now c.loop-count.invariant step.step step.is step.faults c.line.ensures c.in_default.ensures

pub returns-in-Ok : goal.returns-in-Ok
returns-in-Ok g c =
    let step = c.in-Rest.ensures in
    going_rest _ _ _ _ c.next.new.self c.loop-count.count c.line-in-Rest-2.new.self c.line-in-Rest.result.now c.loop-count.invariant step.step step.is step.faults c.line-in-Rest.ensures c.in-Ok.ensures

pub returns-in-Err-line : goal.returns-in-Err-line
returns-in-Err-line g c =
    let step = c.in-Rest.ensures in
    let stop = c.in-Err-line.ensures in
    going_rest_refused _ _ _ _ c.next.new.self c.loop-count.count c.line-in-Rest.result.now c.in-Err-line.ended c.loop-count.invariant step.step step.is step.faults c.line-in-Rest.ensures (stop.0, stop.1, stop.2)

pub returns-in-Long : goal.returns-in-Long
returns-in-Long g c =
    let step = c.in-Long.ensures in going_long _ _ _ _ c.next.new.self c.loop-count.count c.refused.result c.loop-count.invariant step.step step.is step.faults c.refused.ensures

pub returns-in-End : goal.returns-in-End
returns-in-End g c =
    let step = c.in-End.ensures in going_end _ _ _ _ c.next.new.self c.loop-count.count c.loop-count.invariant step.step step.is step.faults

pub returns-in-Fault : goal.returns-in-Fault
returns-in-Fault g c =
    let step = c.in-Fault.ensures in going_fault _ _ _ _ c.next.new.self c.loop-count.count c.loop-count.invariant step.step step.is step.faults

pub returns-in-TooLong : goal.returns-in-TooLong
returns-in-TooLong g c =
    let step = c.in-TooLong.ensures in going_beyond _ _ _ _ c.next.new.self c.loop-count.count c.loop-count.invariant step.step step.is step.faults
