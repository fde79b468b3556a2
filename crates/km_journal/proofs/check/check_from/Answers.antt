use Rattle.km_journal.proofs.Checking.{checking_beyond, checking_end, checking_ended, checking_fault, checking_line, checking_long, checking_numbered, checking_rest, checking_room, checking_shrinks, checking_start}
use Rattle.km_journal.proofs.check.check_from.Goals as goal

pub loop-check-init : goal.loop-check-init
loop-check-init g c = checking_start (g.S.Source.state c.args.source.now) c.new-reader.result c.args.check.now.number c.args.check.now.replay c.new-reader.ensures c.requires.number c.requires.none

pub line-requires-in-Line-clause-numbered : goal.line-requires-in-Line-clause-numbered
line-requires-in-Line-clause-numbered g c = checking_numbered _ _ _ _ _ c.loop-check.invariant

pub line-requires-in-Line-clause-room : goal.line-requires-in-Line-clause-room
line-requires-in-Line-clause-room g c = checking_room _ _ _ _ _ c.loop-check.invariant

pub returns-in-Err : goal.returns-in-Err
returns-in-Err g c =
    let step = c.in-Line.ensures in
    checking_ended _ _ _ _ c.next.new.self _ c.loop-check.check.replay _ c.line.result.now c.in-Err.ended c.loop-check.invariant step.step step.is step.faults c.line.ensures c.in-Err.ensures.reads

pub loop-check-smaller : goal.loop-check-smaller
loop-check-smaller g c =
    let step = c.in-Line.ensures in checking_shrinks _ _ _ _ c.next.new.self _ _ c.loop-check.invariant step.step step.is

pub loop-check-preserved : goal.loop-check-preserved
loop-check-preserved g c =
    let step = c.in-Line.ensures in
    checking_line _ _ _ _ c.next.new.self _ _ c.loop-check.check.replay c.line-in-Line.new.self.replay c.line.result.now c.loop-check.invariant step.step step.is step.faults c.line.ensures c.in_default.ensures.reads c.in_default.ensures.number

pub returns-in-Rest : goal.returns-in-Rest
returns-in-Rest g c =
    let step = c.in-Rest.ensures in checking_rest _ _ _ _ c.next.new.self _ _ c.no_line.result c.loop-check.invariant step.step step.is step.faults c.no_line.ensures

pub returns-in-Long : goal.returns-in-Long
returns-in-Long g c =
    let step = c.in-Long.ensures in checking_long _ _ _ _ c.next.new.self _ _ c.no_line-in-Long.result c.loop-check.invariant step.step step.is step.faults c.no_line-in-Long.ensures

pub returns-in-End : goal.returns-in-End
returns-in-End g c =
    let step = c.in-End.ensures in checking_end _ _ _ _ c.next.new.self _ _ c.end.result c.loop-check.invariant step.step step.is step.faults c.end.ensures

pub returns-in-Fault : goal.returns-in-Fault
returns-in-Fault g c =
    let step = c.in-Fault.ensures in checking_fault _ _ _ _ c.next.new.self _ _ c.loop-check.invariant step.step step.is step.faults

pub returns-in-TooLong : goal.returns-in-TooLong
returns-in-TooLong g c =
    let step = c.in-TooLong.ensures in checking_beyond _ _ _ _ c.next.new.self _ _ c.loop-check.invariant step.step step.is step.faults
