use Rattle.km_live_machine.proofs.PutBack.{put_more}
use Rattle.km_live_machine.proofs.registers.put_all_back.Goals as goal

pub loop-job-preserved : goal.loop-job-preserved
loop-job-preserved c =
    let l = c.loop-job in
    put_more c.args.jobs.now l.job-index c.job-item.result c.args.machine.now l.machine c.put_back.new.machine l.invariant c.loop-job-test.true c.job-item.is c.put_back.ensures.happens c.put_back.ensures.spent
