use Rattle.km_live_machine.proofs.PutBack.{Restored}
use Rattle.km_live_machine.proofs.registers.put_all_back.Given as goal

abbrev pub invariant-loop-job : goal.invariant-loop-job
invariant-loop-job l = Restored l.jobs l.job-index l.fn.machine l.machine
