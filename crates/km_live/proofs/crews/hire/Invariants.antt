use Rattle.std.proofs.Common.{vec_capacity}
use Rattle.km_live.proofs.Hired.{Hiring}
use Rattle.km_live.proofs.crews.hire.Given as goal

abbrev pub invariant-loop-job : goal.invariant-loop-job
invariant-loop-job g l = Hiring l.shared.words.now l.shared.baton.now l.fn.chief.token.view.about l.fn.jobs.items l.yielded l.workers.items (vec_capacity l.workers) l.number l.chief
