use Rattle.std.proofs.Common.{vec_capacity}
use Rattle.km_live.proofs.Hired.{Dismissing}
use Rattle.km_live.proofs.crews.dismiss.Given as goal

abbrev pub invariant-loop-worker : goal.invariant-loop-worker
invariant-loop-worker g l = Dismissing l.shared.words.now l.shared.baton.now l.fn.chief.token.view.about l.fn.chief.hand.hand.next l.fn.chief.hand.hand.kept l.fn.chief.token.view.member.kept l.fn.workers.items l.yielded l.fn.chief l.chief l.fn.done.items l.done.items (vec_capacity l.done) l.full
