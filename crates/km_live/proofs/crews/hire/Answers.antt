use Rattle.std.proofs.Common.{◌+◌, ◌++◌, ◌∷◌, [], sym, subst, vec_capacity}
use Rattle.km_live.specs.Crews.{AreWaiting}
use Rattle.km_live.proofs.Hired.{Hiring}
use Rattle.km_live.proofs.Playing.{hire_more, worker_is}
use Rattle.km_live.proofs.crews.hire.Goals as goal

pub loop-job-preserved : goal.loop-job-preserved
loop-job-preserved g c =
    let live = c.args.shared.now.words.now in
    let baton = c.args.shared.now.baton.now in
    let about = c.args.chief.now.token.view.about in
    let h = c.loop-job.invariant in
    let waiting = subst (λ n. AreWaiting live baton about n [] [] c.loop-job.chief) (sym h.number) h.waiting in
    let one =
    worker_is live baton about c.new.result c.seat-seat.result.words c.seat-seat.result.book c.loop-job.chief c.loop-job.number c.in-Some.job waiting c.new.ensures.seat c.seat-seat.ensures.words c.seat-seat.ensures.book c.new.ensures.job in
    let more =
    hire_more live baton about c.args.jobs.items c.loop-job.yielded c.loop-job.workers.items (vec_capacity c.loop-job.workers) c.loop-job.number c.loop-job.chief c.seat-seat.new.chief c.new.result c.in-Some.job h
    c.seat-seat.ensures.chief c.seat-seat.ensures.hand c.seat-seat.ensures.token one in
    subst (λ ws. Hiring live baton about c.args.jobs.items (c.loop-job.yielded ++ c.in-Some.job ∷ []) ws (vec_capacity c.push_reserved.new.self) (c.loop-job.number + 1) c.seat-seat.new.chief) (sym c.push_reserved.ensures.items)
    (subst (λ n. Hiring live baton about c.args.jobs.items (c.loop-job.yielded ++ c.in-Some.job ∷ []) (c.loop-job.workers.items ++ c.new.result ∷ []) n (c.loop-job.number + 1) c.seat-seat.new.chief) (sym c.push_reserved.ensures.capacity) more)
