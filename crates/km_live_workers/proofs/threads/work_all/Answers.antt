use denote.Param.Send.{sendable}
use Rattle.std.proofs.Common.{subst, get_or}
use Rattle.km_live_workers.specs.Runs.{HasRun}
use Rattle.km_live_workers.proofs.Crossing.{worker_send}
use Rattle.km_live_workers.proofs.Zips.{zip_all}
use Rattle.km_live_workers.proofs.threads.work_all.Goals as goal

pub for_each_mut-requires-send-T : goal.for_each_mut-requires-send-T
for_each_mut-requires-send-T g c κs within =
    let r = c.type_bounds.sync-R in let s = c.type_bounds.sync-G in
    search (sendable, worker_send, r, s) depth 30

pub returns : goal.returns
returns g c = zip_all HasRun c.args.workers.now c.for_each_mut.new.s c.for_each_mut.auto.s (λ i d lt.
    let one = (c.for_each_mut.ensures i d lt).1 in
    subst (HasRun (get_or c.args.workers.now i d)) one.left (subst (λ v. HasRun v one.after_call.now) one.argument_is one.call))
