use denote.Param.Send.{sendable}
use Rattle.km_live_workers.proofs.Crossing.{scanner_send}
use Rattle.km_live_workers.proofs.threads.together.Goals as goal

pub join-requires-send-F : goal.join-requires-send-F
join-requires-send-F g c κs within =
    let r = c.type_bounds.sync-R in let s = c.type_bounds.sync-G in
    search (sendable, scanner_send, r, s) depth 30

pub join-requires-send-A : goal.join-requires-send-A
join-requires-send-A g c κs within =
    let r = c.type_bounds.sync-R in let s = c.type_bounds.sync-G in
    search (sendable, scanner_send, r, s) depth 30
