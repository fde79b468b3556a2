use denote.Exit.{no}
use denote.Param.Send.{sendable, param_sync, arg_sync, shr_sync}
use denote.Param.SendFields.{declared_sync}
use denote.Struct.Tuple.{type_at}
use mir.Syntax.{named}
use Rattle.km_live_map.proofs.Crossing.{token_send, baton_sync}
use Rattle.km_live_words.proofs.seated.Seated.TheSendSync as seats
use Rattle.km_live_bench.proofs.book.turn_all.Lts as lts
use Rattle.km_live_bench.proofs.book.turn_all.Goals as goal

pub for_each_mut-requires-send-T : goal.for_each_mut-requires-send-T
for_each_mut-requires-send-T g c κs within = search (sendable, token_send, seats.the_send) depth 30

pub for_each_mut-requires-sync-F : goal.for_each_mut-requires-sync-F
for_each_mut-requires-sync-F g c κs within =
    let T = type_at (lts.name-10 g.row.R g.R.laws g.R.Threads-dict g.R.Wait-dict) (lts.of-0 g.row.R g.R.laws g.R.Threads-dict g.R.Wait-dict record { mir = named 6; lft = κs.1.1.1.1.1.1.0 } record { mir = named 7; lft = κs.1.1.1.1.1.1.1.0 }) in
    param_sync 2 (lts.arg-0-2 g.row.R g.R.laws g.R.Threads-dict g.R.Wait-dict κs) (arg_sync _ no _ (declared_sync T (shr_sync _ _ _ c.type_bounds.sync-R, (shr_sync _ _ _ baton_sync, tt))))
