use Rattle.std.proofs.Common.{◌+◌, ap, arith, is_none, subst, sym}
use Rattle.km_live_engine.specs.Session.{HasRoomFor}
use Rattle.km_live_engine.proofs.Fit.{read_is_fit}
use Rattle.km_live_engine.proofs.Lines.{here, line_refused, line_runs}
use Rattle.km_live_engine.proofs.Rooms.{less_room, line_takes, room_to_run}
use Rattle.km_live_engine.proofs.script.LiveScript.some_line.Goals as goal

pub run-requires-clause-fit : goal.run-requires-clause-fit
run-requires-clause-fit g c κs within =
    let s = c.args.self.now in
    let read = here s c.self.inside.threads c.is_fresh.result c.args.bytes.now _ _ c.is_fresh.ensures (ap (λ t. t.threads) c.self.view_is) c.read.ensures c.in-Ok.is in
    read_is_fit (is_none s.machine) s.threads c.args.bytes.now c.in-Ok.line read

pub run-requires-clause-room : goal.run-requires-clause-room
run-requires-clause-room g c κs within =
    let s = c.args.self.now in
    let read = here s c.self.inside.threads c.is_fresh.result c.args.bytes.now _ _ c.is_fresh.ensures (ap (λ t. t.threads) c.self.view_is) c.read.ensures c.in-Ok.is in
    room_to_run s.machine s.threads c.args.bytes.now c.in-Ok.line read c.requires.room

pub returns-in-Err-clause-runs : goal.returns-in-Err-clause-runs
returns-in-Err-clause-runs g c =
    let s = c.args.self.now in
    let read = here s c.self.inside.threads c.is_fresh.result c.args.bytes.now _ _ c.is_fresh.ensures (ap (λ t. t.threads) c.self.view_is) c.read.ensures c.in-Err.is in
    line_refused s c.args.bytes.now c.in-Err.refused c.self.inside.number _ _ c.refuse.result read (ap (λ t. t.number) c.self.view_is) c.refuse.ensures

pub returns-in_ok-run-in-Ok-clause-runs : goal.returns-in_ok-run-in-Ok-clause-runs
returns-in_ok-run-in-Ok-clause-runs g c =
    let s = c.args.self.now in
    let read = here s c.self.inside.threads c.is_fresh.result c.args.bytes.now _ _ c.is_fresh.ensures (ap (λ t. t.threads) c.self.view_is) c.read.ensures c.in-Ok.is in
    line_runs s _ c.run.new.self c.args.bytes.now c.in-Ok.line _ _ read (ap (λ t. t.machine) c.self-in-Ok.view_is) (ap (λ t. t.threads) c.self-in-Ok.view_is) c.in_ok-run-in-Ok.ensures.runs

pub returns-in_ok-run-in-Ok-clause-room : goal.returns-in_ok-run-in-Ok-clause-room
returns-in_ok-run-in-Ok-clause-room g c =
    let s = c.args.self.now in
    let read = here s c.self.inside.threads c.is_fresh.result c.args.bytes.now _ _ c.is_fresh.ensures (ap (λ t. t.threads) c.self.view_is) c.read.ensures c.in-Ok.is in
    λ more room. subst (λ m. HasRoomFor m (0 + more)) (sym (ap (λ t. t.machine) c.self-in-Ok.view_is))
    (less_room c.run.new.self.machine more (0 + more) (omega arith)
    (line_takes s.machine c.run.new.self.machine s.threads c.args.bytes.now c.in-Ok.line more read c.in_ok-run-in-Ok.ensures.spent room))
