use Rattle.std.proofs.Common.{ℕ, ◌+◌, arith, Result, Ok, Err, is_none, ◌≡◌, ap, sym, subst, ◌∙◌}
use Rattle.km_base.specs.declared.lines.Line.{Line}
use Rattle.km_base.specs.declared.lines.NotACommand.{NotACommand as Refused}
use Rattle.km_model.specs.Grammar.{line_of}
use Rattle.km_model.specs.Output.{is_fresh}
use Rattle.km_engine.specs.Session.{HasLed, HasRoomToRun, SpendsOn}
use Rattle.km_forms.specs.Lines.{Refuses}
use Rattle.km_engine.specs.Steps.{EndsAt, IsFitLine}
use Rattle.km_engine.proofs.Fit.{read_is_fit}
use Rattle.km_engine.proofs.Lines.{fresh_as, stays_led}
use Rattle.km_engine.proofs.Rooms.{less_room, room_to_run, line_takes}
use Rattle.km_engine.proofs.script.Script.some_line.Goals as goal

pub run-requires-clause-fit : goal.run-requires-clause-fit
run-requires-clause-fit g c =
    let s = c.args.self.now in
    let read : line_of (is_none s.machine) c.args.bytes.now ≡ Ok c.in-Ok.line = ap (λ b. line_of b c.args.bytes.now) (sym c.is_fresh.ensures) ∙ sym c.in-Ok.ensures in
    subst (λ m. IsFitLine (is_none m) c.in-Ok.line) (sym (ap (λ t. t.machine) c.self.view_is)) (read_is_fit (is_none s.machine) c.args.bytes.now c.in-Ok.line read)

pub run-requires-clause-room : goal.run-requires-clause-room
run-requires-clause-room g c =
    let s = c.args.self.now in
    let read : line_of (is_none s.machine) c.args.bytes.now ≡ Ok c.in-Ok.line = ap (λ b. line_of b c.args.bytes.now) (sym c.is_fresh.ensures) ∙ sym c.in-Ok.ensures in
    subst (λ m. HasRoomToRun m c.in-Ok.line) (sym (ap (λ t. t.machine) c.self.view_is)) (room_to_run s.machine c.args.bytes.now c.in-Ok.line read c.requires.room)

pub returns-in-Err-clause-runs : goal.returns-in-Err-clause-runs
returns-in-Err-clause-runs g c =
    let k = g.K.Sink.state c.args.sink.now in
    let k' = g.K.Sink.state c.refuse.new.sink in
    λ p stands.
    let read : Err c.in-Err.refused ≡ line_of (is_fresh p.script) c.args.bytes.now =
    c.in-Err.ensures ∙ ap (λ b. line_of b c.args.bytes.now) (c.is_fresh.ensures ∙ fresh_as c.args.self.now.machine p.script stands.led) in (
      subst (λ (r : Result Line Refused). EndsAt p r k k' c.refuse.result) read
          (subst (λ (n : ℕ). Refuses n c.in-Err.refused.column k k' c.refuse.result) (ap (λ s. s.number) c.self.view_is ∙ stands.number) c.refuse.ensures),
      stays_led c.args.self.now p c.refuse.result stands.led,
    )

pub returns-in_ok-run-in-Ok-clause-runs : goal.returns-in_ok-run-in-Ok-clause-runs
returns-in_ok-run-in-Ok-clause-runs g c =
    λ p stands. (
      c.in-Ok.line,
      ap (λ b. line_of b c.args.bytes.now) (sym (c.is_fresh.ensures ∙ fresh_as c.args.self.now.machine p.script stands.led)) ∙ sym c.in-Ok.ensures,
      c.in_ok-run-in-Ok.ensures.runs p.script (subst (λ m. HasLed m p.script) (sym (ap (λ t. t.machine) c.self.view_is)) stands.led),
    )

pub returns-in_ok-run-in-Ok-clause-room : goal.returns-in_ok-run-in-Ok-clause-room
returns-in_ok-run-in-Ok-clause-room g c =
    let s = c.args.self.now in
    let read : line_of (is_none s.machine) c.args.bytes.now ≡ Ok c.in-Ok.line = ap (λ b. line_of b c.args.bytes.now) (sym c.is_fresh.ensures) ∙ sym c.in-Ok.ensures in
    λ more room. less_room c.run.new.machine more (0 + more) (omega arith)
    (line_takes s.machine c.run.new.machine c.args.bytes.now c.in-Ok.line more read
    (subst (λ m. SpendsOn m c.in-Ok.line c.run.new.machine) (ap (λ t. t.machine) c.self.view_is) c.in_ok-run-in-Ok.ensures.spent) room)
