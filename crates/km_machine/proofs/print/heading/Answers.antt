use Rattle.std.proofs.Common.{ap, ◌∙◌, subst, arith}
use Rattle.km_edge.specs.Streams.{WritesAll, Wrote}
use Rattle.km_edge.proofs.Writing.{wrote_more}
use Rattle.km_model.specs.Text.{entry_age, entry_hex}
use Rattle.km_machine.proofs.Pieces.{Stops, stopped, stops_behind, stops_early, writes_behind}
use Rattle.km_machine.proofs.print.heading.Goals as goal

pub returns-in_err-write_all : goal.returns-in_err-write_all
returns-in_err-write_all g c =
    let a = g.K.Sink.state c.args.sink.now in
    let b = g.K.Sink.state c.write_all.new.sink in
    let fails = subst (λ xs. Stops a b xs) (c.bytes.ensures ∙ c.entry_head.ensures) c.in_err-write_all.ensures in
    stopped a b _ _ c.from_residual.ensures.0 (stops_early a b _ _ (stops_early a b _ _ fails))

pub returns-in_err-write_all-2 : goal.returns-in_err-write_all-2
returns-in_err-write_all-2 g c =
    let a = g.K.Sink.state c.args.sink.now in
    let b = g.K.Sink.state c.write_all.new.sink in
    let d = g.K.Sink.state c.write_all-2.new.sink in
    let head = subst (λ xs. Wrote a b xs) (c.bytes.ensures ∙ c.entry_head.ensures) c.in_ok-write_all.ensures in
    let fails = subst (λ xs. Stops b d xs) (c.bytes-2.ensures ∙ c.entry_age.ensures ∙ ap (entry_age c.args.born) c.saturating_sub.ensures) c.in_err-write_all-2.ensures in
    stopped a d _ _ c.from_residual-in_err-write_all-2.ensures.0 (stops_early a d _ _ (stops_behind a b d _ _ head fails))

pub returns : goal.returns
returns g c =
    let a = g.K.Sink.state c.args.sink.now in
    let b = g.K.Sink.state c.write_all.new.sink in
    let d = g.K.Sink.state c.write_all-2.new.sink in
    let e = g.K.Sink.state c.write_all-3.new.sink in
    let head = subst (λ xs. Wrote a b xs) (c.bytes.ensures ∙ c.entry_head.ensures) c.in_ok-write_all.ensures in
    let age = subst (λ xs. Wrote b d xs) (c.bytes-2.ensures ∙ c.entry_age.ensures ∙ ap (entry_age c.args.born) c.saturating_sub.ensures) c.in_ok-write_all-2.ensures in
    let last = subst (λ xs. WritesAll d e xs c.write_all-3.result) (c.bytes-3.ensures ∙ c.entry_hex.ensures ∙ ap entry_hex (omega (arith, c.min.ensures))) c.write_all-3.ensures in
    writes_behind a d e _ _ _ (wrote_more a b d _ _ head age) last
