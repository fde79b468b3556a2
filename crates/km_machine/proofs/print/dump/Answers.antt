use Rattle.std.proofs.Common.{◌≡◌, [], sym, ◌∙◌, subst, arith, take}
use Rattle.std.specs.Prelude.{flat_map}
use Rattle.km_edge.specs.Streams.{Wrote}
use Rattle.km_edge.proofs.Writing.{wrote_more}
use Rattle.km_model.specs.Text.{as_text_line, dump_lines}
use Rattle.km_machine.proofs.Pieces.{Stops, piece_at, pieces_from, stopped, stops_behind, stops_early}
use Rattle.km_machine.proofs.print.dump.Goals as goal

pub returns-in_err-write_all : goal.returns-in_err-write_all
returns-in_err-write_all g c =
    let a = g.K.Sink.state c.args.sink.now in
    let b = g.K.Sink.state c.loop-place.sink in
    let d = g.K.Sink.state c.write_all.new.sink in
    stopped a d _ _ c.from_residual.ensures.0
    (subst (λ xs. Stops a d xs) (sym (pieces_from as_text_line (dump_lines c.args.info.now) c.loop-place.place [] (omega (arith, c.loop-place-test.true))))
    (stops_early a d _ _ (stops_behind a b d _ _ c.loop-place.invariant (subst (λ xs. Stops b d xs) (c.bytes.ensures ∙ c.dump_line.ensures) c.in_err-write_all.ensures))))

pub loop-place-preserved : goal.loop-place-preserved
loop-place-preserved g c =
    let a = g.K.Sink.state c.args.sink.now in
    let b = g.K.Sink.state c.loop-place.sink in
    let d = g.K.Sink.state c.write_all.new.sink in
    subst (λ xs. Wrote a d xs) (sym (piece_at as_text_line (dump_lines c.args.info.now) c.loop-place.place [] (omega (arith, c.loop-place-test.true))))
    (wrote_more a b d _ _ c.loop-place.invariant (subst (λ xs. Wrote b d xs) (c.bytes.ensures ∙ c.dump_line.ensures) c.in_ok-write_all.ensures))

pub returns : goal.returns
returns g c =
    let all : c.loop-place.place ≡ 6 = omega (arith, c.loop-place-test.false, c.loop-place.auto.place-end) in
    subst (λ n. Wrote (g.K.Sink.state c.args.sink.now) (g.K.Sink.state c.loop-place.sink) (flat_map as_text_line (take n (dump_lines c.args.info.now)))) all c.loop-place.invariant
