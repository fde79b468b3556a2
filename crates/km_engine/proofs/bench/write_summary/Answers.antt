use Rattle.std.proofs.Common.{◌∙◌, subst}
use Rattle.km_edge.specs.Streams.{WritesAll, Wrote}
use Rattle.km_machine.proofs.Pieces.{Stops, stopped, stops_early, writes_behind}
use Rattle.km_engine.proofs.bench.write_summary.Goals as goal

pub returns-in_err-write_all : goal.returns-in_err-write_all
returns-in_err-write_all g c =
    let a = g.K.Sink.state c.args.sink.now in
    let b = g.K.Sink.state c.write_all.new.sink in
    let fails = subst (λ xs. Stops a b xs) (c.bytes.ensures ∙ c.bench_number.ensures) c.in_err-write_all.ensures in
    stopped a b _ _ c.from_residual.ensures.0 (stops_early a b _ _ fails)

pub returns : goal.returns
returns g c =
    let a = g.K.Sink.state c.args.sink.now in
    let b = g.K.Sink.state c.write_all.new.sink in
    let d = g.K.Sink.state c.write_all-2.new.sink in
    let first = subst (λ xs. Wrote a b xs) (c.bytes.ensures ∙ c.bench_number.ensures) c.in_ok-write_all.ensures in
    let second = subst (λ xs. WritesAll b d xs c.write_all-2.result) (c.bytes-2.ensures ∙ c.bench_result.ensures) c.write_all-2.ensures in
    writes_behind a b d _ _ _ first second
