use Rattle.std.proofs.Common.{◌∙◌, length, ap, sym, arith}
use Rattle.std.specs.List.{count_by}
use Rattle.km_edge.specs.Lines.{is_line_feed}
use Rattle.km_engine.proofs.Summaries.{sums_up}
use Rattle.km_engine.proofs.bench.sum_up.Goals as goal

pub returns : goal.returns
returns c =
    let whole = c.new-source.ensures ∙ c.as_slice.ensures.value in
    sums_up c.args.number c.args.steps c.line_feeds.result c.listed.result _ c.run_from.new.sink c.count.result c.new-source.result.left.now _ _ c.run_from.result c.run_from.ensures c.in_default.not-NoMemory
    c.new-sink.ensures c.count.ensures (whole ∙ c.in_ok-script.ensures.script) c.requires (omega (arith, ap length whole, c.in_ok-script.ensures.short))
    (c.line_feeds.ensures ∙ ap (count_by is_line_feed) (c.as_slice-in_default.ensures.value ∙ sym whole)) c.listed.ensures
