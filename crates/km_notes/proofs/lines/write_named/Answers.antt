use Rattle.std.proofs.Common.{[], ◌∷◌, ◌++◌, ap, sym, subst, ◌∙◌}
use Rattle.km_edge.specs.Streams.{WritesAll, Wrote}
use Rattle.km_edge.proofs.Writing.{wrote_more}
use Rattle.km_journal_text.specs.Events.{after_name}
use Rattle.km_machine.proofs.Pieces.{Stops, stopped, stops_behind, stops_early, writes_behind}
use Rattle.km_notes.proofs.Pieces.{named_line}
use Rattle.km_notes.proofs.lines.write_named.Goals as goal

pub returns-in_err-write_all : goal.returns-in_err-write_all
returns-in_err-write_all g c =
    let a = g.K.Sink.state c.args.sink.now in
    let b = g.K.Sink.state c.write_all.new.sink in
    let whole = named_line c.args.by c.args.act.now c.args.name.now c.args.answer.now c.requires in
    let fails = subst (λ xs. Stops a b xs) (c.bytes.ensures ∙ c.push.ensures ∙ ap (λ t. t ++ 32 ∷ []) c.event_begin.ensures.text) c.in_err-write_all.ensures in
    subst (λ xs. WritesAll a b xs c.from_residual.result) (sym whole)
    (stopped a b _ _ c.from_residual.ensures.0 (stops_early a b _ _ (stops_early a b _ c.args.name.now fails)))

pub returns-in_err-write_all-2 : goal.returns-in_err-write_all-2
returns-in_err-write_all-2 g c =
    let a = g.K.Sink.state c.args.sink.now in
    let b = g.K.Sink.state c.write_all.new.sink in
    let d = g.K.Sink.state c.write_all-2.new.sink in
    let whole = named_line c.args.by c.args.act.now c.args.name.now c.args.answer.now c.requires in
    let begin = subst (λ xs. Wrote a b xs) (c.bytes.ensures ∙ c.push.ensures ∙ ap (λ t. t ++ 32 ∷ []) c.event_begin.ensures.text) c.in_ok-write_all.ensures in
    let fails = subst (λ xs. Stops b d xs) c.bytes-2.ensures c.in_err-write_all-2.ensures in
    subst (λ xs. WritesAll a d xs c.from_residual-in_err-write_all-2.result) (sym whole)
    (stopped a d _ _ c.from_residual-in_err-write_all-2.ensures.0 (stops_early a d _ _ (stops_behind a b d _ _ begin fails)))

pub returns : goal.returns
returns g c =
    let a = g.K.Sink.state c.args.sink.now in
    let b = g.K.Sink.state c.write_all.new.sink in
    let d = g.K.Sink.state c.write_all-2.new.sink in
    let e = g.K.Sink.state c.write_all-3.new.sink in
    let act = c.args.act.now in
    let answer = c.args.answer.now in
    let whole = named_line c.args.by act c.args.name.now answer c.requires in
    let begin = subst (λ xs. Wrote a b xs) (c.bytes.ensures ∙ c.push.ensures ∙ ap (λ t. t ++ 32 ∷ []) c.event_begin.ensures.text) c.in_ok-write_all.ensures in
    let name = subst (λ xs. Wrote b d xs) c.bytes-2.ensures c.in_ok-write_all-2.ensures in
    let rest = subst (λ xs. WritesAll d e xs c.write_all-3.result) (c.bytes-3.ensures ∙ c.event_rest.ensures ∙ ap (λ t. t ++ after_name act answer) c.clear.ensures) c.write_all-3.ensures in
    subst (λ xs. WritesAll a e xs c.write_all-3.result) (sym whole) (writes_behind a d e _ _ _ (wrote_more a b d _ _ begin name) rest)
