use Rattle.std.proofs.Common.{◌++◌, ap, sym, subst, ◌∙◌}
use Rattle.km_edge.specs.Streams.{WritesAll}
use Rattle.km_journal_text.specs.Events.{after_name}
use Rattle.km_notes.proofs.Pieces.{plain_line}
use Rattle.km_notes.proofs.lines.write_plain.Goals as goal

pub returns : goal.returns
returns g c =
    let act = c.args.act.now in
    let answer = c.args.answer.now in
    let text = c.bytes.ensures ∙ c.event_rest.ensures ∙ ap (λ t. t ++ after_name act answer) c.event_begin.ensures.text ∙ sym (plain_line c.args.by act answer c.requires) in
    subst (λ xs. WritesAll (g.K.Sink.state c.args.sink.now) (g.K.Sink.state c.write_all.new.sink) xs c.write_all.result) text c.write_all.ensures
