use Rattle.std.proofs.Common.{ap, ◌∙◌, subst}
use Rattle.std.specs.Slice.Iter.{chunks_rest, chunks_size}
use Rattle.km_edge.specs.Streams.{Wrote}
use Rattle.km_machine.proofs.Entries.{rows_begin, rows_end, rows_go_on, rows_stop}
use Rattle.km_machine.proofs.Pieces.{Stops, stopped}
use Rattle.km_machine.proofs.print.rows.Goals as goal

pub loop-row-init : goal.loop-row-init
loop-row-init g c =
    let same = c.into_iter-row-iterator.ensures.into_iter_gives in
    rows_begin _ _ _ _ (ap chunks_size same ∙ c.chunks-row-items.ensures.size) (ap chunks_rest same ∙ c.chunks-row-items.ensures.rest) c.requires

pub loop-row-preserved : goal.loop-row-preserved
loop-row-preserved g c =
    let b = g.K.Sink.state c.loop-row.sink in
    let d = g.K.Sink.state c.write_all.new.sink in
    rows_go_on _ _ _ _ c.in-Some.row.now _ _ b d c.loop-row.invariant c.in-Some.ensures.steps (subst (λ xs. Wrote b d xs) (c.bytes.ensures ∙ c.hex_row.ensures) c.in_ok-write_all.ensures)

pub returns-in_err-write_all : goal.returns-in_err-write_all
returns-in_err-write_all g c =
    let b = g.K.Sink.state c.loop-row.sink in
    let d = g.K.Sink.state c.write_all.new.sink in
    stopped _ d _ _ c.from_residual.ensures.0
    (rows_stop _ _ _ _ c.in-Some.row.now _ _ b d c.loop-row.invariant c.in-Some.ensures.steps (subst (λ xs. Stops b d xs) (c.bytes.ensures ∙ c.hex_row.ensures) c.in_err-write_all.ensures))

pub returns : goal.returns
returns g c = rows_end _ _ _ _ _ c.loop-row.invariant c.in-None.ensures.steps.1.0
