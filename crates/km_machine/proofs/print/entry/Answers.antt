use Rattle.std.proofs.Common.{◌-◌, ◌++◌, min, length, refl, sym, subst}
use Rattle.km_edge.specs.Streams.{WritesAll, Wrote}
use Rattle.km_laws.specs.Placed.{InMemory}
use Rattle.km_model.specs.Text.{entry, entry_age, entry_head, entry_hex, hex_rows}
use Rattle.km_record.specs.Records.{block_of}
use Rattle.km_machine.proofs.Entries.{its_block}
use Rattle.km_machine.proofs.Pieces.{Stops, stopped, stops_early, writes_behind}
use Rattle.km_machine.proofs.print.entry.Goals as goal

pub returns-in_err-heading-clause-entry : goal.returns-in_err-heading-clause-entry
returns-in_err-heading-clause-entry g c = λ l found lies.
    let a = g.K.Sink.state c.args.sink.now in
    let b = g.K.Sink.state c.heading.new.sink in
    let r = c.in-Some.record.now in
    let block = its_block _ _ c.args.id r l c.track.ensures c.in-Some.ensures.block found in
    let fails = subst (λ n. Stops a b (entry_head r.span.start.0 r.span.size ++ entry_age r.born (n - r.born) ++ entry_hex (min 32 r.span.size))) c.now.ensures c.in_err-heading.ensures in
    subst (λ x. WritesAll a b (entry c.args.core.now.parts.settings.now c.args.words.now x) c.from_residual.result) block (stopped a b _ _ c.from_residual.ensures.0 (stops_early a b _ _ fails))

pub returns-clause-entry : goal.returns-clause-entry
returns-clause-entry g c = λ l found lies.
    let a = g.K.Sink.state c.args.sink.now in
    let b = g.K.Sink.state c.heading.new.sink in
    let d = g.K.Sink.state c.rows.new.sink in
    let r = c.in-Some.record.now in
    let block = its_block _ _ c.args.id r l c.track.ensures c.in-Some.ensures.block found in
    let head = subst (λ n. Wrote a b (entry_head r.span.start.0 r.span.size ++ entry_age r.born (n - r.born) ++ entry_hex (min 32 r.span.size))) c.now.ensures c.in_ok-heading.ensures in
    let inside = subst (λ x. InMemory (length c.args.words.now) x.start x.size) (sym block) lies in
    let bytes = subst (λ xs. WritesAll b d (hex_rows 2 xs) c.rows.result) (c.load_first-count.ensures.bytes (block_of c.args.id.generation r) refl refl inside) c.rows.ensures in
    subst (λ x. WritesAll a d (entry c.args.core.now.parts.settings.now c.args.words.now x) c.rows.result) block (writes_behind a b d _ _ c.rows.result head bytes)
