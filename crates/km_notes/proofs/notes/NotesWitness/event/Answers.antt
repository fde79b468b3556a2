use Rattle.std.proofs.Common.{ap, sym, subst, ◌∙◌}
use Rattle.km_base.specs.declared.acts.Act.{Act}
use Rattle.km_edge.specs.Streams.{WritesAll}
use Rattle.km_model.specs.Follows.{happens, past_of, told_answer}
use Rattle.km_rounds.specs.Journals.{entry}
use Rattle.km_entries.specs.File.{entry_text}
use Rattle.km_machine.specs.Machines.{For}
use Rattle.km_notes.proofs.Noting.{read_lines}
use Rattle.km_notes.proofs.notes.NotesWitness.event.Goals as goal

pub returns-in-Read-clause-said : goal.returns-in-Read-clause-said
returns-in-Read-clause-said g c = λ run memory stands answered asks read.
    let a = g.K.Sink.state c.args.sink.now in
    let b = g.K.Sink.state c.write_read.new.sink in
    let given = c.args.answer.now in
    let f = subst (λ (x : Act). For c.args.machine.now (happens run x)) c.in-Read.is stands in
    let told = answered ∙ ap (told_answer run) c.in-Read.is in
    subst (λ (x : Act). WritesAll a b (entry_text (past_of run.history) (entry 0 x given)) c.write_read.result) (sym c.in-Read.is)
    (subst (λ xs. WritesAll a b xs c.write_read.result) (read_lines c.args.machine.now run given f told) c.write_read.ensures)
