use Rattle.km_notes.proofs.Noting.{noted_line, refused_noted}
use Rattle.km_notes.proofs.run.note_events.Goals as goal

pub returns-in-Ok-clause-notes : goal.returns-in-Ok-clause-notes
returns-in-Ok-clause-notes g c = λ run f.
    let s = c.in-Ok.ensures.says run f in
    noted_line _ run c.args.command.now _ _ c.in-Ok.written s.behind s.makes s.stands s.said.2

pub returns-in-Err-clause-notes : goal.returns-in-Err-clause-notes
returns-in-Err-clause-notes g c = λ run f. refused_noted _ run c.args.command.now _ _ _ (c.in-Err.ensures.says run f)
