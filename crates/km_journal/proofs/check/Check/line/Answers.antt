use Rattle.std.proofs.Common.{◌≡◌, sym, subst, ◌∙◌}
use Rattle.km_entries.specs.declared.status.CheckStatus.{CheckStatus}
use Rattle.km_entries.specs.File.{verdict}
use Rattle.km_journal.specs.declared.replay.Judged.{Judged}
use Rattle.km_journal.specs.Journals.{EndsAt}
use Rattle.km_journal.specs.Replays.{Judges}
use Rattle.km_journal.proofs.Judging.{none_was, right_was, wrong_was}
use Rattle.km_journal.proofs.check.Check.line.Goals as goal

pub returns-in-Ok-Right-clause-reads : goal.returns-in-Ok-Right-clause-reads
returns-in-Ok-Right-clause-reads c = λ so_far read.
    let v = verdict so_far c.args.bytes.now in
    right_was v _ (subst (λ (j : Judged). Judges v j c.judge.new.self.replay) c.in-Ok-Right.field-0-is (c.in-Ok-Right.ensures.judges so_far read))

pub returns-in-Ok-Wrong-clause-reads : goal.returns-in-Ok-Wrong-clause-reads
returns-in-Ok-Wrong-clause-reads c = λ so_far read.
    let v = verdict so_far c.args.bytes.now in
    (c.in-Ok-Wrong.ensures.number, wrong_was v _ (subst (λ (j : Judged). Judges v j c.judge.new.self.replay) c.in-Ok-Wrong.field-0-is (c.in-Ok-Wrong.ensures.judges so_far read)))

pub returns-in-Ok-NoLine-clause-reads : goal.returns-in-Ok-NoLine-clause-reads
returns-in-Ok-NoLine-clause-reads c = λ so_far read.
    let v = verdict so_far c.args.bytes.now in
    subst (λ (x : CheckStatus). EndsAt c.args.self.now.number so_far c.args.bytes.now x) (sym c.no_line.ensures)
    (c.in-Ok-NoLine.ensures.number, none_was v _ (subst (λ (j : Judged). Judges v j c.judge.new.self.replay) c.in-Ok-NoLine.field-0-is (c.in-Ok-NoLine.ensures.judges so_far read)))
