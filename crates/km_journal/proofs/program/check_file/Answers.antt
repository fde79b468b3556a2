use Rattle.std.proofs.Common.{subst}
use Rattle.km_journal.specs.Journals.{WritesText, text_of}
use Rattle.km_journal.proofs.Checked.{comes, is_checked}
use Rattle.km_journal.proofs.program.check_file.Goals as goal

pub returns : goal.returns
returns g c =
    let k = g.K.Sink.state c.args.sink.now in
    let k' = g.K.Sink.state c.write_text.new.sink in
    let ended = c.check_from-ended.result in
    let wrote = subst (λ o. WritesText (text_of ended o) ended k k' c.write_text.result) c.replay.ensures c.write_text.ensures in
    is_checked _ _ k k' _ (comes _ _ k k' c.check_from-ended.new.check.replay ended c.write_text.result c.check_from-ended.ensures wrote)
