use Rattle.std.proofs.Common.{ap, sym, ◌∙◌, drop}
use Rattle.km_journal_lines.specs.Words.{first_word}
use Rattle.km_journal_lines.proofs.Splits.{next_word}
use Rattle.km_journal_lines.proofs.words.Words.next.Goals as goal

pub returns-clause-word : goal.returns-clause-word
returns-clause-word c =
    let all = next_word c.self.inside.more c.self.inside.rest.now c.args.self.now c.word_length.result c.split_at.result.0.now c.split_at.result.1.now c.if-not-self.false c.self.view_is c.word_length.ensures.length c.split_at.ensures.front c.split_at.ensures.back in
    sym (ap first_word all)

pub returns-clause-rest : goal.returns-clause-rest
returns-clause-rest c =
    let all = next_word c.self.inside.more c.self.inside.rest.now c.args.self.now c.word_length.result c.split_at.result.0.now c.split_at.result.1.now c.if-not-self.false c.self.view_is c.word_length.ensures.length c.split_at.ensures.front c.split_at.ensures.back in
    c.after_space-more.ensures ∙ sym (ap (drop 1) all)
