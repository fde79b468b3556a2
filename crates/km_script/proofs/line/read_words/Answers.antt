use Rattle.std.proofs.Common.{Err, ap, sym, ◌∙◌}
use Rattle.km_model.specs.Grammar.{as_line}
use Rattle.km_script.specs.Words.{piece_of}
use Rattle.km_script.proofs.RuleLaws.{words_of_none, words_of_right, words_of_wrong}
use Rattle.km_script.proofs.line.read_words.Goals as goal

pub returns-in_default-clause-read : goal.returns-in_default-clause-read
returns-in_default-clause-read c =
    ap Err c.refused.ensures
    ∙ words_of_none (piece_of c.args.word) c.args.words.now.end c.args.words.now.pieces c.args.first (sym c.of.ensures ∙ c.in_default.is)

pub returns-then-may_stand-clause-read : goal.returns-then-may_stand-clause-read
returns-then-may_stand-clause-read c =
    c.as_line.ensures
    ∙ ap as_line c.read_by.ensures.read
    ∙ words_of_right c.in-Some.keyword (piece_of c.args.word) c.args.words.now.end c.args.words.now.pieces c.args.first (sym c.of.ensures ∙ c.in-Some.is) (sym c.may_stand.ensures ∙ c.if-may_stand.true)

pub returns-else-may_stand-clause-read : goal.returns-else-may_stand-clause-read
returns-else-may_stand-clause-read c =
    ap Err c.refused-else-may_stand.ensures
    ∙ words_of_wrong c.in-Some.keyword (piece_of c.args.word) c.args.words.now.end c.args.words.now.pieces c.args.first (sym c.of.ensures ∙ c.in-Some.is) (sym c.may_stand.ensures ∙ c.if-may_stand.false)
