use Rattle.std.proofs.Common.{Err, Some, None, ap, sym, ◌∙◌}
use Rattle.km_live_model.specs.LiveGrammar.{as_command}
use Rattle.km_script.specs.Words.{piece_of}
use Rattle.km_live_lines.proofs.Lines.{outside_by}
use Rattle.km_live_lines.proofs.line.outside.Goals as goal

pub returns-in-Some-clause-read : goal.returns-in-Some-clause-read
returns-in-Some-clause-read c =
    c.as_command.ensures ∙ (ap as_command c.read_by.ensures.read
    ∙ outside_by (piece_of c.args.word) c.args.words.now.end c.args.words.now.pieces (sym c.is_thread.ensures ∙ c.if-is_thread.false) (sym c.is_round.ensures ∙ c.if-is_round.false) (Some c.in-Some.keyword) (sym c.of.ensures ∙ c.in-Some.is))

pub returns-in-None-clause-read : goal.returns-in-None-clause-read
returns-in-None-clause-read c =
    ap Err c.refused.ensures
    ∙ outside_by (piece_of c.args.word) c.args.words.now.end c.args.words.now.pieces (sym c.is_thread.ensures ∙ c.if-is_thread.false) (sym c.is_round.ensures ∙ c.if-is_round.false) None (sym c.of.ensures ∙ c.in-None.is)
