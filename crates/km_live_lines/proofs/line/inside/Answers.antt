use Rattle.std.proofs.Common.{drop, find, option_map, ap, sym, ◌∙◌}
use Rattle.km_model.specs.Pieces.{Piece}
use Rattle.km_live_model.specs.LiveGrammar.{names_other}
use Rattle.km_script.specs.Left.{Left}
use Rattle.km_script.specs.Words.{piece_of}
use Rattle.km_live_lines.proofs.Lines.{inside_job}
use Rattle.km_live_lines.proofs.line.inside.Goals as goal

pub returns-clause-read : goal.returns-clause-read
returns-clause-read c =
    let again = ap (λ (l : Left). l.pieces) c.next.ensures.rest ∙ (ap (drop 1) c.of-again.ensures.all ∙ sym c.requires.rest) in
    inside_job c.args.own.now (piece_of c.args.word) c.args.words.now.end c.args.words.now.pieces c.first_other.result c.read_job-read.result c.unless_before.result (sym c.is_end.ensures ∙ c.if-is_end.false) c.unless_before.ensures
    (c.first_other.ensures ∙ ap (λ ps. option_map (λ (p : Piece). p.column) (find (names_other c.args.own.now) ps)) again) c.read_job-read.ensures.read
