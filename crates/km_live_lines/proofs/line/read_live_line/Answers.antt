use Rattle.std.proofs.Common.{option_map, drop, Some, None, ap, sym, ◌∙◌}
use Rattle.km_script.specs.Left.{Left}
use Rattle.km_script.specs.Words.{piece_of}
use Rattle.km_live_lines.proofs.Lines.{too_long, no_words, comment, words_after}
use Rattle.km_live_lines.proofs.line.read_live_line.Goals as goal

pub returns-then-bytes-gt-LONGEST_LINE : goal.returns-then-bytes-gt-LONGEST_LINE
returns-then-bytes-gt-LONGEST_LINE c = sym (too_long c.args.first c.args.thread c.args.bytes.now c.if-bytes-gt-LONGEST_LINE.true)

pub returns-in_default : goal.returns-in_default
returns-in_default c =
    no_words c.args.first c.args.thread c.args.bytes.now c.of-words.result c.if-bytes-gt-LONGEST_LINE.false c.of-words.ensures.all (ap (option_map piece_of) (sym c.in_default.is) ∙ c.next.ensures.word)

pub returns-then-begins_comment : goal.returns-then-begins_comment
returns-then-begins_comment c =
    comment c.args.first c.args.thread c.args.bytes.now c.of-words.result (piece_of c.in-Some.word) c.if-bytes-gt-LONGEST_LINE.false c.of-words.ensures.all (ap (option_map piece_of) (sym c.in-Some.is) ∙ c.next.ensures.word)
    (sym c.begins_comment.ensures ∙ c.if-begins_comment.true)

pub read_words-read-requires-clause-rest : goal.read_words-read-requires-clause-rest
read_words-read-requires-clause-rest c = ap (λ (l : Left). l.pieces) c.next.ensures.rest ∙ ap (drop 1) c.of-words.ensures.all

pub returns-in-Some-foreign : goal.returns-in-Some-foreign
returns-in-Some-foreign c =
    words_after c.args.first c.args.thread c.args.bytes.now c.of-words.result (piece_of c.in-Some.word) c.if-bytes-gt-LONGEST_LINE.false c.of-words.ensures.all (ap (option_map piece_of) (sym c.in-Some.is) ∙ c.next.ensures.word)
    c.next.new.self c.read_words-read.result (Some c.in-Some-foreign.column)
    (sym c.begins_comment.ensures ∙ c.if-begins_comment.false)
    c.of-words.ensures.end
    c.of-words.ensures.foreign
    c.next.ensures.rest
    c.read_words-read.ensures.read
    (sym c.in-Some-foreign.is ∙ c.foreign.ensures ∙ c.read_words-read.ensures.kept)

pub returns-in-None : goal.returns-in-None
returns-in-None c =
    words_after c.args.first c.args.thread c.args.bytes.now c.of-words.result (piece_of c.in-Some.word) c.if-bytes-gt-LONGEST_LINE.false c.of-words.ensures.all (ap (option_map piece_of) (sym c.in-Some.is) ∙ c.next.ensures.word)
    c.next.new.self c.read_words-read.result None
    (sym c.begins_comment.ensures ∙ c.if-begins_comment.false)
    c.of-words.ensures.end
    c.of-words.ensures.foreign
    c.next.ensures.rest
    c.read_words-read.ensures.read
    (sym c.in-None.is ∙ c.foreign.ensures ∙ c.read_words-read.ensures.kept)
