use Rattle.std.proofs.Common.{option_map, Some, None, ap, sym, ◌∙◌}
use Rattle.km_script.specs.Words.{piece_of}
use Rattle.km_script.proofs.LineLaws.{too_long, no_words, comment, words_behind}
use Rattle.km_script.proofs.line.read_by_words.Goals as goal

pub returns-then-bytes-gt-LONGEST_LINE : goal.returns-then-bytes-gt-LONGEST_LINE
returns-then-bytes-gt-LONGEST_LINE c = sym (too_long c.args.first c.args.bytes.now c.if-bytes-gt-LONGEST_LINE.true)

pub returns-in_default : goal.returns-in_default
returns-in_default c =
    no_words c.args.first c.args.bytes.now c.of-words.result c.if-bytes-gt-LONGEST_LINE.false c.of-words.ensures.all (ap (option_map piece_of) (sym c.in_default.is) ∙ c.next.ensures.word)

pub returns-then-begins_comment : goal.returns-then-begins_comment
returns-then-begins_comment c =
    comment c.args.first c.args.bytes.now c.of-words.result (piece_of c.in-Some.word)
    (record { short = c.if-bytes-gt-LONGEST_LINE.false; all = c.of-words.ensures.all; word = ap (option_map piece_of) (sym c.in-Some.is) ∙ c.next.ensures.word })
    (sym c.begins_comment.ensures ∙ c.if-begins_comment.true)

pub returns-in-Some-foreign : goal.returns-in-Some-foreign
returns-in-Some-foreign c =
    words_behind c.args.first c.args.bytes.now c.of-words.result c.next.new.self (piece_of c.in-Some.word) c.read_words-read.result (Some c.in-Some-foreign.column)
    (record { short = c.if-bytes-gt-LONGEST_LINE.false; all = c.of-words.ensures.all; word = ap (option_map piece_of) (sym c.in-Some.is) ∙ c.next.ensures.word })
    (sym c.begins_comment.ensures ∙ c.if-begins_comment.false)
    c.of-words.ensures.end
    c.of-words.ensures.foreign
    c.next.ensures.rest
    c.read_words-read.ensures.read
    (sym c.in-Some-foreign.is ∙ c.foreign.ensures ∙ c.read_words-read.ensures.kept)

pub returns-in-None : goal.returns-in-None
returns-in-None c =
    words_behind c.args.first c.args.bytes.now c.of-words.result c.next.new.self (piece_of c.in-Some.word) c.read_words-read.result None
    (record { short = c.if-bytes-gt-LONGEST_LINE.false; all = c.of-words.ensures.all; word = ap (option_map piece_of) (sym c.in-Some.is) ∙ c.next.ensures.word })
    (sym c.begins_comment.ensures ∙ c.if-begins_comment.false)
    c.of-words.ensures.end
    c.of-words.ensures.foreign
    c.next.ensures.rest
    c.read_words-read.ensures.read
    (sym c.in-None.is ∙ c.foreign.ensures ∙ c.read_words-read.ensures.kept)
