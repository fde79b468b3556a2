use Rattle.std.proofs.Common.{map, sym, ◌∙◌, arith, Some}
use Rattle.km_sections.specs.Parts.{allocation}
use Rattle.km_sections.proofs.Lookups.{count_all, full}
use Rattle.km_sections.proofs.sections.fault.Goals as goal

pub returns-then-parts-ge-MOST-clause-answer : goal.returns-then-parts-ge-MOST-clause-answer
returns-then-parts-ge-MOST-clause-answer c =
    sym (full (map allocation c.args.parts.now) c.args.name c.args.words (Some 0) c.if-words-eq0.false c.if-words-gt-MOST_WORDS.false
    (sym c.is_taken.ensures ∙ c.if-is_taken.false) (let n = count_all c.args.parts.now in omega (arith, n)))
