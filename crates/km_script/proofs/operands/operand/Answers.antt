use Rattle.std.proofs.Common.{◌==◌, ◌∷◌, length, Some, None, sym, ◌∙◌}
use Rattle.km_model.specs.Grammar.{base_of}
use Rattle.km_script.proofs.Bases.{no_plus, operand_in, place_in_front}
use Rattle.km_script.proofs.operands.operand.Goals as goal

pub returns-in_err-plus-in-Some : goal.returns-in_err-plus-in-Some
returns-in_err-plus-in-Some c =
    c.from_residual.ensures
    ∙ sym (no_plus (base_of (c.args.word.first ∷ c.in-Some.front.now)))
    ∙ operand_in c.args.word.first c.args.word.rest.now c.in-Some.front.now c.in-Some.digits.now None (c.in-Some.ensures.cut 43 c.args.word.plus_is_first) (sym c.in_err-plus-in-Some.was ∙ c.number.ensures)

pub operand_of-requires : goal.operand_of-requires
operand_of-requires c =
    c.below.ensures
    ∙ place_in_front (λ c. c == 46) (length c.in-Some.front.now) c.args.word.rest.now c.in-Some.front.now c.args.word.dot c.in-Some.ensures.front c.args.word.dot_is_first

pub returns-in_ok-plus-in-Some : goal.returns-in_ok-plus-in-Some
returns-in_ok-plus-in-Some c =
    c.operand_of.ensures
    ∙ operand_in c.args.word.first c.args.word.rest.now c.in-Some.front.now c.in-Some.digits.now (Some c.in_ok-plus-in-Some.plus) (c.in-Some.ensures.cut 43 c.args.word.plus_is_first) (sym c.in_ok-plus-in-Some.was ∙ c.number.ensures)
