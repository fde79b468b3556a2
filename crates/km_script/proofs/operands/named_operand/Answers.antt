use Rattle.std.proofs.Common.{Some, None, sym, ◌∙◌}
use Rattle.km_script.proofs.Bases.{named_in, named_whole}
use Rattle.km_script.proofs.operands.named_operand.Goals as goal

pub returns-in_err-role-in-Some : goal.returns-in_err-role-in-Some
returns-in_err-role-in-Some c =
    c.from_residual.ensures
    ∙ named_in c.args.first c.args.plus c.args.rest.now c.in-Some.task.now c.in-Some.suffix.now None c.requires.named (c.in-Some.ensures.cut 46 c.requires.dot) (sym c.in_err-role-in-Some.was ∙ c.role_behind.ensures)

pub returns-in_ok-role-in-Some : goal.returns-in_ok-role-in-Some
returns-in_ok-role-in-Some c =
    c.operand_with.ensures
    ∙ named_in c.args.first c.args.plus c.args.rest.now c.in-Some.task.now c.in-Some.suffix.now (Some c.in_ok-role-in-Some.role) c.requires.named (c.in-Some.ensures.cut 46 c.requires.dot) (sym c.in_ok-role-in-Some.was ∙ c.role_behind.ensures)

pub returns-in-None : goal.returns-in-None
returns-in-None c = c.operand_with-in-None.ensures ∙ named_whole c.args.first c.args.plus c.args.rest.now c.requires.named (c.in-None.ensures.cut 46 c.requires.dot)
