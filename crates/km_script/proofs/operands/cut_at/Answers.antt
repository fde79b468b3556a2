use Rattle.std.proofs.Common.{sym, ◌∙◌}
use Rattle.km_script.proofs.Cuts.{cut_there, cut_none}
use Rattle.km_script.proofs.operands.cut_at.Goals as goal

pub returns-in_err-place-clause-cut : goal.returns-in_err-place-clause-cut
returns-in_err-place-clause-cut c = λ byte e. rw c.from_residual.ensures (cut_none byte c.args.bytes.now (sym e ∙ c.in_err-place.was))

pub returns-clause-cut : goal.returns-clause-cut
returns-clause-cut c = λ byte e. cut_there byte c.args.bytes.now c.in_ok-place.place (sym e ∙ c.in_ok-place.was)
