use Rattle.km_forms.proofs.Checked.{none_written}
use Rattle.km_forms.proofs.checking.write_end.Goals as goal

pub returns-in_default : goal.returns-in_default
returns-in_default g c = none_written _ c.args.ended c.in_default.not-NotACommand
