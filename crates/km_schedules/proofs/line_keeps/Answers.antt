use Rattle.km_schedules.proofs.Lines.{line_keeps}
use Rattle.km_schedules.proofs.line_keeps.Goals as goal

pub returns : goal.returns
returns c = line_keeps
