use Rattle.km_schedules.proofs.Leads.{round_keeps}
use Rattle.km_schedules.proofs.round_keeps.Goals as goal

pub returns : goal.returns
returns c = round_keeps
