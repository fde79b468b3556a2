use Rattle.km_schedules.proofs.Serial.{round_is_there}
use Rattle.km_schedules.proofs.round_is_there.Goals as goal

pub returns : goal.returns
returns c = round_is_there
