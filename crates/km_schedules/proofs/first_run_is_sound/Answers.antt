use Rattle.km_schedules.proofs.Lines.{first_run_is_sound}
use Rattle.km_schedules.proofs.first_run_is_sound.Goals as goal

pub returns : goal.returns
returns c = first_run_is_sound
