use Rattle.km_notes.proofs.Rounds.{rounds_read_nothing}
use Rattle.km_notes.proofs.laws.rounds_read_nothing.Goals as goal

pub returns : goal.returns
returns c = rounds_read_nothing
