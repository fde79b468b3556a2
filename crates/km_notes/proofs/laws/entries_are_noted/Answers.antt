use Rattle.km_notes.proofs.Noting.{entries_noted}
use Rattle.km_notes.proofs.laws.entries_are_noted.Goals as goal

pub returns : goal.returns
returns c = entries_noted
