use Rattle.km_entries.proofs.Texts.{line_again}
use Rattle.km_entries.proofs.laws.texts_are_read.Goals as goal

pub returns : goal.returns
returns c = line_again
