use Rattle.km_entries.proofs.Texts.{line_was}
use Rattle.km_entries.proofs.laws.read_lines_are_texts.Goals as goal

pub returns : goal.returns
returns c = line_was
