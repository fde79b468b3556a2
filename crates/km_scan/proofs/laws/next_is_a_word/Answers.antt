use Rattle.km_scan.proofs.NextWords.{next_passes}
use Rattle.km_scan.proofs.laws.next_is_a_word.Goals as goal

pub returns : goal.returns
returns c = next_passes
