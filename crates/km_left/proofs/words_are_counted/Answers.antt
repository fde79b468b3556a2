use Rattle.km_left.proofs.Runs.{words_are_counted}
use Rattle.km_left.proofs.words_are_counted.Goals as goal

pub returns : goal.returns
returns c = words_are_counted
