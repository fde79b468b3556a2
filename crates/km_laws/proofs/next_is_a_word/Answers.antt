use Rattle.km_laws.proofs.NextWord.{next_is_a_word}
use Rattle.km_laws.proofs.next_is_a_word.Goals as goal

pub returns : goal.returns
returns c = next_is_a_word
