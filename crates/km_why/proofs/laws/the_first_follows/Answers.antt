use Rattle.km_why.proofs.Next.{first_follows}
use Rattle.km_why.proofs.laws.the_first_follows.Goals as goal

pub returns : goal.returns
returns c = λ t tasks stacks memory members counts key s f. first_follows t tasks stacks memory members counts s key f
