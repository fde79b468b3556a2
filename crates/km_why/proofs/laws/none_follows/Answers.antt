use Rattle.km_why.proofs.Next.{none_follows}
use Rattle.km_why.proofs.laws.none_follows.Goals as goal

pub returns : goal.returns
returns c = λ t tasks stacks memory members counts s none. none_follows t tasks stacks memory members counts s none
