use Rattle.km_why.proofs.Laid.{spread}
use Rattle.km_why.proofs.laws.placed_are_spread.Goals as goal

pub returns : goal.returns
returns c = λ words w t rising placed same. spread words w placed t rising same
