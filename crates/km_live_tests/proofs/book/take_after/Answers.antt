use Rattle.std.proofs.Common.{arith, ap}
use Rattle.km_live_map.specs.Views.{View}
use Rattle.km_live_tests.proofs.book.take_after.Goals as goal

pub returns : goal.returns
returns g c =
    let most = ap (λ (w : View). w.most) c.join.ensures.main in
    let long = c.take.ensures.knows.most in
    omega (arith, most, long)
