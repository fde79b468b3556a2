use Rattle.std.proofs.Common.{ap, codes}
use Rattle.km_gen.specs.Generated.{number_line}
use Rattle.km_gen.proofs.Written.{written}
use Rattle.km_gen.proofs.generator.Generator.clear.Goals as goal

pub returns-clause-written : goal.returns-clause-written
returns-clause-written c =
    written _ _ _ _ _ _ c.offset-offset.ensures.same (ap (λ o. number_line (codes "store data+") o (codes " 0")) c.offset-offset.ensures.offset) c.number_line.ensures.written
