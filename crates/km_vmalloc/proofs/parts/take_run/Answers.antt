use Rattle.std.proofs.Common.{◌*◌, refl, arith}
use Rattle.km_vmalloc.specs.Areas.{as_area}
use Rattle.km_vmalloc.proofs.parts.take_run.Goals as goal

pub returns-clause-laid : goal.returns-clause-laid
returns-clause-laid c = λ used slot laid.
    let some = c.pages_needed-count.ensures.some in
    c.in-Ok.ensures.laid used (as_area slot (record { start = c.in-Ok.start; size = 4096 * c.pages_needed-count.result })) laid
    (record { its_use = refl; start = refl; long = omega (arith, some); fits = omega arith; whole = λ e. refl })
