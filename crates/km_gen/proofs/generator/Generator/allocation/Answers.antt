use Rattle.std.proofs.Common.{◌+◌, ◌%◌, ap, codes, ◌∙◌}
use Rattle.km_gen.specs.Generated.{drawn_offset, next_state, number_line}
use Rattle.km_gen.proofs.Written.{both_written}
use Rattle.km_gen.proofs.generator.Generator.allocation.Goals as goal

pub returns-clause-written : goal.returns-clause-written
returns-clause-written c =
    both_written _ _ _ _ _ _ _ _ _ _ c.draw.ensures.same c.in_ok-number_line.ensures.written
    (ap (λ d. number_line (codes "kmalloc ") (1 + d % 512) (codes " t.r0")) c.draw.ensures.drawn)
    c.offset-offset.ensures.same
    (ap (λ o. number_line (codes "store data+") o (codes " t.r0"))
    (c.offset-offset.ensures.offset ∙ ap (λ x. drawn_offset (next_state x)) (c.number_line.ensures.same ∙ c.draw.ensures.state)))
    c.number_line-2.ensures.written
