use Rattle.std.proofs.Common.{refl}
use Rattle.km_model.specs.Placement.{without_allocation}
use Rattle.km_pages.specs.declared.runs.Use.TheVariants.{Vmalloc}
use Rattle.km_slab.proofs.Owners.{blocks_go}
use Rattle.km_vmalloc.proofs.parts.give_parts.Goals as goal

pub returns-clause-laid : goal.returns-clause-laid
returns-clause-laid c = λ used laid blocks.
    c.give_head.ensures.laid (without_allocation used c.args.start.0) (c.give_run.ensures.laid used laid)
    (blocks_go c.args.slab.now c.args.pages.now used Vmalloc c.args.start.0 c.requires.run.0 blocks laid c.requires.run.1 refl)

pub returns-clause-blocks : goal.returns-clause-blocks
returns-clause-blocks c = λ used laid blocks.
    c.give_head.ensures.blocks (without_allocation used c.args.start.0)
    (blocks_go c.args.slab.now c.args.pages.now used Vmalloc c.args.start.0 c.requires.run.0 blocks laid c.requires.run.1 refl)
