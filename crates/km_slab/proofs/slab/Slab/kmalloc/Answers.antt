use Rattle.std.proofs.Common.{◌++◌, ◌∷◌, [], List, IfOk, sym, subst}
use Rattle.km_base.specs.declared.spans.Span.{Span}
use Rattle.km_model.specs.Placement.{Allocation}
use Rattle.km_slab.specs.Blocks.{AreBlocks, IsBlock}
use Rattle.km_slab.specs.Tables.{sheets}
use Rattle.km_slab.proofs.slab.Slab.kmalloc.Goals as goal
use Rattle.km_slab.proofs.slab.Slab.kmalloc.Goals.{in-Ok, in-Err}

pub returns-clause-blocks : goal.returns-clause-blocks
returns-clause-blocks c =
    let Q = λ (s : Span). (used : List Allocation) (x : Allocation) → AreBlocks c.args.self.now used → IsBlock c.args.size s.start.0 x → AreBlocks (sheets c.take_block.new.table) (used ++ x ∷ []) in
    elim c.match-take_block.branch [
      | in-Ok w ↦ subst (λ r. IfOk r Q) (sym w.result-is) (λ used x blocks b. w.in-Ok.ensures.blocks used x (subst (λ s. AreBlocks s used) (sym c.self.view_is) blocks) b)
      | in-Err w ↦ subst (λ r. IfOk r Q) (sym w.result-is) tt
    ]
