use Rattle.std.proofs.Common.{◌≡◌, map, drop, Some, if◌then◌else◌, ◌+◌, sym, subst, ◌∙◌}
use Rattle.km_model.specs.World.{section_named}
use Rattle.km_sections.specs.Parts.{allocation}
use Rattle.km_sections.proofs.Lookups.{found}
use Rattle.km_sections.proofs.sections.start_of.Goals as goal

pub returns-then-is_same : goal.returns-then-is_same
returns-then-is_same c =
    let k = found c.args.parts.now c.args.name c.loop-part.part-index c.part-item.result c.loop-part-test.true c.part-item.is c.loop-part.invariant in
    subst (λ b. (if b then Some c.part-item.result.start.0 else section_named (map allocation (drop (c.loop-part.part-index + 1) c.args.parts.now)) c.args.name) ≡ section_named (map allocation c.args.parts.now) c.args.name)
    (sym c.is_same.ensures ∙ c.if-is_same.true) k

pub loop-part-preserved : goal.loop-part-preserved
loop-part-preserved c =
    let k = found c.args.parts.now c.args.name c.loop-part.part-index c.part-item.result c.loop-part-test.true c.part-item.is c.loop-part.invariant in
    subst (λ b. (if b then Some c.part-item.result.start.0 else section_named (map allocation (drop (c.loop-part.part-index + 1) c.args.parts.now)) c.args.name) ≡ section_named (map allocation c.args.parts.now) c.args.name)
    (sym c.is_same.ensures ∙ c.if-is_same.false) k
