use Rattle.std.proofs.Common.{◌||◌, map, is_some, sym, ap, ◌∙◌}
use Rattle.std.specs.List.{list_any}
use Rattle.km_model.specs.World.{is_section}
use Rattle.km_sections.specs.Parts.{allocation}
use Rattle.km_sections.proofs.Lookups.{any_named, some_same}
use Rattle.km_sections.proofs.sections.is_taken.Goals as goal

pub returns-else-is_reserved : goal.returns-else-is_reserved
returns-else-is_reserved c =
    let h = c.is_some.ensures ∙ some_same c.start_of.result ∙ ap is_some c.start_of.ensures ∙ sym (any_named (map allocation c.args.parts.now) c.args.name) in
    h ∙ ap (λ b. b || list_any (is_section c.args.name) (map allocation c.args.parts.now)) (sym c.if-is_reserved.false ∙ c.is_reserved.ensures)
