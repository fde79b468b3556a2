use Rattle.std.proofs.Common.{◌≡◌, sym, ap, ◌∙◌, option_map, rules}
use Rattle.std.specs.Result.{result_ok}
use Rattle.km_model.specs.World.{section_named}
use Rattle.km_sections.proofs.Lookups.{named_same}
use Rattle.km_sections.proofs.sections.Sections.start.Goals as goal

pub returns-clause-start_among : goal.returns-clause-start_among
returns-clause-start_among c = λ used are.
    let h : option_map (λ a. a.0) (result_ok c.ok_or.result) ≡ section_named c.args.self.now c.args.name = search rules in
    h ∙ sym (named_same used c.args.name ∙ ap (λ g. section_named g c.args.name) are)
