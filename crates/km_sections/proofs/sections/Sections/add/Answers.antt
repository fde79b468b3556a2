use Rattle.std.proofs.Common.{◌≡◌, ◌*◌, refl, ◌∙◌, arith, rules}
use Rattle.km_base.specs.declared.acts.Answer.TheVariants.{Done, Refused}
use Rattle.km_base.specs.declared.acts.Refusal.TheVariants as refusal
use Rattle.km_model.specs.Placement.{pages_for}
use Rattle.km_pages.specs.Runs.{place}
use Rattle.km_sections.specs.Named.{section, section_answer, refusal_of}
use Rattle.km_sections.proofs.Lookups.{among_same}
use Rattle.km_sections.proofs.sections.Sections.add.Goals as goal

pub returns-clause-answer_among : goal.returns-clause-answer_among
returns-clause-answer_among c = λ used laid are.
    let h : Done ≡ section_answer c.args.self.now c.args.name c.args.words (place c.args.pages.now (pages_for (8 * c.args.words))) = search rules in
    h ∙ among_same c.self.inside.parts.items c.args.self.now used c.args.pages.now c.args.name c.args.words (pages_for (8 * c.args.words)) c.self.view_is laid are

pub returns-in-Some-clause-answer_among : goal.returns-in-Some-clause-answer_among
returns-in-Some-clause-answer_among c = λ used laid are.
    let h : refusal_of c.in-Some.fault ≡ section_answer c.args.self.now c.args.name c.args.words (place c.args.pages.now (pages_for (8 * c.args.words))) = search rules in
    h ∙ among_same c.self.inside.parts.items c.args.self.now used c.args.pages.now c.args.name c.args.words (pages_for (8 * c.args.words)) c.self.view_is laid are

pub returns-in_default-take-clause-answer_among : goal.returns-in_default-take-clause-answer_among
returns-in_default-take-clause-answer_among c = λ used laid are.
    let h : Refused refusal.NoRoom ≡ section_answer c.args.self.now c.args.name c.args.words (place c.args.pages.now (pages_for (8 * c.args.words))) = search rules in
    h ∙ among_same c.self.inside.parts.items c.args.self.now used c.args.pages.now c.args.name c.args.words (pages_for (8 * c.args.words)) c.self.view_is laid are

pub returns-clause-laid : goal.returns-clause-laid
returns-clause-laid c = λ used laid.
    let some = c.in_default.ensures.some refl in
    c.in-Ok.ensures.laid used (section c.args.name c.args.words c.in-Ok.start.0) laid
    (record { its_use = refl; start = refl; long = omega (arith, some); fits = omega (arith, some); whole = λ e. refl })
