use Rattle.std.proofs.Common.{◌*◌, None, refl, sym, subst, ◌≡◌, Result, Err, rules}
use Rattle.km_base.specs.declared.acts.Act.TheVariants as acts
use Rattle.km_base.specs.declared.acts.Answer.TheVariants.{Done, Refused}
use Rattle.km_model.specs.Placement.{SectionRun, pages_for}
use Rattle.km_core.specs.Parts.{Answers, IsReady, Parts}
use Rattle.km_core.proofs.Standing.{placeable, registering}
use Rattle.km_core.proofs.HostActs.{section_answers, section_places, refused_by_hosts}
use Rattle.km_core.specs.Kernels.{answered}
use Rattle.km_base.specs.declared.acts.Answer.{Answer}
use Rattle.km_base.specs.declared.acts.Refusal.{Refusal}
use Rattle.km_core.proofs.kernel.Kernel.section.Goals as goal

pub register-requires : goal.register-requires
register-requires g c = λ enabled.
    let i = c.self.inside in
    let p : Parts = record { words = i.words; hosts = i.hosts; objects = i.objects; settings = i.settings } in
    let ready = subst IsReady (sym c.self.view_is) c.requires.ready in
    let e = c.in_ok-span.ensures in
    placeable p (acts.Section c.args.name c.args.words) Done (SectionRun c.args.name) (4096 * pages_for (8 * c.args.words)) c.in_ok-span.span 0 None ready
    (section_answers p c.args.name c.args.words Done ready.whole e.answer ready.state ready.stands) (section_places p c.args.name c.args.words c.in_ok-span.span e.start e.size ready.state ready.stands) enabled

pub returns-clause-answers : goal.returns-clause-answers
returns-clause-answers g c =
    let i = c.self.inside in
    let p : Parts = record { words = i.words; hosts = i.hosts; objects = i.objects; settings = i.settings } in
    let ready = subst IsReady (sym c.self.view_is) c.requires.ready in
    let e = c.in_ok-span.ensures in
    subst (λ x. Answers x c.register.new.self (acts.Section c.args.name c.args.words) Done) c.self.view_is
    (registering p c.register.new.self c.section.new.self (acts.Section c.args.name c.args.words) Done (SectionRun c.args.name) (4096 * pages_for (8 * c.args.words)) c.in_ok-span.span 0 ready.whole
    e.pages e.roll c.register.ensures.others (λ s stands. e.held s.used stands.hosts.held) c.register.ensures.registered c.register.ensures.agree c.register.ensures.places
    (section_answers p c.args.name c.args.words Done ready.whole e.answer) (section_places p c.args.name c.args.words c.in_ok-span.span e.start e.size) refl refl refl)

pub returns-in_err-span-clause-answers : goal.returns-in_err-span-clause-answers
returns-in_err-span-clause-answers g c =
    let i = c.self.inside in
    let p : Parts = record { words = i.words; hosts = i.hosts; objects = i.objects; settings = i.settings } in
    let ready = subst IsReady (sym c.self.view_is) c.requires.ready in
    let why = c.in_err-span.field-0.0 in
    let is : c.from_residual.result ≡ Err why = search rules in
    subst (λ x. Answers x (record { words = i.words; hosts = c.section.new.self; objects = i.objects; settings = i.settings }) (acts.Section c.args.name c.args.words) (answered c.from_residual.result)) c.self.view_is (subst (λ (o : Result Answer Refusal). Answers p (record { words = i.words; hosts = c.section.new.self; objects = i.objects; settings = i.settings }) (acts.Section c.args.name c.args.words) (answered o)) (sym is)
    (refused_by_hosts p c.section.new.self (acts.Section c.args.name c.args.words) why ready.whole c.in_err-span.ensures.refused refl (section_answers p c.args.name c.args.words (Refused why) ready.whole c.in_err-span.ensures.answer)))
