use Rattle.std.proofs.Common.{None, refl, sym, subst, ◌≡◌, Result, Err, rules}
use Rattle.km_base.specs.declared.acts.Act.TheVariants as acts
use Rattle.km_base.specs.declared.acts.Answer.TheVariants.{At, Refused}
use Rattle.km_model.specs.Placement.{kmalloc_span, kmalloc_use}
use Rattle.km_core.specs.Parts.{Answers, IsReady, Parts}
use Rattle.km_core.proofs.Standing.{placeable, registering}
use Rattle.km_core.proofs.HostActs.{kmalloc_answers, kmalloc_places, refused_by_hosts}
use Rattle.km_core.specs.Kernels.{answered}
use Rattle.km_base.specs.declared.acts.Answer.{Answer}
use Rattle.km_base.specs.declared.acts.Refusal.{Refusal}
use Rattle.km_core.proofs.kernel.Kernel.kmalloc.Goals as goal

pub register-requires : goal.register-requires
register-requires g c = λ enabled.
    let i = c.self.inside in
    let p : Parts = record { words = i.words; hosts = i.hosts; objects = i.objects; settings = i.settings } in
    let ready = subst IsReady (sym c.self.view_is) c.requires.ready in
    let e = c.in_ok-span.ensures in
    placeable p (acts.Kmalloc c.args.size) (At c.in_ok-span.span.start.0) (kmalloc_use c.args.size) (kmalloc_span c.args.size) c.in_ok-span.span 1 None ready
    (kmalloc_answers p c.args.size (At c.in_ok-span.span.start.0) ready.whole e.answer ready.state ready.stands) (kmalloc_places p c.args.size c.in_ok-span.span c.in_ok-span.ensures.size ready.state ready.stands) enabled

pub returns-clause-answers : goal.returns-clause-answers
returns-clause-answers g c =
    let i = c.self.inside in
    let p : Parts = record { words = i.words; hosts = i.hosts; objects = i.objects; settings = i.settings } in
    let ready = subst IsReady (sym c.self.view_is) c.requires.ready in
    let e = c.in_ok-span.ensures in
    subst (λ x. Answers x c.register.new.self (acts.Kmalloc c.args.size) (At c.in_ok-span.span.start.0)) c.self.view_is
    (registering p c.register.new.self c.kmalloc.new.self (acts.Kmalloc c.args.size) (At c.in_ok-span.span.start.0) (kmalloc_use c.args.size) (kmalloc_span c.args.size) c.in_ok-span.span 1 ready.whole
    e.pages e.roll c.register.ensures.others (λ s stands. e.held s.used stands.hosts.held) c.register.ensures.registered c.register.ensures.agree c.register.ensures.places
    (kmalloc_answers p c.args.size (At c.in_ok-span.span.start.0) ready.whole e.answer) (kmalloc_places p c.args.size c.in_ok-span.span c.in_ok-span.ensures.size) refl refl refl)

pub returns-in_err-span-clause-answers : goal.returns-in_err-span-clause-answers
returns-in_err-span-clause-answers g c =
    let i = c.self.inside in
    let p : Parts = record { words = i.words; hosts = i.hosts; objects = i.objects; settings = i.settings } in
    let ready = subst IsReady (sym c.self.view_is) c.requires.ready in
    let why = c.in_err-span.field-0.0 in
    let is : c.from_residual.result ≡ Err why = search rules in
    subst (λ x. Answers x (record { words = i.words; hosts = c.kmalloc.new.self; objects = i.objects; settings = i.settings }) (acts.Kmalloc c.args.size) (answered c.from_residual.result)) c.self.view_is (subst (λ (o : Result Answer Refusal). Answers p (record { words = i.words; hosts = c.kmalloc.new.self; objects = i.objects; settings = i.settings }) (acts.Kmalloc c.args.size) (answered o)) (sym is)
    (refused_by_hosts p c.kmalloc.new.self (acts.Kmalloc c.args.size) why ready.whole c.in_err-span.ensures.refused refl (kmalloc_answers p c.args.size (Refused why) ready.whole c.in_err-span.ensures.answer)))
