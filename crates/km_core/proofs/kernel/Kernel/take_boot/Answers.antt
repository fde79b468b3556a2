use Rattle.std.proofs.Common.{◌*◌, None, refl, sym, subst, ◌≡◌, Result, Err, rules}
use Rattle.km_base.specs.declared.acts.Act.TheVariants as acts
use Rattle.km_base.specs.declared.acts.Answer.TheVariants.{At, Refused}
use Rattle.km_model.specs.Placement.{BootRun, pages_for}
use Rattle.km_core.specs.Parts.{Answers, IsReady, Parts}
use Rattle.km_core.proofs.Standing.{placeable, registering}
use Rattle.km_core.proofs.HostActs.{boot_answers, boot_places, refused_by_hosts}
use Rattle.km_core.specs.Kernels.{answered}
use Rattle.km_base.specs.declared.acts.Answer.{Answer}
use Rattle.km_base.specs.declared.acts.Refusal.{Refusal}
use Rattle.km_core.proofs.kernel.Kernel.take_boot.Goals as goal

pub register-requires : goal.register-requires
register-requires g c = λ enabled.
    let i = c.self.inside in
    let p : Parts = record { words = i.words; hosts = i.hosts; objects = i.objects; settings = i.settings } in
    let ready = subst IsReady (sym c.self.view_is) c.requires.ready in
    let e = c.in_ok-start.ensures in
    placeable p (acts.BootMem c.args.size) (At c.in_ok-start.start.0) BootRun (4096 * pages_for c.args.size) (record { start = c.in_ok-start.start; size = c.args.size }) 0 None ready
    (boot_answers p c.args.size (At c.in_ok-start.start.0) ready.whole e.answer ready.state ready.stands) (boot_places p c.args.size c.in_ok-start.start ready.state ready.stands) enabled

pub returns-clause-answers : goal.returns-clause-answers
returns-clause-answers g c =
    let i = c.self.inside in
    let p : Parts = record { words = i.words; hosts = i.hosts; objects = i.objects; settings = i.settings } in
    let ready = subst IsReady (sym c.self.view_is) c.requires.ready in
    let e = c.in_ok-start.ensures in
    subst (λ x. Answers x c.register.new.self (acts.BootMem c.args.size) (At c.in_ok-start.start.0)) c.self.view_is
    (registering p c.register.new.self c.take_boot.new.self (acts.BootMem c.args.size) (At c.in_ok-start.start.0) BootRun (4096 * pages_for c.args.size) (record { start = c.in_ok-start.start; size = c.args.size }) 0 ready.whole
    e.pages e.roll c.register.ensures.others (λ s stands. e.held s.used stands.hosts.held) c.register.ensures.registered c.register.ensures.agree c.register.ensures.places
    (boot_answers p c.args.size (At c.in_ok-start.start.0) ready.whole e.answer) (boot_places p c.args.size c.in_ok-start.start) refl refl refl)

pub returns-in_err-start-clause-answers : goal.returns-in_err-start-clause-answers
returns-in_err-start-clause-answers g c =
    let i = c.self.inside in
    let p : Parts = record { words = i.words; hosts = i.hosts; objects = i.objects; settings = i.settings } in
    let ready = subst IsReady (sym c.self.view_is) c.requires.ready in
    let why = c.in_err-start.field-0.0 in
    let is : c.from_residual.result ≡ Err why = search rules in
    subst (λ x. Answers x (record { words = i.words; hosts = c.take_boot.new.self; objects = i.objects; settings = i.settings }) (acts.BootMem c.args.size) (answered c.from_residual.result)) c.self.view_is (subst (λ (o : Result Answer Refusal). Answers p (record { words = i.words; hosts = c.take_boot.new.self; objects = i.objects; settings = i.settings }) (acts.BootMem c.args.size) (answered o)) (sym is)
    (refused_by_hosts p c.take_boot.new.self (acts.BootMem c.args.size) why ready.whole c.in_err-start.ensures.refused refl (boot_answers p c.args.size (Refused why) ready.whole c.in_err-start.ensures.answer)))
