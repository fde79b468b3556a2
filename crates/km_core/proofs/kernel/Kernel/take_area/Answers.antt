use Rattle.std.proofs.Common.{◌∙◌, refl, sym, ap, subst, ◌≡◌, Result, Err, rules}
use Rattle.km_base.specs.declared.acts.Act.TheVariants as acts
use Rattle.km_base.specs.declared.acts.Answer.TheVariants.{At, Refused}
use Rattle.km_core.specs.Parts.{Answers, IsReady, Parts}
use Rattle.km_core.proofs.Standing.{refused_at}
use Rattle.km_core.proofs.AreaActs.{IsTaken, area_place, area_taken, head_place, take_answers}
use Rattle.km_core.specs.Kernels.{answered}
use Rattle.km_base.specs.declared.acts.Answer.{Answer}
use Rattle.km_base.specs.declared.acts.Refusal.{Refusal}
use Rattle.km_core.proofs.kernel.Kernel.take_area.Goals as goal

pub register-requires : goal.register-requires
register-requires g c = λ enabled.
    let i = c.self.inside in
    let p : Parts = record { words = i.words; hosts = i.hosts; objects = i.objects; settings = i.settings } in
    let ready = subst IsReady (sym c.self.view_is) c.requires.ready in
    let e = c.in_ok-taken.ensures in
    let v = c.in_ok-taken.taken in
    let t : IsTaken p c.args.size v = record { answer = e.answer; head = e.head; slot = e.slot; sizes = e.sizes } in
    head_place p c.args.size v ready t enabled

pub register-requires-2 : goal.register-requires-2
register-requires-2 g c = λ enabled.
    let i = c.self.inside in
    let p : Parts = record { words = i.words; hosts = i.hosts; objects = i.objects; settings = i.settings } in
    let ready = subst IsReady (sym c.self.view_is) c.requires.ready in
    let e = c.in_ok-taken.ensures in
    let v = c.in_ok-taken.taken in
    let t : IsTaken p c.args.size v = record { answer = e.answer; head = e.head; slot = e.slot; sizes = e.sizes } in
    area_place p c.args.size v c.register.new.self.objects ready t (ap (λ x. x.settings.enabled) (sym c.register.ensures.others) ∙ enabled) c.register.ensures.registered c.register.ensures.places

pub returns-clause-answers : goal.returns-clause-answers
returns-clause-answers g c =
    let i = c.self.inside in
    let p : Parts = record { words = i.words; hosts = i.hosts; objects = i.objects; settings = i.settings } in
    let ready = subst IsReady (sym c.self.view_is) c.requires.ready in
    let e = c.in_ok-taken.ensures in
    let v = c.in_ok-taken.taken in
    let t : IsTaken p c.args.size v = record { answer = e.answer; head = e.head; slot = e.slot; sizes = e.sizes } in
    let m = c.register.new.self in
    let q = c.register-2.new.self in
    subst (λ x. Answers x q (acts.VmTake c.args.size) (At v.area.start.0)) c.self.view_is
    (area_taken p q c.take_area.new.self m.objects c.args.size v ready t (c.register-2.ensures.others ∙ ap (λ (x : Parts). record x { objects = q.objects }) c.register.ensures.others) e.pages e.roll e.held c.register.ensures.registered
    (λ s set o. c.register-2.ensures.registered s (set ∙ ap (λ x. x.settings) (sym c.register.ensures.others)) o)
    (λ roll a. c.register-2.ensures.agree roll (c.register.ensures.agree roll a)) (c.register-2.ensures.places ∙ c.register.ensures.places))

pub returns-in_err-taken-clause-answers : goal.returns-in_err-taken-clause-answers
returns-in_err-taken-clause-answers g c =
    let i = c.self.inside in
    let p : Parts = record { words = i.words; hosts = i.hosts; objects = i.objects; settings = i.settings } in
    let ready = subst IsReady (sym c.self.view_is) c.requires.ready in
    let e = c.in_err-taken.ensures in
    let why = c.in_err-taken.field-0.0 in
    let is : c.from_residual.result ≡ Err why = search rules in
    subst (λ x. Answers x (record p { hosts = c.take_area.new.self }) (acts.VmTake c.args.size) (answered c.from_residual.result)) c.self.view_is (subst (λ (o : Result Answer Refusal). Answers p (record p { hosts = c.take_area.new.self }) (acts.VmTake c.args.size) (answered o)) (sym is)
    (refused_at p c.take_area.new.self (acts.VmTake c.args.size) why ready.whole e.refused refl
    (λ s stands reached. take_answers p c.args.size (Refused why) ready.whole e.answer s stands)))
