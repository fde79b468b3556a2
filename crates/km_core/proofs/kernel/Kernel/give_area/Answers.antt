use Rattle.std.proofs.Common.{◌∙◌, refl, sym, subst, ◌≡◌, Result, Err, rules}
use Rattle.km_base.specs.declared.acts.Act.TheVariants as acts
use Rattle.km_base.specs.declared.acts.Answer.TheVariants.{Done}
use Rattle.km_core.specs.Parts.{Answers, IsReady, Parts}
use Rattle.km_core.proofs.Marks.{answer_give}
use Rattle.km_state.specs.StateAfter.{given_back, unregistered}
use Rattle.km_core.proofs.Standing.{refused_at, same_objects}
use Rattle.km_core.proofs.BlockActs.{area_given}
use Rattle.km_core.specs.Kernels.{answered}
use Rattle.km_base.specs.declared.acts.Answer.{Answer}
use Rattle.km_base.specs.declared.acts.Refusal.{Refusal}
use Rattle.km_core.proofs.kernel.Kernel.give_area.Goals as goal

pub returns-clause-answers : goal.returns-clause-answers
returns-clause-answers g c =
    let i = c.self.inside in
    let p : Parts = record { words = i.words; hosts = i.hosts; objects = i.objects; settings = i.settings } in
    let ready = subst IsReady (sym c.self.view_is) c.requires.ready in
    let e = c.in_ok-given.ensures in
    let v = c.in_ok-given.given in
    let a = c.args.start.0 in
    subst (λ x. Answers x (record p { hosts = c.give_area.new.self; objects = c.unregister-2.new.self }) (acts.VmGive a) Done) c.self.view_is
    (area_given p c.give_area.new.self c.unregister-2.new.self a v.slot v.head.start.0 ready.whole e.answer e.slot e.head e.held e.roll e.pages
    (λ s o. let first = c.unregister.ensures.state s o in
    c.unregister-2.ensures.state (given_back (unregistered s a) v.head.start.0) (same_objects c.unregister.new.self (unregistered s a) (given_back (unregistered s a) v.head.start.0) refl refl refl refl refl refl first))
    (λ roll x. c.unregister-2.ensures.agree roll (c.unregister.ensures.agree roll x)) (c.unregister-2.ensures.places ∙ c.unregister.ensures.places))

pub returns-in_err-given-clause-answers : goal.returns-in_err-given-clause-answers
returns-in_err-given-clause-answers g c =
    let i = c.self.inside in
    let p : Parts = record { words = i.words; hosts = i.hosts; objects = i.objects; settings = i.settings } in
    let ready = subst IsReady (sym c.self.view_is) c.requires.ready in
    let e = c.in_err-given.ensures in
    let why = c.in_err-given.field-0.0 in
    let is : c.from_residual.result ≡ Err why = search rules in
    subst (λ x. Answers x (record p { hosts = c.give_area.new.self }) (acts.VmGive c.args.start.0) (answered c.from_residual.result)) c.self.view_is (subst (λ (o : Result Answer Refusal). Answers p (record p { hosts = c.give_area.new.self }) (acts.VmGive c.args.start.0) (answered o)) (sym is)
    (refused_at p c.give_area.new.self (acts.VmGive c.args.start.0) why ready.whole e.refused refl
    (λ s stands reached. e.answer s.used stands.hosts.held ∙ sym (answer_give s c.args.start.0 0))))
