use Rattle.std.proofs.Common.{◌∙◌, refl, sym, subst, ◌≡◌, Result, Err, rules}
use Rattle.km_base.specs.declared.acts.Act.TheVariants as acts
use Rattle.km_base.specs.declared.acts.Answer.TheVariants.{Done}
use Rattle.km_core.specs.Parts.{Answers, IsReady, Parts}
use Rattle.km_core.proofs.Marks.{answer_kfree}
use Rattle.km_core.proofs.Standing.{refused_at}
use Rattle.km_core.proofs.BlockActs.{differ, freed}
use Rattle.km_core.specs.Kernels.{answered}
use Rattle.km_base.specs.declared.acts.Answer.{Answer}
use Rattle.km_base.specs.declared.acts.Refusal.{Refusal}
use Rattle.km_core.proofs.kernel.Kernel.kfree.Goals as goal

pub returns-clause-answers : goal.returns-clause-answers
returns-clause-answers g c =
    let i = c.self.inside in
    let p : Parts = record { words = i.words; hosts = i.hosts; objects = i.objects; settings = i.settings } in
    let ready = subst IsReady (sym c.self.view_is) c.requires.ready in
    let e = c.in_ok-kfree.ensures in
    subst (λ x. Answers x (record p { hosts = c.kfree.new.self; objects = c.unregister.new.self }) (acts.Kfree c.args.start.0) Done) c.self.view_is
    (freed p c.kfree.new.self c.unregister.new.self c.args.start.0 ready.whole e.answer e.held e.roll e.pages c.unregister.ensures.state c.unregister.ensures.agree c.unregister.ensures.places)

pub returns-in_err-kfree-clause-answers : goal.returns-in_err-kfree-clause-answers
returns-in_err-kfree-clause-answers g c =
    let i = c.self.inside in
    let p : Parts = record { words = i.words; hosts = i.hosts; objects = i.objects; settings = i.settings } in
    let ready = subst IsReady (sym c.self.view_is) c.requires.ready in
    let e = c.in_err-kfree.ensures in
    let why = c.in_err-kfree.field-0.0 in
    let is : c.from_residual.result ≡ Err why = search rules in
    subst (λ x. Answers x (record p { hosts = c.kfree.new.self }) (acts.Kfree c.args.start.0) (answered c.from_residual.result)) c.self.view_is (subst (λ (o : Result Answer Refusal). Answers p (record p { hosts = c.kfree.new.self }) (acts.Kfree c.args.start.0) (answered o)) (sym is)
    (refused_at p c.kfree.new.self (acts.Kfree c.args.start.0) why ready.whole e.refused refl
    (λ s stands reached. e.answer s.used stands.hosts.held (differ s reached) ∙ sym (answer_kfree s c.args.start.0 0))))
