use Rattle.std.proofs.Common.{sym, subst, ◌≡◌, Result, Ok, Err, rules}
use Rattle.km_base.specs.declared.acts.Act.TheVariants as acts
use Rattle.km_base.specs.declared.acts.Answer.{Answer}
use Rattle.km_core.specs.Parts.{Answers, IsReady, Parts}
use Rattle.km_core.proofs.TaskActs.{set_answers}
use Rattle.km_core.specs.Kernels.{answered}
use Rattle.km_base.specs.declared.acts.Refusal.{Refusal}
use Rattle.km_base.specs.declared.acts.Answer.TheVariants.{Done}
use Rattle.km_core.proofs.kernel.Kernel.set_reg.Goals as goal

pub returns-in_err-set_reg-clause-answers : goal.returns-in_err-set_reg-clause-answers
returns-in_err-set_reg-clause-answers g c =
    let i = c.self.inside in
    let p : Parts = record { words = i.words; hosts = i.hosts; objects = i.objects; settings = i.settings } in
    let q : Parts = record p { hosts = c.set_reg.new.self } in
    let act = acts.SetReg c.args.task c.args.reg c.args.value in
    let e = c.in_err-set_reg.ensures in
    let why = c.in_err-set_reg.field-0.0 in
    let is : c.from_residual.result ≡ Err why = search rules in
    subst (λ x. Answers x q act (answered c.from_residual.result)) c.self.view_is (subst (λ (o : Result Answer Refusal). Answers p q act (answered o)) (sym is)
    (set_answers p c.set_reg.new.self c.args.task c.args.reg c.args.value (Err why) (subst IsReady (sym c.self.view_is) c.requires.ready) e.answer e.set e.refused))

pub returns-clause-answers : goal.returns-clause-answers
returns-clause-answers g c =
    let i = c.self.inside in
    let p : Parts = record { words = i.words; hosts = i.hosts; objects = i.objects; settings = i.settings } in
    let q : Parts = record p { hosts = c.set_reg.new.self } in
    let act = acts.SetReg c.args.task c.args.reg c.args.value in
    let e = c.in_ok-set_reg.ensures in
    subst (λ x. Answers x q act Done) c.self.view_is
    (set_answers p c.set_reg.new.self c.args.task c.args.reg c.args.value (Ok tt) (subst IsReady (sym c.self.view_is) c.requires.ready) e.answer e.set e.refused)
